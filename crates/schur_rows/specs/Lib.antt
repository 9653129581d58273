pub mod Laws
pub mod Parts
pub mod PivotNumbers
pub mod Round
pub mod RestBasis
