pub mod JoinedPanels
pub mod ReducedPieces
pub mod SharedPieces
pub mod Splitting
pub mod UnitRows
