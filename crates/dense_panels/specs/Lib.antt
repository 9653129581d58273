pub mod Panel
pub mod Pieces
pub mod SharedPieces
pub mod Splitting
pub mod Units
