pub mod Light
pub mod Piece
pub mod Turn
