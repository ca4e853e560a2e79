mod Pieces
mod Whole
