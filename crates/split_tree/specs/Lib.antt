pub mod Pieces
pub mod Trees
pub mod OneProof
pub mod Parts
pub mod Stages
