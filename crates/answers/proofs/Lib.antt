pub mod NodeNames
pub mod CrossTerms
pub mod TermRows
pub mod Solved
pub mod ThreeBlocks
pub mod Telling
pub mod NoPath
