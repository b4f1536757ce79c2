pub mod Roots
pub mod Names
pub mod Terms
pub mod Measures
pub mod Kept
