pub mod Solving
pub mod Filling
pub mod Tallying
pub mod Agreeing
