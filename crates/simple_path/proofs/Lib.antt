pub mod Pools
pub mod Regions
pub mod Along
