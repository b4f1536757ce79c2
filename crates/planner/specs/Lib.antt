pub mod Planned
pub mod Measures
