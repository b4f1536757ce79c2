pub mod Gates
pub mod Trees
pub mod Stops
pub mod Advancing
