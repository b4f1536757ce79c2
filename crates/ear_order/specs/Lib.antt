pub mod Ears
pub mod Crossing
pub mod Turns
pub mod Paths
pub mod Easy
