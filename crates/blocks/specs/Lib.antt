pub mod Blocks
pub mod Sides
pub mod Cutting
pub mod Working
