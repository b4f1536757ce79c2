pub mod Draws
pub mod Limits
pub mod Generated
pub mod Marks
pub mod Drill
