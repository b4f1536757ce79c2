pub mod Trees
pub mod Hops
pub mod Stopping
pub mod Marks
pub mod Holding
pub mod Cutting
