pub mod Alone
pub mod Joining
pub mod Growing
pub mod Gathered
