pub mod Parting
pub mod Held
pub mod Growing
pub mod Seen
pub mod WaysUp
pub mod Answers
