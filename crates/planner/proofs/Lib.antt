pub mod Buildable
pub mod Named
pub mod Whole
pub mod Allowing
