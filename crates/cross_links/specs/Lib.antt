pub mod CrossRecipe
pub mod Joining
pub mod Ways
pub mod Steps
pub mod Laws
