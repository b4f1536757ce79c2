pub mod Trees
pub mod Placing
pub mod Numbers
pub mod Shortening
