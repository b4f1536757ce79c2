pub mod HomeLabels
pub mod Classes
