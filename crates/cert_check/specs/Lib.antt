pub mod Faults
pub mod Reports
pub mod Counting
pub mod Laws
