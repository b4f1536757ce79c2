pub mod Names
pub mod Distinct
pub mod Topology
pub mod Faults
pub mod Draft
pub mod Monitors
pub mod Choice
pub mod Numbered
