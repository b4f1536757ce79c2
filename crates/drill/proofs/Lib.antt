pub mod PairLists
pub mod Hits
pub mod Growth
pub mod Marking
pub mod Drawing
