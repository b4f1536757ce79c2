pub mod Numbers
pub mod Table
pub mod Machine
pub mod Status
pub mod Text
pub mod Ends
pub mod Run
pub mod Headline
