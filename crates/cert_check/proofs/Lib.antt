pub mod Places
pub mod Chosen
pub mod Seen
pub mod Turns
pub mod Uses
pub mod Balances
pub mod Wholes
pub mod NoFault
