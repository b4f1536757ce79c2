pub mod HubLinks
pub mod Telling
