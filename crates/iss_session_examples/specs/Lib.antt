pub mod Program
pub mod Unfolded
pub mod Telling
pub mod WorkedClients
pub mod WorkedGateways
