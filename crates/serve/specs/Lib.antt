pub mod Connections
pub mod Faults
