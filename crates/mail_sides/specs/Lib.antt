pub mod NearFaults
pub mod NearSides
pub mod Chosen
pub mod Stages
pub mod FarFaults
pub mod FarStops
pub mod FarSides
