pub mod SyncFlags
pub mod Synopsis
pub mod ClapFaults
pub mod Requests
pub mod Statuses
pub mod Examples
