mod Walks
pub mod Arriving
pub mod Opening
pub mod Noting
pub mod GoingOn
pub mod Ending
pub mod BoxCalls
pub mod BookPartLemmas
pub mod BookCalls
pub mod Carrying
pub mod CarryCalls
pub mod BeforeSteps
pub mod NamingLemmas
