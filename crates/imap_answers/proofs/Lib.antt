pub mod Left
pub mod Unread
pub mod Listed
pub mod BodyReported
pub mod Placed
pub mod HeardSame
pub mod Permitted
