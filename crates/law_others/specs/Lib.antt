pub mod Acts
pub mod ActLaws
pub mod NextPlan
