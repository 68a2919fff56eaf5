pub mod VerbParts
pub mod RequestParts
pub mod CommandParts
pub mod MessageParts
pub mod WrittenCommands
pub mod MessageWaits
pub mod CommandFeeds
pub mod CommandsFit
