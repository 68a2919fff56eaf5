pub mod QuoteSteps
pub mod QuoteParts
pub mod PartUnless
pub mod TextParts
pub mod DelimiterParts
pub mod StringParts
pub mod StringWriting
pub mod StringsFit
