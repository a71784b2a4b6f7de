-- Scripts: what their commands do, and the replies.
pub mod Looks
pub mod Faults
pub mod Replies
pub mod Session
pub mod Run
pub mod LongLineAnswers
pub mod Laws
pub mod Refusals
pub mod OutOfMemoryReplies
