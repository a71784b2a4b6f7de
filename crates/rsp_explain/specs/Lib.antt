-- What `--explain` says, and what a reply to a script answers.
pub mod Heads
pub mod Said
pub mod Places
pub mod Replies
