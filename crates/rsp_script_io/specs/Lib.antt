-- Reading a script in pieces, and writing the replies to its lines.
pub mod Pieces
pub mod Feeds
pub mod Faults
pub mod EarlyEnd
pub mod Lines
pub mod Replies
pub mod Ends
pub mod Views
pub mod Text
