-- Runs, breakpoints, watches, queries, and steps back.
pub mod History
pub mod Stops
pub mod Breaks
pub mod Watches
pub mod Debugging
pub mod Queries
pub mod Calls
pub mod BreakBits
pub mod HistoryRing
pub mod Snapshots
pub mod Runs
pub mod Moves
pub mod Traces
