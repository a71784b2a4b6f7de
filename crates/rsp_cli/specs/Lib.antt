-- What a run reads and leaves, what a strict run counts, and how the program ends.
pub mod Ends
pub mod Faults
pub mod Inputs
pub mod Runs
pub mod Streams
pub mod Watching
