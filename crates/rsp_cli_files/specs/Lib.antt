-- What a store of files tells of them, what a save may replace, and the name of the new file beside it.
pub mod Files
pub mod Faults
pub mod Overwriting
pub mod Beside
pub mod Targets
pub mod Words
