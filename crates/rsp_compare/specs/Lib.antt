-- The add, compare, clip, merge and logic instructions, each by its rule for one lane.
pub mod Adds
pub mod Clips
pub mod ClipParts
pub mod Logic
pub mod Selects
