-- Lemmas on the instructions.
mod ClipLanes
mod ClipSigns
mod ClipRows
pub mod Comparisons
pub mod Merges
pub mod Sums
