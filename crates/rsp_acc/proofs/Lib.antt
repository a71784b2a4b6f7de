-- Lemmas on accumulators.
pub mod Sum
pub mod Clamps
pub mod Fill
pub mod Range
pub mod Rejoined
pub mod Lows
