-- Vector registers, vector loads and stores, and moves.
pub mod File
pub mod Addresses
pub mod Pairs
pub mod Loads
pub mod Stores
pub mod Moves
pub mod Controls
pub mod TransposedLanes
pub mod Windows
