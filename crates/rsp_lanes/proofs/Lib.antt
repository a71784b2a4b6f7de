-- Lemmas on eight lanes, on flags and on rules of one lane.
pub mod ByteOrder
pub mod ByteLanes
pub mod Carry
pub mod Kit
pub mod Saturation
pub mod Masks
pub mod ByteTables
pub mod Wide
pub mod Products
pub mod Signs
pub mod Sources
pub mod Sums
pub mod FlagLanes
pub mod Rules
