-- From a line of a script to its command.
pub mod Number
pub mod LineWords
pub mod Operand
pub mod Command
pub mod Line
pub mod Faults
