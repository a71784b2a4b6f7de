-- Lemmas on what is said, on the lines of a script, and on replies.
pub mod SaidFirst
pub mod ScriptLines
pub mod LastNumbers
