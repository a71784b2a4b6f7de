-- What the fakes of the tests hold.
pub mod Files
