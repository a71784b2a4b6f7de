pub mod Known
pub mod Carried
