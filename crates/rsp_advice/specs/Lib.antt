-- What `--explain` knows of commands and faults.
pub mod Tables
