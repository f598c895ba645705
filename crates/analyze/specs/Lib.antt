-- What the call asks of its parts; what it promises is in the crate rules
pub mod Analyze
