-- What the passes of the crate promise each other; what the call promises is in the crate rules
pub mod Nodes
pub mod Ready
pub mod Answer
