-- What writing took:
pub mod Writing
