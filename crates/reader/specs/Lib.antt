-- What the finding of a line promises, and what the answers of the readers say:
pub mod Lines
pub mod Readings
