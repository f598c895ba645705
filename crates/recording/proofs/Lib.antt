-- The recording of a trace:
pub mod RecordSteps
