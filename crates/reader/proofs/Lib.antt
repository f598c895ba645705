-- Facts that the proofs of the functions share:
pub mod LineSteps
pub mod FieldSteps
pub mod NumberSteps
pub mod SignedSteps
