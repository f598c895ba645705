-- The passes, step by step:
pub mod Fitting
pub mod SideBySide
pub mod ListingSteps
pub mod AllSettled
pub mod PatternSteps
pub mod OwnReasons
pub mod RowSteps
pub mod SumSteps
-- what they find, put together, and what it is of a scene:
pub mod AssessSteps
pub mod ByIds
pub mod Promises
