-- Facts that the proofs of the functions share:
pub mod RowSteps
pub mod ReadingSteps
pub mod PutSteps
pub mod ReportSteps
pub mod ReportLaws
pub mod SceneReport
pub mod AnswerSteps
