-- Lemmas of the call: lists 5 to 7, and the answer
pub mod NodeSteps
pub mod ProjectedByIds
pub mod Rising
pub mod ProjectSteps
pub mod SceneAssess
