-- The tests in their order, step by step:
pub mod Room
pub mod SizeSteps
pub mod SideBySide
pub mod Repeats
pub mod ComponentSteps
pub mod Named
pub mod LookupSteps
pub mod ConnectionSteps
-- a scene that is accepted, and its Feedback:
pub mod IndexSteps
pub mod PositionSteps
pub mod PlaceSteps
pub mod SceneFeedback
