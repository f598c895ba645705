-- Rows, and the chains of nodes as those of a scene's components:
pub mod Rows
pub mod NodeScenes
-- what the passes do, step by step:
pub mod FitSteps
pub mod MarkSteps
pub mod ListSteps
pub mod EdgeLists
pub mod RetainSteps
pub mod WalkSteps
pub mod FillSteps
-- the calls:
pub mod CallSteps
pub mod PartSteps
-- what the contract gives a caller:
pub mod Promises
