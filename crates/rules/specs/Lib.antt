-- The meanings, in reading order. Words, delays, kinds and numbers:
pub mod Lists
pub mod Bytes
pub mod Ordered
pub mod Delay
pub mod Kinds
pub mod Codes
pub mod Decoded
-- the scene, its edges and paths, and what is said of them:
pub mod Graph
pub mod Scene
pub mod Paths
pub mod Labels
pub mod Reasons
pub mod Projection
pub mod Positions
-- the refusals of a scene, and the calls on a scene:
pub mod Refusals
pub mod Feedback
pub mod Describe
pub mod Assess
pub mod Analyze
-- recorded pulses, also by windows, the trace call, and recording:
pub mod Pulses
pub mod Windows
pub mod Verdicts
pub mod Traces
pub mod Recording
-- the report program: the text of a scene, and what is printed:
pub mod Text
pub mod Report
-- the structs by which these lists are lent:
pub mod Lent
