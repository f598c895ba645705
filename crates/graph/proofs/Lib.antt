-- Marks and chains:
pub mod Filled
pub mod Chains
-- how often each node is an end:
pub mod EndCounting
-- what depth-first visits do, step by step:
pub mod Visits
pub mod OrderSteps
pub mod GroupSteps
-- what they see, and the order in which they leave the nodes:
pub mod Seen
pub mod LeavingOrder
-- from the two passes to the groups, and from the groups to the marks:
pub mod Neighbours
pub mod Kosaraju
pub mod Sweep
pub mod SharedMarks
pub mod Fitting
-- what the contract gives a caller:
pub mod Promises
