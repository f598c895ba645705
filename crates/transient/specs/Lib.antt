-- The tests of a trace, in their steps:
pub mod Tested
-- a component sought among the contracts:
pub mod Sought
-- the pulses of a row of events, and what is judged of them:
pub mod Row
pub mod Judged
