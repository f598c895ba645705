-- The tests of events and contracts, row by row:
pub mod Tests
-- the contract of a component:
pub mod Registered
-- places of the row, findings and tallies, one after the other:
pub mod Places
pub mod Listing
pub mod Tallies
pub mod Writing
pub mod Judging
-- the whole call:
pub mod Whole
