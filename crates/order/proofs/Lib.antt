-- Facts that the proofs of the functions share:
pub mod Sorting
pub mod Checking
pub mod Whole
pub mod Searching
pub mod RisingRow
-- a loop over the pairs of neighbours of a row:
pub mod Pairs
-- what the contracts give a caller:
pub mod Promises
