-- Counting with tests, and kept entries:
pub mod Counting
-- one edge relaxed, what the taken nodes tell of others, one node taken:
pub mod Relaxations
pub mod Sources
pub mod Takes
-- what the steps leave as it is:
pub mod Keeping
-- the lists before a node is taken, and once all are:
pub mod Starting
pub mod Ending
-- what is listed from them, the lists that fit, and the whole:
pub mod Listing
pub mod Fitting
pub mod Whole
-- what the contract gives a caller:
pub mod Promises
