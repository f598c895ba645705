-- What the public contracts say, with the rules' own words:
pub mod Lent
pub mod Fits
pub mod Listing
pub mod FeedbackListed
pub mod Over
pub mod Assessed
-- what the steps promise each other:
pub mod Pattern
pub mod Rows
pub mod Told
pub mod Sums
