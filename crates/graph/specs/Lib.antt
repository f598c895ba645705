-- What the public contract says, with the rules' own words:
pub mod Fits
-- what the passes below it promise each other:
pub mod Adjacency
pub mod Chained
pub mod EndCounts
pub mod Visits
pub mod Groups
