-- What the public contracts say, with the rules' own words:
pub mod Entries
pub mod Projecting
pub mod PathPart
-- what the passes below promise each other:
pub mod Marking
pub mod Walking
-- both, at the structs of lists:
pub mod Lent
