-- What the public contract says, with the rules' own words:
pub mod Fits
-- what the steps of the pass promise each other:
pub mod Worklist
pub mod Pass
-- both, at the structs of lists:
pub mod Lent
