-- What the functions of the crate promise each other; what the calls promise is in the crate rules. The lists lent:
pub mod Lent
-- the tests:
pub mod Room
pub mod Steps
pub mod Ends
pub mod Lookup
-- a scene that is accepted:
pub mod Indexed
pub mod Placed
pub mod ScenePositions
