-- What is told of a stored sample:
pub mod Sample
-- what a function of the program answers:
pub mod Replay
