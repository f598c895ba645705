-- The record as the rules speak of it:
pub mod Held
