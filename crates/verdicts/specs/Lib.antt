-- The structs of this crate as the rules speak of them:
pub mod Read
-- what is judged of the pulses of one component:
pub mod Criteria
