-- The criterion of an intent judges as the intent does:
pub mod Criteria
