-- What a list of records is as lists of numbers:
pub mod Records
