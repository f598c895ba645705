-- What reading gave:
pub mod Reading
