-- What a sort of positions, a search in them and a test of their keys promise:
pub mod Sorted
pub mod Searched
pub mod Rising
