-- What a run of the program did:
pub mod Run
