-- What the refusals of the size are:
pub mod Refusing
