-- What the iterators over lengths answer:
pub mod Iterated
