-- What stands around a train, as the functions of this crate look it up; the others are stated by the definitions of `rules`.
pub mod Sight
