-- Laws that the proofs of this crate's functions cite.
pub mod Begin
pub mod Accepted
