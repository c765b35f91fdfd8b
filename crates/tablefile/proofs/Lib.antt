-- Laws that the proofs of this crate's functions cite.
pub mod Empty
pub mod Fill
pub mod Parts
pub mod Codes
pub mod Files
