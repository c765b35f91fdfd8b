-- What the functions of this crate compute. Of the public ones the codes of `read_head` and the memory of `route` are stated here, the
-- rest by the definitions of `rules`.
pub mod Whole
pub mod Places
pub mod Part
