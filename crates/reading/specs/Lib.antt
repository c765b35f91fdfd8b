-- What the inner functions of this crate compute; the public ones are stated by the definitions of `rules`.
pub mod Start
