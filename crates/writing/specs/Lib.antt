-- What the inner functions of the writer ask and leave; the public ones are stated by the definitions of `rules`.
pub mod Written
