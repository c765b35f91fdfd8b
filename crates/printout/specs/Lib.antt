-- What the inner functions of the printout leave; the public one is stated by the definitions of `rules`.
pub mod Short
