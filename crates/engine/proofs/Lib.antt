-- A single step.
pub mod Single
