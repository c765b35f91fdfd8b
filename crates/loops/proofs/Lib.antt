-- A pass that raises ranks, and what its end says of loops.
pub mod Rising
