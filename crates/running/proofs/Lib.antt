-- What holds between two steps of a run.
pub mod Running
-- What stands around each train, kept.
pub mod Views
-- A step as a program takes it.
pub mod Turn
-- The ends of a run.
pub mod Runs
