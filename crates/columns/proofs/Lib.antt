-- What stands in a column.
pub mod Column
-- What stands at each number of a table's columns.
pub mod Numbered
-- A table's columns are its track, its ways and its points.
pub mod Tracks
