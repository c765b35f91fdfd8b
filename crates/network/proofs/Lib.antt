-- What `any` answers over numbers and over records.
pub mod Any
-- Code 7 by the array of plans.
pub mod Laws
-- Code 8 by the stem sides of boxes.
pub mod Sides
-- Sums, and code 8 by how many segments the boxes list.
pub mod Sums
pub mod Listed
-- The codes by the tests that lead to them.
pub mod Codes
