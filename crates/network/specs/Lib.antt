-- What the functions behind code 8 test: a box by its stem side, and how many segments the boxes list. All else is stated by the
-- definitions of `rules`.
pub mod Sided
pub mod Places
