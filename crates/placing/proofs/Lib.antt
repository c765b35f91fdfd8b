-- What the conditions say in the words of the functions that test them.
pub mod Routes
