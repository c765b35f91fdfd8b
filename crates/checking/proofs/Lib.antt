-- Errors as tests, and chains over two lists.
pub mod Laws
