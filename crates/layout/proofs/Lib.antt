-- The codes in their order.
pub mod Codes
