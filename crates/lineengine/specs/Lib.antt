-- What the library's contracts name beside the definitions of `rules`.
pub mod WriteBack
pub mod Safe
pub mod Print
