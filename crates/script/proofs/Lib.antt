pub mod Digits
pub mod Meant
pub mod Naming
pub mod Pieces
pub mod Reading
