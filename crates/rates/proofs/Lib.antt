pub mod Rounding
pub mod Entries
pub mod Laws
pub mod Tables
