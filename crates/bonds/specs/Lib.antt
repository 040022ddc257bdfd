pub mod Bonds
pub mod Desks
