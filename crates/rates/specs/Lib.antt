pub mod Model
pub mod Refusals
pub mod Formulas
pub mod Checks
pub mod Kinds
