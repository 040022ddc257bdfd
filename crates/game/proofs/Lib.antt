pub mod OneNode
pub mod Rolls
pub mod Best
pub mod Comparing
pub mod Alike
pub mod Rows
pub mod Backward
