pub mod Answers
pub mod Runs
pub mod Held
pub mod Promises
