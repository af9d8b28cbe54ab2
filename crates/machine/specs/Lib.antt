pub mod Machine
pub mod Log
pub mod Runs
pub mod States
pub mod Promises
