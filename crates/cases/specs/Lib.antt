pub mod Worked
pub mod Wrong
