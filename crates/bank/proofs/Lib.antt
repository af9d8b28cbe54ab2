mod Held
mod Holds
mod Order
pub mod Replies
pub mod Ways
mod Windows
