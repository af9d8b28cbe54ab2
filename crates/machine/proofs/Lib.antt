mod Places
mod Operations
mod Tables
mod Holds
mod Contacts
mod Turns
mod Outcomes
mod Sound
mod Counts
mod Proper
mod Asked
mod Declined
mod Ties
mod Within
mod Meaning
mod Serial
mod History
mod Causes
pub mod Changes
mod Yields
pub mod Promises
