mod Laying
mod Through
mod Writes
