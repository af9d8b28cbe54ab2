pub mod Cells
pub mod Rows
pub mod Spans
pub mod Windows
pub mod Holding
