pub mod Cells
pub mod Reports
