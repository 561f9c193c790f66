pub mod Words
pub mod Grammar
pub mod Lines
pub mod Reading
pub mod Text
pub mod Generator
pub mod Rows
pub mod Kept
