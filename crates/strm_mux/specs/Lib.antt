pub mod Carrying
pub mod Lines
pub mod LineReading
pub mod Texts
pub mod Serving
pub mod Answering
pub mod Hearing
