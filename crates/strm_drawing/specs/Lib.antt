pub mod Marks
pub mod Holders
pub mod Moves
pub mod Folding
pub mod Running
pub mod Places
pub mod Svg
pub mod Serving
