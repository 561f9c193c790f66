pub mod Contexts
pub mod Inside
