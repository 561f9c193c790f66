pub mod Again
pub mod Lives
