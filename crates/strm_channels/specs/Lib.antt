pub mod Changes
pub mod Channels
pub mod Guests
pub mod Meetings
