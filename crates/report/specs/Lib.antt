pub mod Text
pub mod Request
pub mod Report
pub mod Bounds
pub mod Steps
