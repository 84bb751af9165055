pub mod Fields
pub mod Cursors
pub mod Holders
