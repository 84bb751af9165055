pub mod Host
pub mod Writing
