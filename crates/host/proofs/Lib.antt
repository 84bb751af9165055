pub mod Letters
pub mod Zeros
