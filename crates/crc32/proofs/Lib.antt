pub mod Bound
pub mod Entries
pub mod Joined
pub mod Register
pub mod Rows
pub mod RowsAt
pub mod Xor
