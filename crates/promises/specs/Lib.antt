pub mod LossOfChain
pub mod Lost
pub mod PowerLoss
pub mod Shortening
