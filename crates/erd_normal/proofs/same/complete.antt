-- Accepted reports that mean the same say the same.
pub mod Values
pub mod Contents
pub mod Counterparts
pub mod Texts
pub mod Complete
