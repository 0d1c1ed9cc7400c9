-- A report that says the same as an accepted one means the same.
pub mod Members
pub mod References
pub mod Records
pub mod Meanings
