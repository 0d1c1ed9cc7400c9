-- The definitions of this crate.
pub mod Told  -- what a call of the library tells
pub mod Lines  -- what the call for a command line tells
pub mod Prepared  -- what the call that prepares a report tells
pub mod code  -- what private functions answer, which a reader may skip
