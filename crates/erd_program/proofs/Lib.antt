-- The lemmas of this crate.
pub mod Asked
pub mod Closing
pub mod Shown
mod Examples  -- worked examples
