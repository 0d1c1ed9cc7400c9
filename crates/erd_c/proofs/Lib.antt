-- The lemmas of this crate, beside the folders of the functions' own proofs.
pub mod Answered  -- what engines answer for bytes, and what is told of it
pub mod Words  -- how bytes are cut into words
pub mod examples  -- worked examples
