-- The definitions of this crate, in reading order; nothing here rests on what stands in `code`.
pub mod Salts  -- the numbers by which an index hashes its keys under a salt
pub mod code  -- laws that the code cites, which a reader may skip
