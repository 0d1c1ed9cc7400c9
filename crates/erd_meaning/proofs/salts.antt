-- The claim: what the salt of a report is computed from tells all that its indexes hash.
pub mod SaltedParts  -- each part that is written tells where it ends
pub mod HashedReports  -- what is hashed of what the program meets
pub mod SaltedKeys  -- the keys of each index are told by these parts
