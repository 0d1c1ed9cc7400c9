-- Canonical reports that mean the same say the same, and are equal.
pub mod SameTrees
pub mod Unique
