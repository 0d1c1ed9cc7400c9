-- What stands inside objects and arrays, and what is asked of it.
pub mod Homes
pub mod Members
pub mod RisingLabels
pub mod Walks
pub mod Entries
