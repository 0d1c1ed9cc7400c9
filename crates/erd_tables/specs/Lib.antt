-- The definitions of this crate, in reading order. Public contracts cite all of them.
pub mod Classes  -- the classes, their texts, roles and families
pub mod Families  -- one value for each family
pub mod Rows  -- the rows of the member table, class by class
pub mod Table  -- the table read off: the kind of a member, and what a class requires
pub mod Texts  -- the order of texts
pub mod Places  -- places in a JSON value, their order and their pointers
pub mod Faults  -- faults, their order and their lines
