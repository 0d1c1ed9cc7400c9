-- The lemmas of this crate, beside the folders of the functions' own proofs.

-- texts that differ
pub mod Texts
-- a class is answered exactly for its own text
pub mod ClassTexts
-- tests of lists
pub mod Lists
-- names in a pointer
pub mod Pointers
-- the class that a text names where a role is wanted
pub mod Roles
-- the order of places is total and exact
pub mod PlaceOrder
-- worked examples
mod Examples
