-- The claim: the walk over a report meets each election and each object once, in the order of places, and tells exactly the
-- faults of identity.
pub mod MetObjects
pub mod ObjectPlaces
pub mod ObjectFamilies
pub mod ToldFaults
pub mod MetLists
pub mod IdentityFaults
