-- The walk that judges references tells exactly the faults of references.
pub mod ReferenceFaultLists
pub mod ReferenceLookups
pub mod SilentWalks
pub mod ReferenceWalks
pub mod ClearArrays  -- arrays of references in which no reason is told
