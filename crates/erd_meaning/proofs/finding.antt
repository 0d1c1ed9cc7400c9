-- The claim: what an accepted report finds by a position, a key, an `@id` or a name is what has it, and there is one at most.
pub mod OneObject
pub mod Found
pub mod FoundSelections
pub mod Known  -- what the indexes know of earlier objects
pub mod Pushed
pub mod ElectionsHeld  -- the elections by position, and which one holds an object
