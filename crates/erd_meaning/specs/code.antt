-- What private functions answer, step by step, and laws that the code cites; that it agrees with the definitions is proved.
pub mod Orders  -- the orders of keys and names are total, and tell unequal ones apart
pub mod ChosenKeys  -- the order in which the program chooses among identifiers
pub mod NumberedOrders  -- their order is total, tells unequal ones apart, and keeps the order of names if the numbers keep that of keys
pub mod ObjectWalk  -- the elections and the objects in the order in which the program meets them, with the faults of identity
pub mod Spots  -- the place of an object, given the positions that the program keeps of it
pub mod ElectionKeys  -- what the program keeps of the elections: their keys
pub mod ObjectLookups  -- look-ups among the objects that are kept
pub mod ObjectIndexes  -- the indexes that the program keeps of the objects
pub mod Indexed  -- when these indexes are those of the objects
pub mod OwnIds  -- what tells objects apart, where no two have one `@id`
pub mod ReferenceReasons  -- the reasons of a reference, as the program tells them
pub mod RisingNumbers  -- numbers that rise
pub mod SelectionWalk  -- the names of selections in the order in which the program meets them, with the faults of selections
pub mod KeyOrders  -- the order of objects by their keys: their positions in rising order, and their ranks
pub mod RanksAmong  -- names with ranks among the objects that the program keeps, which an index compares
pub mod RankedOrders  -- their order is total, and equal ones are hashed alike
pub mod Shown  -- what the program's own structs stand for
pub mod Held  -- what clauses see of the tables under a salt
pub mod ShownWalks  -- what clauses see of the walks
pub mod CollectedWalks  -- what clauses see of what is collected
pub mod HashedMet  -- what the indexes hash of what the program meets
pub mod SaltLaws  -- the salt covers the keys of each index
pub mod Resolved  -- what holds of a report after each phase, and of an accepted one
pub mod ResolvedElections  -- what holds of the elections that a report keeps
pub mod ResolvedIndexes  -- what a report holds beside its tree
