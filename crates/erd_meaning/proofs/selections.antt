-- The claim: the walk over the selections of a report gives each its name, and tells exactly the faults of selections.
pub mod MetSelections
pub mod NamesTold
pub mod ContestSelections
pub mod WalkedNames
pub mod RankedKeys  -- the ranks of keys are in the order of the keys
pub mod PositionedKeys  -- keys with positions, in rising order
pub mod RankedTests
pub mod RankedReports
