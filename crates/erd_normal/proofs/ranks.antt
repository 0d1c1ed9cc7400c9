-- Positions and ranks give the order and the `@id`s that are specified, and the tree that is written by them is the one that is
-- specified.
pub mod SelectionRanks
pub mod RankedReferences
pub mod WrittenTrees
