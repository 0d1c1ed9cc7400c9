pub mod Comparing  -- what an answer says of two meanings, and of which values it is asked; read this one first
pub mod Choices  -- values: which members of an object are compared apart
pub mod ContentParts  -- values: what stands inside a header, and contests that carry no member
pub mod PlainParts  -- objects: what a member means by itself
pub mod SelectionMembers  -- objects: the selections of a contest, as a member of it
pub mod CommonNames  -- ranks: which number stands for the name of a selection
pub mod SelectionsByName  -- objects: which selection has a name, and the selections of a contest by the numbers of their names
pub mod NamesInStep  -- objects: the members that are left, as those of two objects are walked in step by their names
pub mod LeastNames  -- objects: the least name of a member at which two objects differ
pub mod MemberPairs  -- objects: what two objects have under one name, and the answers that decide whether it is the same
pub mod DifferingNames  -- objects: all names at which two objects differ
pub mod DifferingWays  -- objects: the ways in which two objects differ, all or the first
pub mod DifferingParts  -- all differences in a part
pub mod DifferingKeys  -- the keys of a part at which two reports differ
pub mod HeldDifferences  -- objects: the ways in which two objects differ with the keys of the elections that hold them
pub mod KeyedDifferences  -- the first difference: the least key at which two reports differ in a part
pub mod CommonRanks  -- ranks: which rank stands for a key of either report
pub mod RankedSides  -- ranks: the ranks of keys on either side
pub mod RisingParts  -- the first difference: what two reports have in a part, in the rising order of keys
pub mod Compared  -- the two reports, and what the code knows of them
pub mod PlacedObjects  -- objects: where they stand in their reports
pub mod ContestSelections  -- inside: the selections of a contest at a position of a report, by their names
pub mod NamedSelections  -- inside: the selections of two contests by the numbers of their names, and the ways in which they differ
