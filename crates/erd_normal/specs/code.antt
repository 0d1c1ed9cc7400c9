pub mod NormalTree  -- what values and contents of a report become, with ranks counted
pub mod View  -- the same tree by one recursion over what the table asks
pub mod WrittenTree  -- the same tree, with objects and selections found by their positions
pub mod Orders  -- the orders in which the objects of a report are written
pub mod ElectionObjects  -- the objects of a family in order with their positions, election by election
pub mod SelectionOrders  -- the selections of a contest in order, and their ranks
pub mod Building  -- what is built one after another: members put
pub mod DueMembers
