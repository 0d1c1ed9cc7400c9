-- What the orders of keys and names give: equal ones are one, sorted lists are the rising lists, and sets are told by their
-- members.
pub mod ChoiceOrder
pub mod DistinctEntries
pub mod KeyRanks
pub mod OrdersMade  -- the order that is made of distinct keys
pub mod PlacesPut  -- places put at the positions that a list names
