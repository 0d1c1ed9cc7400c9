-- When two objects and two reports mean the same.
pub mod HeldValues  -- the objects of a family, without their places
pub mod InnerContent  -- what stands inside a header of a ballot
pub mod WholeMeanings
pub mod WholeRecords
pub mod SelectionKinds  -- which members hold selections
