pub mod SelectionWalks
pub mod PlacedSelections
