pub mod ContestRecords
pub mod NumberedWays
pub mod SelectionLists
pub mod SelectionsByNumber
pub mod SelectionTexts
pub mod ToldLists
