pub mod KeyRanks
pub mod RankSets
pub mod NameNumbers
pub mod NumberedSelections
