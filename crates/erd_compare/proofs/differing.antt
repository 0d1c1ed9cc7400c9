pub mod Walks
pub mod RecordWays
pub mod KeySteps
pub mod PartLists
