pub mod ValueExamples
pub mod RowExamples
pub mod PartnerExamples
pub mod BallotExamples
pub mod WordExamples
pub mod WordListExamples
pub mod BallotElectionExamples
pub mod SelectionValueExamples
