pub mod KnownBytes
pub mod CheckTexts
pub mod Comparisons
pub mod Listings
pub mod Agreement
pub mod Moving
pub mod Answering
pub mod StepLines
pub mod TextRuns
pub mod BallotRuns  -- what is written of ballots
