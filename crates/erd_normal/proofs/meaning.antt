-- What makes two reports mean the same: records, sets and matched objects.
pub mod MatchedMeanings
