-- Canonical forms, meanings and rearrangements of worked examples, by computation.
pub mod CanonicalReports
pub mod RearrangedExamples
