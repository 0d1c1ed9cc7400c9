-- Definitions that only private clauses cite.
pub mod Scanning
