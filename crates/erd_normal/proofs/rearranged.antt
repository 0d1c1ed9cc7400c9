-- A rearranged report is accepted as it was, says the same and so means the same.
pub mod Alike
pub mod RearrangedReports
