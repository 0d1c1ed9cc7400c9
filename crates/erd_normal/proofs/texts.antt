-- Compact texts tell values apart whose numbers fit.
pub mod CompactTexts
pub mod DueTokens
pub mod FormTexts
