-- Canonical `@id` texts tell objects apart, and the sets of an accepted report rise in the order of their keys.
pub mod CanonicalIds
pub mod NormalKeys
pub mod ContestSelections
