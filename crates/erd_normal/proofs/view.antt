-- A view of a report: in any style, and in the canonical one.
pub mod Views
pub mod AskedInViews
pub mod NewIds
pub mod CanonicalStyles
pub mod SaidViews
pub mod ViewIds
pub mod ViewDepths
pub mod ViewForms
pub mod ValuesViewed
pub mod WrittenViews
