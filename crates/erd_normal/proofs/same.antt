-- The reports that say the same: what `SaysTheSame` holds of.
pub mod Lookups
pub mod Related
pub mod ReorderedKeys
pub mod Owners
pub mod Examples
pub mod InTurn
pub mod Labels
pub mod IdsOfObjects
pub mod means
pub mod complete
pub mod accepted
