-- What holds of each accepted report: none of the four phases has a fault, its references name what they should, it has
-- elections, its objects stand apart, and a report keeps them once.
pub mod HeldObjects
pub mod OneResolved
pub mod Standing
pub mod DistinctKeys
