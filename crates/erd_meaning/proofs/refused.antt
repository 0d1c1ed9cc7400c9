-- The claim: a report that is refused is refused for all its faults of the first phase that has any.
pub mod Refused
