pub mod Rising
pub mod Adding
pub mod Untold
pub mod NamedSteps
pub mod Telling
pub mod Preparing
mod examples
pub mod Scanned
pub mod Chosen
