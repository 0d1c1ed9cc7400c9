pub mod Objects
pub mod Words
pub mod Reworded
pub mod Selections
pub mod Lines
pub mod Ballots
pub mod Styles
