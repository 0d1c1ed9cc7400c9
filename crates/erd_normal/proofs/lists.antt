-- Lists in rising order, and what is found in them.
pub mod Lists
pub mod Matched
