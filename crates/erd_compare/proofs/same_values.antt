pub mod SameValues
