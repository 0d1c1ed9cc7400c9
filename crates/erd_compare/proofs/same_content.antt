pub mod SameContents
