-- The lemmas of this crate, beside the folders of the functions' own proofs.

-- what stands stands on an error, too
pub mod Results
-- a set whose keys have numbers answers as the list of its keys
pub mod NumberedKeys
-- what is written of a number or of a text tells where it ends
pub mod SaltedTexts
-- worked examples
mod Examples
