pub mod WholeTrees
