-- What private functions answer, step by step. No public contract says it.
pub mod Questions  -- what is asked for with a piece of a list as the answer
