-- What private functions answer, step by step.
pub mod Writing  -- what is written step by step: values beside what they are sorted by, and the members of a label
