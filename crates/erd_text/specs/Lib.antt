-- What a reader has to believe, in the order in which to read it; nothing here rests on what stands in `code`.
pub mod StableOrder  -- what a stable sort by keys answers
pub mod RisingLists  -- lists in rising order, and labels with their translations in order
pub mod Tokens  -- the tokens of a JSON value
pub mod code  -- what private functions answer, step by step, which a reader may skip
