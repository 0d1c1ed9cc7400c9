pub mod Values  -- what is read off a JSON value: entries, texts and names
pub mod Trees  -- trees, and equality as JSON
pub mod ValueSets  -- sets of values in which an equal value is found fast
pub mod Numbers  -- whole numbers that fit 64 bits
pub mod Wants  -- what the table asks of the value at each place
pub mod Faults  -- the faults of the shape
pub mod Refusals  -- why a report is not taken
pub mod Shapes  -- reports whose shape has no fault
pub mod Paths  -- the place that a path leads to
pub mod Visits  -- what a walk reports of a report, and what is known after it
pub mod code  -- what private functions answer, which a reader may skip
