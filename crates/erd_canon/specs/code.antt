-- What private functions answer, step by step. No public contract says it.
pub mod Chunks  -- what one read adds
pub mod SideRefusals  -- what is written of a refusal on one of two sides
pub mod RefusalData  -- the JSON value of a refusal
pub mod Pending  -- what moves from a buffer to a writer
pub mod Fronts  -- the front of a list that a piece shows
pub mod PrepareCommands  -- what the engine for each command that prepares a report answers
pub mod BallotForms  -- in which form the ballots of reports are told
pub mod ValuedTexts  -- the text of what each report has at a difference
pub mod ValuedInside  -- the text of what both contests have where their selections differ
pub mod WordTexts  -- the text of an entry of the list of what ballots print
