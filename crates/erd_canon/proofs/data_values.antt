pub mod DataTrees
pub mod DetailedTrees  -- the values of differences with what differs inside selections
pub mod BallotTexts  -- what a call on ballots answers for bytes that are refused
pub mod BallotPairs  -- what a call on the ballots of two reports answers
pub mod DataTexts
pub mod Fronts  -- the front of a list that a piece shows
pub mod FrontLaws  -- that a list has one front and one piece
pub mod Together  -- that the pieces of a list are together the list
pub mod TakenTexts  -- that the pieces of lines are together what an engine writes
pub mod LineTexts  -- the object of a request
pub mod PieceTexts  -- the answers that have a piece of a list
pub mod PieceLines  -- the answers that have a piece of a list as lines
pub mod ValuedTexts  -- the texts of the objects of differences with one more member
pub mod ValuedInside  -- the differences inside the selections of a contest with their values
pub mod ValuedLists  -- what the list of differences with their values answers
pub mod WordLists  -- what the list of what ballots print answers
