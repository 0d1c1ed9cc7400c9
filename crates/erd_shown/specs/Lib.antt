pub mod KeyData  -- keys of objects and names of selections as JSON
pub mod ContentData  -- the order of a ballot as JSON
pub mod Shown  -- what members and objects mean as JSON
pub mod SideValues  -- what one of two reports has where they differ
pub mod Laws  -- the laws: written alike if and only if they mean the same
pub mod Lines  -- the lines of a ballot
pub mod ListedNames  -- the names of the selections of a contest on a ballot
pub mod Ballots  -- the ballot of a style as JSON
pub mod Heads  -- the heads of the ballots of a report
pub mod BallotWords  -- what ballots print of an object
pub mod WordList  -- what ballots print, as a list that has each object of a report once
pub mod Reworded  -- the lines and ballots with other words in another report
pub mod Partners  -- which line of one ballot is which line of another
pub mod Rows  -- the lines of two ballots beside each other
pub mod SelectionRows  -- the selections of a contest on two ballots beside each other
pub mod RowData  -- two ballots beside each other as JSON
pub mod BallotDifferences  -- the styles whose ballots are not the same in two reports
pub mod BallotLines  -- the lines that say which ballots there are, and what differs on those of two reports
pub mod BallotLaws  -- the law that the rows of two ballots tell what differs
pub mod code  -- what private functions answer, step by step, which a reader may skip
