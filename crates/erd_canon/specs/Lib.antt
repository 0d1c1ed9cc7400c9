-- The definitions of this crate. What the public contracts say, in the order in which one would read it:
pub mod Bytes  -- the tree that bytes are, and the canonical bytes of a report
pub mod Headline  -- what canonical bytes promise, whole
pub mod ByteLaws  -- the laws of canonical bytes
pub mod EngineTexts  -- the texts that checking, canonicalising and comparing write
pub mod Refused  -- why bytes are refused, and on which side
pub mod Limits  -- how much a run takes from one reader
pub mod Reading  -- what came from a reader
pub mod Run  -- what a run read and wrote that ends with an outcome
pub mod DataValues  -- the JSON values of faults and of a comparison
pub mod DataAnswers  -- what the calls answer as data
pub mod BallotAnswers  -- what the calls on ballots answer as data
pub mod Pieces  -- which entries of a list an answer has if its caller bounds them
pub mod PiecesTaken  -- what a caller has who takes a list piece by piece
pub mod ValuedData  -- the JSON values of differences with what each report has there
pub mod ValuedAnswers  -- what the call answers that lists them
pub mod WordAnswers  -- what the call answers that lists what ballots print
pub mod Writing  -- what a writer holds after a failed write
pub mod Devices  -- what contracts know of readers and writers
pub mod Engines  -- all that a run of each engine does to its devices
pub mod Answering  -- what a run of an engine does to its devices that answers with one text
pub mod Remedies  -- what may be done about the faults that are left in a prepared report
pub mod Preparing  -- what the engines that prepare a report write, and what a run of them does to its devices
pub mod BallotAnswering  -- what the engines for ballots write
pub mod AskedCommands  -- what the engine for each command on one report, and on two reports, answers
pub mod Statuses  -- exit statuses, and the words of faults
pub mod Options  -- the options of a command, as words and as data
pub mod ExactLines  -- the exact command lines
pub mod Subcommands  -- the command line, as the parser of command lines sees it
pub mod ReadLines  -- what any words are read as
pub mod LineAnswers  -- what the words of a command line are answered with as data
pub mod Words  -- the words that the contracts cite, passed on from one place
pub mod code  -- what private functions answer, which a reader may skip
