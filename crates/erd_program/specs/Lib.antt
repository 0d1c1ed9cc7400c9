-- The definitions of this crate, in the order in which one would read them:
pub mod World  -- what the program has of the outside
pub mod Messages  -- what is said on a stream, and with which status
pub mod Files  -- what is done with the files of a request
pub mod Program  -- what the program does for the words of its command line
pub mod code  -- what private functions answer and need, which a reader may skip
