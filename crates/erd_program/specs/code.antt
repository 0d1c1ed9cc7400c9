-- What private functions answer and need. No public contract says it.
pub mod Commands  -- what a command does with its one file, and what a command needs of the streams
pub mod Tasks  -- the command of a request
pub mod Unopened  -- what is said of a file that cannot be opened
