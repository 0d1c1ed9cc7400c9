-- Laws that the code cites.
pub mod SaltedQueries  -- a query under a salt finds keys as the index tells them apart
