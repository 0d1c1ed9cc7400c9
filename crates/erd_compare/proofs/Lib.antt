pub mod Common
-- parts of whole trees are whole trees, and equality as JSON decides equality on them
pub mod whole_trees
-- numbers stand for keys: equal numbers for equal keys
pub mod same_ranks
-- whether labels, sets, references and carried members are the same is decided
pub mod same_values
-- whether the orders of two ballots are the same is decided
pub mod same_content
-- whether the selections of two contests are the same is decided
pub mod same_selections
-- what is told is the first difference: the least part, key and name
pub mod least_difference
-- differences of small reports and edits of them, by computation
pub mod examples
-- what is told are all differences: each part, key and name
pub mod differing
-- what is told of two contests are all differences of their selections
pub mod contest_selections
