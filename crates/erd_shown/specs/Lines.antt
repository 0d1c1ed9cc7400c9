-- The lines of a ballot: its headers and contests, in its order. All of this is the profile's own.
use Rattle.std.specs.Prelude.{ℕ, ◌+◌, List, [], ◌∷◌, ◌++◌, if◌then◌else◌, codes}
use Rattle.std.specs.Str.{bytes_eq}
use Rattle.serde_json.specs.Data.{Data, array, object, Items, no_items, item, Members, no_members, member}
use Rattle.erd_meaning.specs.Records.{class_of_node, is_header_class}

-- The lines of a list, at every depth of headers: how many headers stand around each, and the node.
abbrev mutual
  pub content_lines : ℕ → Data → List (ℕ × Data)
  content_lines depth (array ds) = nodes_lines depth ds
  content_lines depth d = []

  pub nodes_lines : ℕ → Items → List (ℕ × Data)
  nodes_lines depth no_items = []
  nodes_lines depth (item d ds) = node_lines depth d ++ nodes_lines depth ds

  pub node_lines : ℕ → Data → List (ℕ × Data)
  node_lines depth (object ms) = (depth, object ms) ∷ (if is_header_class (class_of_node (object ms)) then inside_lines (depth + 1) ms else [])
  node_lines depth d = (depth, d) ∷ []

  pub inside_lines : ℕ → Members → List (ℕ × Data)
  inside_lines depth no_members = []
  inside_lines depth (member k d ms) = if bytes_eq (codes "OrderedContent") k then content_lines depth d else inside_lines depth ms
