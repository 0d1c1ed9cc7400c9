-- What is known of the entries of a set before they are walked: the earlier entries that may equal them.
use Rattle.std.specs.Prelude.{◌≡◌, ℕ, ◌<◌, ◌&&◌, Bool, List, map, take, length, slice_index_or}
use Rattle.std.specs.List.{list_any}
use Rattle.serde_json.specs.View.{view}
use Rattle.serde_json.specs.declared.value.Value.{Value}
use Rattle.erd_check.specs.Trees.{is_same_json}
use denote.Ref.{Bor}

-- For each entry covered: a value listed for it equals the entry if and only if an earlier entry of its set does.
abbrev pub TellsEarlier : Bool → List Value → List (Bor (List Value)) → Type 0
TellsEarlier is_set vs told = (i : ℕ) (v : Value) (s : Bor (List Value)) → i < length told → v ≡ slice_index_or vs i v → s ≡ slice_index_or told i s
    → list_any (is_same_json (view v)) (map view s.now) ≡ (is_set && list_any (is_same_json (view v)) (map view (take i vs)))
