-- What is written is a tree.
use Rattle.erd_text.proofs.Common.{◌≡◌, ℕ, Bool, true, false, cond, List, [], ◌∷◌, map, Some, None, Option, option_and_then, as_str, codes, sym, refl, subst}
use Rattle.erd_text.proofs.Common.{Data, null, items_of, entries_of, MemberKind, kind, pos, negsuc}
use Rattle.std.specs.Prelude.{ℤ}
use Rattle.serde_json.specs.Data.{array, no_items, number, unsigned, negative}
use Rattle.erd_text.specs.RisingLists.{rising_list}
use Rattle.erd_check.specs.Trees.{AreTrees, IsTree}
use Rattle.erd_check.proofs.ReadTrees.{put-trees}
use Rattle.erd_meaning.specs.Keys.{Preference, key_cmp}
use Rattle.erd_meaning.specs.NameParts.{NameParts}
use Rattle.erd_meaning.specs.Records.{unless_empty}
use Rattle.erd_meaning.specs.SelectionNames.{key_named, keys_named}
use Rattle.erd_shown.specs.Shown.{shown_value}
use Rattle.erd_meaning.specs.declared.keys.key.Key.{Key}
use Rattle.erd_shown.proofs.told.Contents.{Parts, no_part, first_part, Part, contest_part, header_part, written, written_part, Good, GoodPart, parts_of}
use Rattle.erd_shown.proofs.told.Contents.{content_written, content_good}
use Rattle.erd_shown.proofs.told.Labels.{set_trees}
use Rattle.erd_shown.specs.KeyData.{shown_key, shown_key_or_null, shown_text_or_null, shown_name, shown_order, shown_whole}
use Rattle.erd_shown.specs.code.Fitting.{IsFit, a_text, an_object}

each_tree : {A : Type 0} (f : A → Data) → ((x : A) → IsTree (f x)) → (xs : List A) → AreTrees (items_of (map f xs))
each_tree f h [] = tt
each_tree f h (x ∷ xs) = (h x, each_tree f h xs)

key_tree : (k : Option Key) → IsTree (shown_key_or_null k)
key_tree None = tt
key_tree (Some k) = (tt, (tt, (tt, tt)))

or_null : (b : Bool) (x : Data) → IsTree x → IsTree (cond b x null)
or_null true x h = h
or_null false x h = tt

whole_tree : (z : ℤ) → IsTree (shown_whole z)
whole_tree (pos n) = or_null _ (number (unsigned n)) tt
whole_tree (negsuc n) = or_null _ (number (negative (negsuc n))) tt

order_tree : (o : Option ℤ) → IsTree (shown_order o)
order_tree None = tt
order_tree (Some z) = whole_tree z

label_tree : (o : Option (List ℕ)) → IsTree (shown_text_or_null o)
label_tree None = tt
label_tree (Some s) = tt

pub name_tree : (n : Option NameParts) → IsTree (shown_name n)
name_tree None = tt
name_tree (Some n) =
    (tt, (each_tree shown_key (λ k. (tt, (tt, (tt, tt)))) n.keys, (tt, (order_tree n.order, (label_tree n.label, (key_tree n.identifier, tt))))))

mutual
  written_trees : (p : Parts) → Good p → AreTrees (written p)
  written_trees no_part g = tt
  written_trees (first_part p ps) g = (part_tree p g.0, written_trees ps g.1)

  part_tree : (p : Part) → GoodPart p → IsTree (written_part p)
  part_tree (contest_part k names ms) g = (refl, g.1, (refl, key_tree k, (tt, each_tree shown_name name_tree names, tt)))
  part_tree (header_part k ps ms) g = (refl, g.1, (refl, written_trees ps g.0, (tt, key_tree k, tt)))

-- a value that is some other
same_tree : {x v : Data} → IsTree x → Some x ≡ Some v → IsTree v
same_tree {x} {v} h e = let same : x ≡ v = cc in subst IsTree same h

pub unless_tree : (d x v : Data) → IsTree x → unless_empty x d ≡ Some v → IsTree v
unless_tree (array no_items) x v h e = cc
unless_tree d x v h e = same_tree h e

pub shown_tree : (π : Preference) (t : Data) (k : MemberKind) (d v : Data) → IsTree d → IsFit π t k d → shown_value π t k d ≡ Some v → IsTree v
shown_tree π t kind.Word d v h g e = same_tree h e
shown_tree π t kind.Flag d v h g e = same_tree h e
shown_tree π t kind.Whole d v h g e = same_tree h e
shown_tree π t kind.Carried d v h g e = same_tree h e
shown_tree π t kind.Label d v h (a_text s) e = same_tree tt e
shown_tree π t kind.Label d v h (an_object ms tree type set) e = same_tree (put-trees (codes "Text") _ ms tree (set_trees _ set)) e
shown_tree π t (kind.One f) d v h g e = same_tree (key_tree (option_and_then (key_named π t f) (as_str d))) e
shown_tree π t (kind.Many f) d v h g e =
    unless_tree d _ v (each_tree shown_key (λ k. (tt, (tt, (tt, tt)))) (rising_list key_cmp (keys_named π t f (entries_of d)))) e
shown_tree π t kind.Identifiers d v h g e = unless_tree d _ v (set_trees (entries_of d) g) e
shown_tree π t kind.Languages d v h g e = unless_tree d _ v (set_trees (entries_of d) g) e
shown_tree π t kind.Content d v h g e =
    unless_tree d _ v (subst IsTree (sym (content_written π t d)) (written_trees (parts_of π t d) (content_good π t g.1 d g.0))) e
shown_tree π t k d v h g e = cc
