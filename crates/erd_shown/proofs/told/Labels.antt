-- Labels are written alike if and only if they mean the same.
use Rattle.erd_text.proofs.Common.{◌≡◌, ℕ, Bool, true, false, cond, List, [], ◌∷◌, items_of, AllByRecursion, Some, None, Option, codes, bytes_eq, sym, refl, ap}
use Rattle.erd_text.proofs.Common.{ap₂, ◌∙◌, subst, fun_ext, Data, string, object, Members, get_member, entries_at, rising_list, compact_cmp, true≢false}
use Rattle.std.specs.Prelude.{◌||◌}
use Rattle.serde_json.specs.Data.{put}
use Rattle.serde_json.proofs.Views.{get_member-put, get_member-put_other}
use Rattle.erd_check.specs.Trees.{AreTrees, IsTree}
use Rattle.erd_text.proofs.RisingOrders.{all_rising}
use Rattle.erd_check.proofs.Exact.{text_exact, text_itself}
use Rattle.erd_check.proofs.ReadTrees.{put-trees}
use Rattle.erd_check.proofs.Shapes.{members_unique}
use Rattle.erd_meaning.specs.Meaning.{translated}
use Rattle.erd_meaning.specs.Records.{json_set, label_beside_text, label_of}
use Rattle.erd_shown.specs.Shown.{set_data}
use Rattle.erd_shown.proofs.told.Sets.{array_exact}
use Rattle.erd_shown.proofs.told.JsonSets.{set_from, to_set}
use Rattle.erd_shown.specs.KeyData.{array_of}
use Rattle.erd_shown.specs.code.Fitting.{LabelsTell, a_text, an_object, IsSet, IsWholeTree}

other_name : (k l : List ℕ) → bytes_eq k l ≡ false → k ≡ l → ⊥
other_name k l e same = true≢false (sym (subst (λ x. bytes_eq k x ≡ true) same (text_itself k)) ∙ e)

elsewhere : (k l : List ℕ) (v : Data) (ms : Members) → bytes_eq k l ≡ false → get_member k (put l v ms) ≡ get_member k ms
elsewhere k l v ms e = get_member-put_other k l v ms (other_name k l e)

-- the translations stand in what is written
abbrev written : Members → Members
written ms = put (codes "Text") (set_data (entries_at (codes "Text") (object ms))) ms

one_set : (ms ns : Members) → written ms ≡ written ns → rising_list compact_cmp (entries_at (codes "Text") (object ms)) ≡ rising_list compact_cmp
    (entries_at (codes "Text") (object ns))
one_set ms ns e =
    let found : Some (set_data (entries_at (codes "Text") (object ms))) ≡ Some (set_data (entries_at (codes "Text") (object ns))) =
    sym (get_member-put (codes "Text") _ ms) ∙ ap (get_member (codes "Text")) e ∙ get_member-put (codes "Text") _ ns in
    let same : set_data (entries_at (codes "Text") (object ms)) ≡ set_data (entries_at (codes "Text") (object ns)) = cc in
    array_exact _ _ same

-- the members beside them
beside : (a b : Bool) (o p : Option Data) → (a ≡ false → b ≡ false → o ≡ p) → cond (a || b) None o ≡ cond (a || b) None p
beside true b o p h = refl
beside false true o p h = refl
beside false false o p h = h refl refl

one_beside : (ms ns : Members) → written ms ≡ written ns → label_beside_text (object ms) ≡ label_beside_text (object ns)
one_beside ms ns e =
    fun_ext (λ name. beside (bytes_eq name (codes "@type")) (bytes_eq name (codes "Text")) (get_member name ms) (get_member name ns)
    (λ type other. sym (elsewhere name (codes "Text") _ ms other) ∙ ap (get_member name) e ∙ elsewhere name (codes "Text") _ ns other))

-- and back
there : (a b : Bool) (o p : Option Data) → a ≡ false → b ≡ false → cond (a || b) None o ≡ cond (a || b) None p → o ≡ p
there false false o p e f h = h
there true b o p e f h = cc
there false true o p e f h = cc

trees_of : (ds : List Data) → AllByRecursion IsWholeTree ds → AreTrees (items_of ds)
trees_of [] h = tt
trees_of (d ∷ ds) h = (h.0.is_tree, trees_of ds h.1)

pub set_trees : (ds : List Data) → IsSet ds → IsTree (set_data ds)
set_trees ds h = trees_of (rising_list compact_cmp ds) (all_rising IsWholeTree compact_cmp ds h.trees)

one_label : (ms ns : Members) → IsTree (object ms) → IsTree (object ns) → IsSet (entries_at (codes "Text") (object ms))
    → IsSet (entries_at (codes "Text") (object ns)) → get_member (codes "@type") ms ≡ get_member (codes "@type") ns
    → label_beside_text (object ms) ≡ label_beside_text (object ns)
    → rising_list compact_cmp (entries_at (codes "Text") (object ms)) ≡ rising_list compact_cmp (entries_at (codes "Text") (object ns))
    → written ms ≡ written ns
one_label ms ns left right set set' type others lists =
    members_unique (written ms) (written ns) (put-trees (codes "Text") _ ms left (set_trees _ set)) (put-trees (codes "Text") _ ns right (set_trees _ set'))
    (λ k. at k (bytes_eq k (codes "Text")) refl (bytes_eq k (codes "@type")) refl)
  where
    at : (k : List ℕ) (b : Bool) → bytes_eq k (codes "Text") ≡ b → (a : Bool) → bytes_eq k (codes "@type") ≡ a → get_member k (written ms)
        ≡ get_member k (written ns)
    at k true is a e =
        subst (λ n. get_member n (written ms) ≡ get_member n (written ns)) (sym (text_exact k (codes "Text") is))
        (get_member-put (codes "Text") _ ms ∙ ap (λ ds. Some (array_of ds)) lists ∙ sym (get_member-put (codes "Text") _ ns))
    at k false is true e =
        elsewhere k (codes "Text") _ ms is ∙ subst (λ n. get_member n ms ≡ get_member n ns) (sym (text_exact k (codes "@type") e)) type
        ∙ sym (elsewhere k (codes "Text") _ ns is)
    at k false is false e =
        elsewhere k (codes "Text") _ ms is ∙ there (bytes_eq k (codes "@type")) (bytes_eq k (codes "Text")) (get_member k ms) (get_member k ns) e is
        (ap (λ f. f k) others) ∙ sym (elsewhere k (codes "Text") _ ns is)

pub labels_tell : LabelsTell
labels_tell d e (a_text s) (a_text s') = (λ h. let same : s ≡ s' = cc in ap (λ x. label_of (string x)) same, λ h. let same : s ≡ s' = cc in ap string same)
labels_tell d e (a_text s) (an_object ns tree type set) = (λ h. cc, λ h. cc)
labels_tell d e (an_object ms tree type set) (a_text s) = (λ h. cc, λ h. cc)
labels_tell d e (an_object ms tree type set) (an_object ns tree' type' set') = (
  λ h. let same : written ms ≡ written ns = cc in ap₂ translated (one_beside ms ns same) (to_set _ _ (one_set ms ns same)),
  λ h.
      let others : label_beside_text (object ms) ≡ label_beside_text (object ns) = cc in
      let sets : json_set (entries_at (codes "Text") (object ms)) ≡ json_set (entries_at (codes "Text") (object ns)) = cc in
      ap object (one_label ms ns tree tree' set set' (type ∙ sym type') others (set_from _ _ set set' sets)),
)
