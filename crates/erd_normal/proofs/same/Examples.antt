-- Reports that say the same as the small ballot, and reports that do not, by the laws and by computation.
use Rattle.erd_normal.proofs.Common.{◌≡◌, ℕ, ◌^◌, ◌<◌, Bool, true, false, not, List, ◌++◌, length, is_some, Some, None, codes, Option, sym, refl, ap, ◌∙◌}
use Rattle.erd_normal.proofs.Common.{subst, true≢false, lit<, digits, serde_json_on_literals, Data, Family, family, read_is_tree, no_fault_listed, IsTree}
use Rattle.erd_normal.proofs.Common.{tree_of, small_ballot_with, small_ballot, small_ballot_canonical, local_key, IsAccepted, objects, meaning, MemberValue}
use Rattle.erd_normal.proofs.Common.{a_plain, a_content, first_node, a_header, SaysTheSame}
use Rattle.erd_meaning.specs.Meaning.{Meaning}
use Rattle.erd_check.proofs.Reports.{contest_node, header_node}
use Rattle.erd_check.proofs.WholeExamples.{small_ballot_is_faultless, small_ballot_canonical_is_faultless}
use Rattle.erd_meaning.proofs.refused.Refused.{accepted_by_lists}
use Rattle.erd_meaning.proofs.examples.RefusedExamples.{small_ballot_is_accepted}
use Rattle.erd_normal.proofs.examples.RearrangedExamples.{edited}
use Rattle.erd_normal.proofs.meaning.MatchedMeanings.{members_in}
use Rattle.erd_normal.proofs.same.Related.{says_back}
use Rattle.erd_normal.proofs.same.InTurn.{says_in_turn}
use Rattle.erd_normal.proofs.same.means.Meanings.{saying_the_same_means_the_same}
use Rattle.erd_normal.proofs.view.SaidViews.{view_says}
use Rattle.erd_normal.specs.code.View.{style_of, whole}

abbrev given : Data
given = tree_of small_ballot

abbrev canonical : Data
canonical = tree_of small_ballot_canonical

given_tree : IsTree given
given_tree = small_ballot_is_faultless.tree

-- ---- what says the same

few_given : (f : Family) → length (objects f given) < 2 ^ 64
unfolding serde_json_on_literals
few_given family.Unit = lit< tt
few_given f = lit< tt

given_built : whole (style_of None given) given ≡ canonical
unfolding serde_json_on_literals digits
given_built = refl

-- the canonical form
pub canonical_says : SaysTheSame given canonical
canonical_says = subst (SaysTheSame given) given_built (view_says None given small_ballot_is_accepted given_tree (record { few = few_given }))

-- a style with an `@id`, an empty array of the table and an outside member
abbrev more_text : List ℕ
more_text = edited (codes "{\"@type\":\"ElectionResults.BallotStyle\"") (codes "{\"@id\":\"s\",\"@type\":\"ElectionResults.BallotStyle\",\"PartyIds\":[]")
    (edited (codes "\"VotesAllowed\":1") (codes "\"VotesAllowed\":1,\"OtherCounts\":[]") small_ballot)

abbrev more_members : Data
more_members = tree_of more_text

few_more : (f : Family) → length (objects f more_members) < 2 ^ 64
unfolding serde_json_on_literals
few_more family.Unit = lit< tt
few_more f = lit< tt

more_tree : IsTree more_members
unfolding serde_json_on_literals
more_tree = read_is_tree more_text more_members refl

more_accepted : IsAccepted None more_members
unfolding serde_json_on_literals
more_accepted = accepted_by_lists None more_members more_tree (no_fault_listed more_members refl refl) refl refl refl

more_built : whole (style_of None more_members) more_members ≡ canonical
unfolding serde_json_on_literals digits
more_built = refl

pub more_says : SaysTheSame given more_members
more_says =
    let back : SaysTheSame canonical more_members =
    says_back more_members canonical
    (subst (SaysTheSame more_members) more_built (view_says None more_members more_accepted more_tree (record { few = few_more }))) in
    says_in_turn given canonical more_members given_tree small_ballot_canonical_is_faultless.tree more_tree canonical_says back

-- ---- what does not, since it means something else

means_else : (u : Data) → IsTree u → (test : Meaning → Bool) → test (meaning None given) ≡ true → test (meaning None u) ≡ false → SaysTheSame given u → ⊥
means_else u tree test left right h =
    true≢false (sym left ∙ ap test (sym (saying_the_same_means_the_same None given u given_tree tree small_ballot_is_accepted h)) ∙ right)

-- another identifier
abbrev other_value : List ℕ
other_value = small_ballot_with (codes "K4") (header_node ++ codes "," ++ contest_node)

pub other_value_differs : SaysTheSame given (tree_of other_value) → ⊥
unfolding serde_json_on_literals
other_value_differs = means_else (tree_of other_value) (read_is_tree other_value (tree_of other_value) refl)
    (λ m. is_some (m.objects family.Candidate (local_key (codes "K3")))) refl refl

-- another order of the ballot
abbrev other_order : List ℕ
other_order = small_ballot_with (codes "K3") (contest_node ++ codes "," ++ header_node)

abbrev is_header_first : Option MemberValue → Bool
is_header_first (Some (a_plain (a_content (first_node (a_header k inside others) rest)))) = true
is_header_first o = false

pub other_order_differs : SaysTheSame given (tree_of other_order) → ⊥
unfolding serde_json_on_literals
other_order_differs =
    means_else (tree_of other_order) (read_is_tree other_order (tree_of other_order) refl)
    (λ m. is_header_first (members_in (m.objects family.Style (local_key (codes "S1"))) (codes "OrderedContent"))) refl refl

-- the report has no member of this name
abbrev lacks_member : List ℕ → Meaning → Bool
lacks_member name m = not (is_some (members_in m.report name))

-- `false` in place of an absent member
abbrev with_false : List ℕ
with_false = edited (codes "{\"Status\"") (codes "{\"IsTest\":false,\"Status\"") small_ballot

pub with_false_differs : SaysTheSame (tree_of with_false) given → ⊥
unfolding serde_json_on_literals
with_false_differs h = means_else (tree_of with_false) (read_is_tree with_false (tree_of with_false) refl) (lacks_member (codes "IsTest")) refl refl
    (says_back (tree_of with_false) given h)

-- an empty array that is carried
abbrev with_carried : List ℕ
with_carried = edited (codes "{\"Status\"") (codes "{\"Colors\":[],\"Status\"") small_ballot

pub with_carried_differs : SaysTheSame (tree_of with_carried) given → ⊥
unfolding serde_json_on_literals
with_carried_differs h = means_else (tree_of with_carried) (read_is_tree with_carried (tree_of with_carried) refl) (lacks_member (codes "Colors")) refl refl
    (says_back (tree_of with_carried) given h)
