-- No object of a report has other words in a report that means the same.
use Rattle.erd_shown.proofs.Common.{◌≡◌, ℕ, Bool, true, false, cond, not, ◌||◌, List, [], ◌∷◌, Some, None, Option, codes, option_and_then, option_map}
use Rattle.erd_shown.proofs.Common.{option_map_or, list_any, sym, refl, ap, ap₂, ◌∙◌, bytes_eq, text_itself, compact_text, In, owned_by, has_identifier}
use Rattle.erd_shown.proofs.Common.{no_identity_fault, as_str, get, Data, Family, family, has_keys, Preference, Placed, objects, owner, text_at}
use Rattle.erd_shown.proofs.Common.{entries_at, class_of_node, is_header_class}
use Rattle.erd_shown.specs.BallotWords.{words_text}
use Rattle.erd_shown.specs.Ballots.{lines_of}
use Rattle.erd_shown.specs.ListedNames.{listed_at, lists_selections, selections_named}
use Rattle.erd_shown.specs.Reworded.{are_selections_reworded, has_other_words, is_ballot_reworded, is_candidate_reworded, is_contest_reworded}
use Rattle.erd_shown.specs.Reworded.{is_line_reworded, is_reworded, is_selection_reworded, true_of_any_named, true_of_named, true_of_named_at, with_key}
use Rattle.erd_shown.proofs.alike.Objects.{AreAlike, twin}
use Rattle.erd_shown.proofs.alike.Words.{words_of_objects}

-- ---- what is true of no object

module _ (P : Data → Bool) (t : Data) (f : Family) (none : (o : Placed) → In o (objects f t) → P o.value ≡ false) where
  owner_none : (id : List ℕ) (x : Option Data) → owner t f id ≡ x → option_map_or P x false ≡ false
  owner_none id None e = refl
  owner_none id (Some d) e = let o = owned_by t f id d e in ap P (sym o.2) ∙ none o.0 o.1

  referred_none : (s : Option (List ℕ)) → option_map_or P (option_and_then (owner t f) s) false ≡ false
  referred_none None = refl
  referred_none (Some id) = owner_none id (owner t f id) refl

  none_at : (x : Option Data) → option_map_or (true_of_named P t f) x false ≡ false
  none_at None = refl
  none_at (Some r) = referred_none (as_str r)

  pub none_named : (name : List ℕ) (d : Data) → true_of_named_at name P t f d ≡ false
  none_named name d = none_at (get name d)

  pub none_of_named : (rs : List Data) → true_of_any_named P t f rs ≡ false
  none_of_named [] = refl
  none_of_named (r ∷ rs) = ap₂ (λ a b. a || b) (referred_none (as_str r)) (none_of_named rs)

none_of_all : {A : Type 0} (P : A → Bool) → ((x : A) → P x ≡ false) → (xs : List A) → list_any P xs ≡ false
none_of_all P none [] = refl
none_of_all P none (x ∷ xs) = ap₂ (λ a b. a || b) (none x) (none_of_all P none xs)

-- ---- two reports that mean the same

module _ (π ρ : Preference) (t u : Data) (alike : AreAlike π ρ t u) where
  not_reworded : (f : Family) → has_keys f ≡ true → (o : Placed) → In o (objects f t) → is_reworded π t ρ u f o.value ≡ false
  not_reworded f keyed o i =
      let k = has_identifier π t (no_identity_fault π t alike.left.accepted) f o keyed i in
      let other = twin π ρ t u alike f keyed k.0 o i k.1 in
      ap (λ x. option_map_or (λ k. option_map_or (has_other_words π t ρ u f o.value) (with_key ρ u f k) false) x false) k.1
      ∙ ap (λ x. option_map_or (has_other_words π t ρ u f o.value) (option_map (λ (p : Placed). p.value) x) false) other.found
      ∙ ap (λ d. not (bytes_eq (compact_text d) (words_text ρ u f other.other.value))) (words_of_objects π ρ t u f o other.other other.written)
      ∙ ap not (text_itself (words_text ρ u f other.other.value))

  party : (o : Placed) → In o (objects family.Party t) → is_reworded π t ρ u family.Party o.value ≡ false
  party = not_reworded family.Party refl

  candidate : (o : Placed) → In o (objects family.Candidate t) → is_candidate_reworded π t ρ u o.value ≡ false
  candidate o i =
      ap₂ (λ a b. a || b) (not_reworded family.Candidate refl o i)
      (ap₂ (λ a b. a || b) (none_named (is_reworded π t ρ u family.Party) t family.Party party (codes "PartyId") o.value)
      (none_named (is_reworded π t ρ u family.Person) t family.Person (not_reworded family.Person refl) (codes "PersonId") o.value))

  contest : (o : Placed) → In o (objects family.Contest t) → is_contest_reworded π t ρ u o.value ≡ false
  contest o i =
      ap₂ (λ a b. a || b) (not_reworded family.Contest refl o i)
      (ap₂ (λ a b. a || b) (none_of_named (is_reworded π t ρ u family.Party) t family.Party party (entries_at (codes "PrimaryPartyIds") o.value))
      (none_named (is_candidate_reworded π t ρ u) t family.Candidate candidate (codes "CandidateId") o.value))

  selection : (d : Data) → is_selection_reworded π t ρ u d ≡ false
  selection d =
      ap₂ (λ a b. a || b) (none_of_named (is_candidate_reworded π t ρ u) t family.Candidate candidate (entries_at (codes "CandidateIds") d))
      (ap₂ (λ a b. a || b) (none_of_named (is_reworded π t ρ u family.Party) t family.Party party (entries_at (codes "PartyIds") d))
      (none_of_named (is_reworded π t ρ u family.Party) t family.Party party (entries_at (codes "EndorsementPartyIds") d)))

  either : (b : Bool) {x y : Bool} → x ≡ false → y ≡ false → cond b x y ≡ false
  either true e g = e
  either false e g = g

  selections : (d : Data) → are_selections_reworded π t ρ u d ≡ false
  selections d =
      either (lists_selections d)
      (none_of_named (is_selection_reworded π t ρ u) t family.Selection (λ o i. selection o.value) (listed_at d))
      (none_of_all (is_selection_reworded π t ρ u) selection (selections_named t (text_at (codes "ContestId") d)))

  line : (d : Data) → is_line_reworded π t ρ u d ≡ false
  line d =
      either (is_header_class (class_of_node d))
      (none_named (is_reworded π t ρ u family.Header) t family.Header (not_reworded family.Header refl) (codes "HeaderId") d)
      (ap₂ (λ a b. a || b) (none_named (is_contest_reworded π t ρ u) t family.Contest contest (codes "ContestId") d) (selections d))

  pub ballot_not_reworded : (d : Data) → is_ballot_reworded π t ρ u d ≡ false
  ballot_not_reworded d =
      ap₂ (λ a b. a || b) (none_of_all (λ (l : ℕ × Data). is_line_reworded π t ρ u l.1) (λ l. line l.1) (lines_of d))
      (ap₂ (λ a b. a || b) (none_of_named (is_reworded π t ρ u family.Party) t family.Party party (entries_at (codes "PartyIds") d))
      (none_of_named (is_reworded π t ρ u family.Unit) t family.Unit (not_reworded family.Unit refl) (entries_at (codes "GpUnitIds") d)))
