-- Objects and selections that are written alike have the same words on ballots.
use Rattle.erd_shown.proofs.Common.{◌≡◌, ℕ, Bool, true, false, cond, List, Some, None, Option, codes, sym, refl, ap, ap₂, ◌∙◌, subst, true≢false}
use Rattle.erd_shown.proofs.Common.{option_map_or, Data, null, object, Members, no_members, member, Class, class, Family, family, role, MemberKind}
use Rattle.erd_shown.proofs.Common.{kind, kind_of_member, text_of_class, class_of_object, is_in_envelope, is_selections, selections_name, selection_role}
use Rattle.erd_shown.proofs.Common.{Preference, Placed}
use Rattle.erd_shown.specs.BallotWords.{is_word, word_value, words_data, words_in_class}
use Rattle.erd_shown.specs.ContentData.{members_in}
use Rattle.erd_shown.specs.Shown.{holder_key, object_data, object_in_class, record_data, record_in_class, shown_in, shown_member, shown_members}
use Rattle.erd_shown.specs.Shown.{shown_plain, shown_value}
use Rattle.erd_shown.proofs.told.Names.{class_exact}

-- ---- some of the members

abbrev kept : (List ℕ → Bool) → Members → Members
kept w no_members = no_members
kept w (member k d ms) = cond (w k) (member k d (kept w ms)) (kept w ms)

module _ (w : List ℕ → Bool) (f g : List ℕ → Data → Option Data) (same : (k : List ℕ) (d : Data) → w k ≡ true → f k d ≡ g k d) where
  abbrev some_of : Members → Members
  some_of ms = shown_members (λ k d. cond (w k) (f k d) None) ms

  shown_kept : (ms : Members) → some_of ms ≡ kept w (shown_members g ms)
  shown_kept no_members = refl
  shown_kept (member k d ms) = at (w k) refl (g k d) refl (shown_kept ms)
    where
      at : (b : Bool) → w k ≡ b → (o : Option Data) → g k d ≡ o → some_of ms ≡ kept w (shown_members g ms)
          → option_map_or (λ v. member k v (some_of ms)) (cond b (f k d) None) (some_of ms)
          ≡ kept w (option_map_or (λ v. member k v (shown_members g ms)) o (shown_members g ms))
      at true e None h rest = ap (λ x. option_map_or (λ v. member k v (some_of ms)) x (some_of ms)) (same k d e ∙ h) ∙ rest
      at true e (Some v) h rest =
          ap (λ x. option_map_or (λ v. member k v (some_of ms)) x (some_of ms)) (same k d e ∙ h) ∙ ap (member k v) rest
          ∙ sym (ap (λ b. cond b (member k v (kept w (shown_members g ms))) (kept w (shown_members g ms))) e)
      at false e None h rest = rest
      at false e (Some v) h rest = rest ∙ sym (ap (λ b. cond b (member k v (kept w (shown_members g ms))) (kept w (shown_members g ms))) e)

-- ---- words are members that are written

-- the selections of a contest are no word
no_word : (c : Class) → is_selections (kind_of_member c (codes "ContestSelection")) ≡ true → is_word c (codes "ContestSelection") ≡ false
no_word class.CandidateContest e = refl
no_word class.BallotMeasureContest e = refl
no_word class.RetentionContest e = refl
no_word class.PartyContest e = refl
no_word c e = cc

module _ (π : Preference) (t : Data) where
  plainly : (b : Bool) (k : MemberKind) (d : Data) → is_selections k ≡ false → cond b None (shown_value π t k d) ≡ shown_in π t b k d
  plainly b (kind.Keyed family.Selection) d e = cc
  plainly b (kind.Keyed family.Unit) d e = refl
  plainly b (kind.Keyed family.Party) d e = refl
  plainly b (kind.Keyed family.Person) d e = refl
  plainly b (kind.Keyed family.Office) d e = refl
  plainly b (kind.Keyed family.Header) d e = refl
  plainly b (kind.Keyed family.Candidate) d e = refl
  plainly b (kind.Keyed family.Contest) d e = refl
  plainly b (kind.Keyed family.Style) d e = refl
  plainly b k d e = refl

  shown_word : (c : Class) (k : List ℕ) (d : Data) → is_word c k ≡ true → shown_plain π t c k d ≡ shown_member π t c k d
  shown_word c k d e = at (is_selections (kind_of_member c k)) refl
    where
      at : (b : Bool) → is_selections (kind_of_member c k) ≡ b → shown_plain π t c k d ≡ shown_member π t c k d
      at true is =
          let named : k ≡ codes "ContestSelection" = selections_name c k is in
          absurd (true≢false (sym e ∙ ap (is_word c) named ∙ no_word c (subst (λ n. is_selections (kind_of_member c n) ≡ true) named is)))
      at false is = plainly (is_in_envelope c k) (kind_of_member c k) d is

module _ (π ρ : Preference) (t u : Data) where
  words_of_members : (c d : Class) (ms ns : Members) → c ≡ d → shown_members (shown_member π t c) ms ≡ shown_members (shown_member ρ u d) ns
      → shown_members (word_value π t c) ms ≡ shown_members (word_value ρ u d) ns
  words_of_members c d ms ns same e =
      shown_kept (is_word c) (shown_plain π t c) (shown_member π t c) (shown_word π t c) ms
      ∙ ap₂ (λ x xs. kept (is_word x) xs) same e
      ∙ sym (shown_kept (is_word d) (shown_plain ρ u d) (shown_member ρ u d) (shown_word ρ u d) ns)

  pub words_of_objects : (f : Family) (o p : Placed) → object_data π t (role.OfFamily f) o ≡ object_data ρ u (role.OfFamily f) p
      → words_data π t f o.value ≡ words_data ρ u f p.value
  words_of_objects f o p e = at (class_of_object (role.OfFamily f) o.value) (class_of_object (role.OfFamily f) p.value) e
    where
      at : (a b : Option Class)
          → option_map_or (object_in_class π t (holder_key π t (role.OfFamily f) o) o.value) a null
          ≡ option_map_or (object_in_class ρ u (holder_key ρ u (role.OfFamily f) p) p.value) b null
          → option_map_or (λ c. words_in_class π t c o.value) a null ≡ option_map_or (λ c. words_in_class ρ u c p.value) b null
      at None None e = refl
      at None (Some d) e = cc
      at (Some c) None e = cc
      at (Some c) (Some d) e =
          let texts : text_of_class c ≡ text_of_class d = cc in
          let members : shown_members (shown_member π t c) (members_in o.value) ≡ shown_members (shown_member ρ u d) (members_in p.value) = cc in
          ap object (words_of_members c d (members_in o.value) (members_in p.value) (class_exact c d texts) members)

  words_of_plain : (c d : Class) (ms ns : Members) → c ≡ d → shown_members (shown_plain π t c) ms ≡ shown_members (shown_plain ρ u d) ns
      → shown_members (word_value π t c) ms ≡ shown_members (word_value ρ u d) ns
  words_of_plain c d ms ns same e =
      shown_kept (is_word c) (shown_plain π t c) (shown_plain π t c) (λ k v h. refl) ms
      ∙ ap₂ (λ x xs. kept (is_word x) xs) same e
      ∙ sym (shown_kept (is_word d) (shown_plain ρ u d) (shown_plain ρ u d) (λ k v h. refl) ns)

  pub words_of_records : (x y : Data) → record_data (shown_plain π t) selection_role x ≡ record_data (shown_plain ρ u) selection_role y
      → words_data π t family.Selection x ≡ words_data ρ u family.Selection y
  words_of_records x y e = at (class_of_object selection_role x) (class_of_object selection_role y) e
    where
      at : (a b : Option Class)
          → option_map_or (λ c. record_in_class (shown_plain π t c) c x) a null ≡ option_map_or (λ c. record_in_class (shown_plain ρ u c) c y) b null
          → option_map_or (λ c. words_in_class π t c x) a null ≡ option_map_or (λ c. words_in_class ρ u c y) b null
      at None None e = refl
      at None (Some d) e = cc
      at (Some c) None e = cc
      at (Some c) (Some d) e =
          let texts : text_of_class c ≡ text_of_class d = cc in
          let members : shown_members (shown_plain π t c) (members_in x) ≡ shown_members (shown_plain ρ u d) (members_in y) = cc in
          ap object (words_of_plain c d (members_in x) (members_in y) (class_exact c d texts) members)
