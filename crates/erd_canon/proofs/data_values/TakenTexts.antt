-- The pieces of lines that a caller takes one after the other are together what an engine writes.
use Rattle.erd_canon.proofs.Common.{◌≡◌, ℕ, ◌+◌, List, [], ◌∷◌, ◌++◌, map, codes, Option, ◌⊎◌, sym, refl, ap, ◌∙◌, subst, inl, inr}
use Rattle.erd_canon.proofs.Common.{append-nil, map-id, arith, Fault, fault_cmp, fault_line, IsFault, Preference, meaning, Outcome, Bad, Good, NotJson}
use Rattle.erd_canon.proofs.Common.{IsChecked, IsRefusedReport, IsSideRefused, IsSomeReport, IsComparison, IsCanonicalBytes, Some, None}
use Rattle.erd_canon.proofs.Common.{comparison_line, lines_of_side, text_of_lines, record_at}
use Rattle.std.specs.Cmp.{IsTotalOrder}
use Rattle.std.specs.List.{AllByRecursion, flat_map}
use Rattle.std.proofs.lemmas.Cmp.{nat_cmp_total, nat_list_cmp_total}
use Rattle.erd_tables.proofs.PlaceOrder.{place_cmp_total}
use Rattle.erd_tables.specs.Faults.{ListsAll, missing_name, reason_cmp, reason_number}
use Rattle.erd_check.proofs.Order.{In, In-from_contains, contains_from_In, rising_unique}
use Rattle.erd_meaning.proofs.Common.{on_total, then_total}
use Rattle.erd_meaning.specs.Meaning.{Meaning, Record}
use Rattle.erd_compare.proofs.differing.PartLists.{difference_total}
use Rattle.erd_compare.specs.DifferenceLine.{difference_line}
use Rattle.erd_compare.specs.Differences.{AgreeBut, AreDifferences, AreDifferent, DifferIn, Stands, difference_cmp}
use Rattle.erd_compare.specs.declared.difference.Difference.{Difference}
use Rattle.erd_compare.specs.declared.difference.How.{How}
use Rattle.erd_compare.specs.declared.difference.How.TheVariants.{Member, OnlyLeft, OnlyRight, OtherClass}
use Rattle.erd_canon.proofs.data_values.Together.{pieces_are_the_lines}
use Rattle.erd_canon.proofs.forms.Refusing.{one_tree, refused_is_none}
use Rattle.erd_canon.specs.Answering.{AreListed}
use Rattle.erd_canon.specs.DataAnswers.{listing_outcome}
use Rattle.erd_canon.specs.EngineTexts.{AreCompared}
use Rattle.erd_canon.specs.Pieces.{IsCheckLines, IsCompareLines, IsFormLines, IsFoundLines, IsListLines, IsPieceLines, IsRefusalLines, TellsNone}
use Rattle.erd_canon.specs.Run.{comparison_outcome}
use Rattle.erd_canon.specs.PiecesTaken.{AreTaken, IsFormText, PiecesAreTheCheck, PiecesAreTheComparison, PiecesAreTheForm, PiecesAreTheListing, Taken}
use Rattle.erd_canon.specs.PiecesTaken.{TakenText, text_taken}
use Rattle.erd_canon.specs.declared.data.piece.Piece.{Piece}
use Rattle.erd_canon.specs.declared.data.piece.Told.{Told}

-- ---- a report has one list of faults, and two reports have one list of differences

reason_total : IsTotalOrder reason_cmp
reason_total = then_total (on_total reason_number nat_cmp_total) (on_total missing_name nat_list_cmp_total)

fault_total : IsTotalOrder fault_cmp
fault_total = then_total (on_total (λ (f : Fault). f.place) place_cmp_total) (on_total (λ (f : Fault). f.reason) reason_total)

one_list : (π : Preference) (bytes : List ℕ) (fs gs : List Fault) → IsRefusedReport π bytes fs → IsRefusedReport π bytes gs → gs ≡ fs
one_list π bytes fs gs r s =
    let same : s.tree ≡ r.tree = one_tree bytes s.tree r.tree s.read r.read in
    let all : ListsAll (IsFault π r.tree) gs = subst (λ t. ListsAll (IsFault π t) gs) same s.all in
    rising_unique fault_cmp fault_total gs fs all.rising r.all.rising
    (λ f i. In-from_contains f fs ((r.all.each f).1 ((all.each f).0 (contains_from_In f gs i))))
    (λ f i. In-from_contains f gs ((all.each f).1 ((r.all.each f).0 (contains_from_In f fs i))))

-- where two records agree but for some ways in which they differ, each way in which they differ is one of these
told_way : {V : Type 0} (StandsSo : How → Type 0) (r s : Option (Record V)) (how : How) → ((h : How) → StandsSo h → DifferIn r s h) → AgreeBut StandsSo r s
    → DifferIn r s how → StandsSo how
told_way StandsSo None None how sound agree differ = absurd differ
told_way StandsSo (Some a) None how sound agree differ = subst StandsSo (sym differ) agree
told_way StandsSo None (Some b) how sound agree differ = subst StandsSo (sym differ) agree
told_way StandsSo (Some a) (Some b) OnlyLeft sound agree differ = absurd differ
told_way StandsSo (Some a) (Some b) OnlyRight sound agree differ = absurd differ
told_way StandsSo (Some a) (Some b) OtherClass sound (inl stands) differ = stands
told_way StandsSo (Some a) (Some b) OtherClass sound (inr (same, each)) differ = absurd (differ same)
told_way StandsSo (Some a) (Some b) (Member name) sound (inl stands) (same, apart) = absurd (sound OtherClass stands same)
told_way StandsSo (Some a) (Some b) (Member name) sound (inr (same, each)) (alike, apart) =
    elim (each name) [ inl equal ↦ absurd (apart equal) | inr stands ↦ stands ]

stands_in : {A : Type 0} (x : A) (xs : List A) → Stands x xs → In x xs
stands_in x [] h = absurd h
stands_in x (y ∷ ys) (inl e) = inl e
stands_in x (y ∷ ys) (inr h) = inr (stands_in x ys h)

differ_at : (m n : Meaning) (ds : List Difference) (d : Difference) → AllByRecursion (AreDifferent m n) ds → In d ds → AreDifferent m n d
differ_at m n [] d all i = absurd i
differ_at m n (e ∷ ds) d all (inl same) = subst (AreDifferent m n) same all.0
differ_at m n (e ∷ ds) d all (inr i) = differ_at m n ds d all.1 i

stands_there : (m n : Meaning) (ds : List Difference) (d : Difference) → AreDifferences m n ds → AreDifferent m n d → In d ds
stands_there m n ds d are differ =
    stands_in d ds (told_way (λ how. Stands (record { part = d.part; key = d.key; how = how }) ds) (record_at m d.part d.key) (record_at n d.part d.key) d.how
    (λ how stands. differ_at m n ds (record { part = d.part; key = d.key; how = how }) are.differ (stands_in _ ds stands)) (are.all d.part d.key) differ)

one_comparison : (m n : Meaning) (ds es : List Difference) → AreDifferences m n ds → AreDifferences m n es → es ≡ ds
one_comparison m n ds es one other =
    rising_unique difference_cmp difference_total es ds other.rise one.rise
    (λ d i. stands_there m n ds d one (differ_at m n es d other.differ i))
    (λ d i. stands_there m n es d other (differ_at m n ds d one.differ i))

one_listing : (π : Preference) (left right : List ℕ) (ds es : List Difference) → AreCompared π left right ds → AreCompared π left right es → es ≡ ds
one_listing π left right ds es one other =
    let lefts : other.left_tree ≡ one.left_tree = one_tree left other.left_tree one.left_tree other.left_accepted.read one.left_accepted.read in
    let rights : other.right_tree ≡ one.right_tree = one_tree right other.right_tree one.right_tree other.right_accepted.read one.right_accepted.read in
    one_comparison (meaning π one.left_tree) (meaning π one.right_tree) ds es one.differences
    (subst (λ t. AreDifferences (meaning π t) (meaning π one.right_tree) es) lefts
    (subst (λ t. AreDifferences (meaning π other.left_tree) (meaning π t) es) rights other.differences))

-- ---- the answers that are taken

each_so : {A : Type 0} (P Q : A → Type 0) → ((x : A) → P x → Q x) → (xs : List A) → AllByRecursion P xs → AllByRecursion Q xs
each_so P Q so [] h = tt
each_so P Q so (x ∷ xs) h = (so x h.0, each_so P Q so xs h.1)

abbrev pub Answering : Type 1
Answering = Piece → Outcome → Told → List ℕ → Type 0

abbrev pub taken_by : Answering → Piece → Told → Outcome × List ℕ → Type 0
taken_by Answers piece told answer = Answers piece answer.0 told answer.1

first_taken : (Answers : Answering) (before : ℕ) (one : TakenText) (later : List TakenText) → AreTaken (taken_by Answers) before (one ∷ later)
    → Answers one.piece one.answer.0 one.told one.answer.1
first_taken Answers before one [] are = are.0.1
first_taken Answers before one (next ∷ later) are = are.0.1

-- an answer that is no list is the only one
only_one : (Answers : Answering) (Writes : Outcome → List ℕ → Type 0) (one : TakenText) (later : List TakenText) → AreTaken (taken_by Answers) 0 (one ∷ later)
    → one.told.all ≡ 0 → Writes one.answer.0 one.answer.1 → AllByRecursion (λ it. Writes it.answer.0 (text_taken (one ∷ later))) (one ∷ later)
only_one Answers Writes one [] are none holds = (subst (Writes one.answer.0) (sym (append-nil one.answer.1)) holds, tt)
only_one Answers Writes one (next ∷ later) (is, more, rest) none holds = let no : ⊥ = omega (arith, more, none) in absurd no

-- the answers without their outcomes
abbrev bare : TakenText → Taken (List ℕ)
bare one = record { piece = one.piece; told = one.told; answer = one.answer.1 }

bare_text : (taken : List TakenText) → flat_map (λ one. one.answer) (map bare taken) ≡ text_taken taken
bare_text [] = refl
bare_text (one ∷ later) = ap (λ text. one.answer.1 ++ text) (bare_text later)

module _ {A : Type 0} (Answers : Answering) (outcome : Outcome) (line_of : A → List ℕ) (side : List ℕ) (entries : List A)
    (lists : (p : Piece) (q : Outcome) (t : Told) (x : List ℕ) → Answers p q t x → (q ≡ outcome) × IsPieceLines line_of side p entries t x) where
  all_lines : (before : ℕ) (taken : List TakenText) → AreTaken (taken_by Answers) before taken
      → AllByRecursion (λ one. one.answer.0 ≡ outcome) taken × AreTaken (λ piece. IsPieceLines line_of side piece entries) before (map bare taken)
  all_lines before [] are = absurd are
  all_lines before (one ∷ []) ((first, is), ends) =
      let h = lists one.piece one.answer.0 one.told one.answer.1 is in
      ((h.0, tt), ((first, h.1), ends))
  all_lines before (one ∷ next ∷ later) ((first, is), more, rest) =
      let h = lists one.piece one.answer.0 one.told one.answer.1 is in
      let others = all_lines (before + one.told.count) (next ∷ later) rest in
      ((h.0, others.0), ((first, h.1), more, others.1))

  -- pieces of one list are together its lines
  whole_list : (Writes : Outcome → List ℕ → Type 0) (taken : List TakenText) → AreTaken (taken_by Answers) 0 taken
      → Writes outcome (text_of_lines (lines_of_side side (map line_of entries))) → AllByRecursion (λ one. Writes one.answer.0 (text_taken taken)) taken
  whole_list Writes taken are holds =
      let all = all_lines 0 taken are in
      let whole : text_taken taken ≡ text_of_lines (lines_of_side side (map line_of entries)) =
      sym (bare_text taken) ∙ pieces_are_the_lines line_of side entries (map bare taken) all.1 in
      each_so (λ one. one.answer.0 ≡ outcome) (λ one. Writes one.answer.0 (text_taken taken))
      (λ one is. subst (λ o. Writes o (text_taken taken)) (sym is) (subst (Writes outcome) (sym whole) holds)) taken all.0

-- ---- refused bytes

-- the lines of a refusal are of no accepted report
refused_lines : (π : Preference) (side bytes : List ℕ) (p : Piece) (q : Outcome) (t : Told) (x : List ℕ) → IsRefusalLines π side bytes p q t x
    → ¬ IsSomeReport π bytes
refused_lines π side bytes p Good t x why some = why
refused_lines π side bytes p Bad t x (faults, r, lines) some = refused_is_none π bytes faults r some
refused_lines π side bytes p NotJson t x why (tree, is) = why.0 tree is.read

of_faults : (π : Preference) (side bytes : List ℕ) (faults : List Fault) → IsRefusedReport π bytes faults → (p : Piece) (q : Outcome) (t : Told) (x : List ℕ)
    → IsRefusalLines π side bytes p q t x
    → (q ≡ Bad) × IsPieceLines fault_line side p faults t x
of_faults π side bytes faults r p Good t x why = absurd why
of_faults π side bytes faults r p Bad t x (others, s, lines) =
    (refl, subst (λ fs. IsPieceLines fault_line side p fs t x) (one_list π bytes faults others r s) lines)
of_faults π side bytes faults r p NotJson t x why = absurd (why.0 r.tree r.read)

-- the pieces of why bytes are refused are together why
refused_pieces : (π : Preference) (side bytes : List ℕ) (Answers : Answering)
    → (((p : Piece) (q : Outcome) (t : Told) (x : List ℕ) → Answers p q t x → ¬ IsSomeReport π bytes → IsRefusalLines π side bytes p q t x))
    → (one : TakenText) (later : List TakenText) → AreTaken (taken_by Answers) 0 (one ∷ later)
    → IsRefusalLines π side bytes one.piece one.answer.0 one.told one.answer.1
    → AllByRecursion (λ it. IsSideRefused π side bytes it.answer.0 (text_taken (one ∷ later))) (one ∷ later)
refused_pieces π side bytes Answers why one later are first = at one.answer.0 refl first
  where
    at : (o : Outcome) → one.answer.0 ≡ o → IsRefusalLines π side bytes one.piece o one.told one.answer.1
        → AllByRecursion (λ it. IsSideRefused π side bytes it.answer.0 (text_taken (one ∷ later))) (one ∷ later)
    at Good is h = absurd h
    at Bad is (faults, r, lines) =
        whole_list Answers Bad fault_line side faults
        (λ p q t x a. of_faults π side bytes faults r p q t x (why p q t x a (refused_is_none π bytes faults r)))
        (IsSideRefused π side bytes) (one ∷ later) are (faults, r, refl)
    at NotJson is (not, text, none) =
        only_one Answers (IsSideRefused π side bytes) one later are none.all (subst (λ o. IsSideRefused π side bytes o one.answer.1) (sym is) (not, text))

-- words in front that are none change no line
no_side : (π : Preference) (bytes : List ℕ) (q : Outcome) (x : List ℕ) → IsSideRefused π [] bytes q x → IsChecked π bytes q x × IsFormText π bytes q x
no_side π bytes Good x h = absurd h
no_side π bytes Bad x (faults, r, is) =
    let text : x ≡ text_of_lines (map fault_line faults) = is ∙ ap text_of_lines (map-id (map fault_line faults)) in
    ((faults, r, text), ([], x, ((faults, r, text), refl), refl))
no_side π bytes NotJson x (not, is) = ((not, is), ([], x, ((not, is), refl), refl))

-- ---- the calls

not_good : (π : Preference) (bytes : List ℕ) (p : Piece) (q : Outcome) (t : Told) (x : List ℕ) → IsCheckLines π bytes p q t x → ¬ IsSomeReport π bytes
    → IsRefusalLines π [] bytes p q t x
not_good π bytes p Good t x h none = absurd (none h.0)
not_good π bytes p Bad t x h none = h
not_good π bytes p NotJson t x h none = h

pub check_pieces : PiecesAreTheCheck
check_pieces π bytes [] are = absurd are
check_pieces π bytes (one ∷ later) are = at one.answer.0 refl (first_taken (IsCheckLines π bytes) 0 one later are)
  where
    refused : IsRefusalLines π [] bytes one.piece one.answer.0 one.told one.answer.1
        → AllByRecursion (λ it. IsChecked π bytes it.answer.0 (text_taken (one ∷ later))) (one ∷ later)
    refused h =
        each_so (λ it. IsSideRefused π [] bytes it.answer.0 (text_taken (one ∷ later))) _
        (λ it is. (no_side π bytes it.answer.0 (text_taken (one ∷ later)) is).0) (one ∷ later)
        (refused_pieces π [] bytes (IsCheckLines π bytes) (not_good π bytes) one later are h)

    at : (o : Outcome) → one.answer.0 ≡ o → IsCheckLines π bytes one.piece o one.told one.answer.1
        → AllByRecursion (λ it. IsChecked π bytes it.answer.0 (text_taken (one ∷ later))) (one ∷ later)
    at Good is (some, text, none) = only_one (IsCheckLines π bytes) (IsChecked π bytes) one later are none.all
        (subst (λ o. IsChecked π bytes o one.answer.1) (sym is) (some, text))
    at Bad is h = refused (subst (λ o. IsRefusalLines π [] bytes one.piece o one.told one.answer.1) (sym is) h)
    at NotJson is h = refused (subst (λ o. IsRefusalLines π [] bytes one.piece o one.told one.answer.1) (sym is) h)

form_report : (π : Preference) (bytes x : List ℕ) → IsCanonicalBytes π bytes x → IsSomeReport π bytes
form_report π bytes x k = (k.report, k.is_accepted)

not_form : (π : Preference) (bytes : List ℕ) (p : Piece) (q : Outcome) (t : Told) (x : List ℕ) → IsFormLines π bytes p q t x → ¬ IsSomeReport π bytes
    → IsRefusalLines π [] bytes p q t x
not_form π bytes p Good t x h none = absurd (none (form_report π bytes x h.0))
not_form π bytes p Bad t x h none = h
not_form π bytes p NotJson t x h none = h

pub form_pieces : PiecesAreTheForm
form_pieces π bytes [] are = absurd are
form_pieces π bytes (one ∷ later) are = at one.answer.0 refl (first_taken (IsFormLines π bytes) 0 one later are)
  where
    refused : IsRefusalLines π [] bytes one.piece one.answer.0 one.told one.answer.1
        → AllByRecursion (λ it. IsFormText π bytes it.answer.0 (text_taken (one ∷ later))) (one ∷ later)
    refused h =
        each_so (λ it. IsSideRefused π [] bytes it.answer.0 (text_taken (one ∷ later))) _
        (λ it is. (no_side π bytes it.answer.0 (text_taken (one ∷ later)) is).1) (one ∷ later)
        (refused_pieces π [] bytes (IsFormLines π bytes) (not_form π bytes) one later are h)

    at : (o : Outcome) → one.answer.0 ≡ o → IsFormLines π bytes one.piece o one.told one.answer.1
        → AllByRecursion (λ it. IsFormText π bytes it.answer.0 (text_taken (one ∷ later))) (one ∷ later)
    at Good is (form, none) =
        only_one (IsFormLines π bytes) (IsFormText π bytes) one later are none.all
        (subst (λ o. IsFormText π bytes o one.answer.1) (sym is) (one.answer.1, [], (form, refl), sym (append-nil one.answer.1)))
    at Bad is h = refused (subst (λ o. IsRefusalLines π [] bytes one.piece o one.told one.answer.1) (sym is) h)
    at NotJson is h = refused (subst (λ o. IsRefusalLines π [] bytes one.piece o one.told one.answer.1) (sym is) h)

-- the left or the right one of two reports is refused, or both are accepted, and then `Both` holds
module _ (π : Preference) (left right : List ℕ) (Both : Answering) (Writes : Outcome → List ℕ → Type 0)
    (lefts : (p : Piece) (q : Outcome) (t : Told) (x : List ℕ) → Both p q t x → IsSomeReport π left)
    (rights : (p : Piece) (q : Outcome) (t : Told) (x : List ℕ) → Both p q t x → IsSomeReport π right) where
  abbrev Answers : Answering
  Answers p q t x = IsRefusalLines π (codes "left: ") left p q t x ⊎ ((IsSomeReport π left × IsRefusalLines π (codes "right: ") right p q t x) ⊎ Both p q t x)

  abbrev Told_of : Outcome → List ℕ → Type 0
  Told_of q x = IsSideRefused π (codes "left: ") left q x ⊎ ((IsSomeReport π left × IsSideRefused π (codes "right: ") right q x) ⊎ Writes q x)

  left_why : (p : Piece) (q : Outcome) (t : Told) (x : List ℕ) → Answers p q t x → ¬ IsSomeReport π left → IsRefusalLines π (codes "left: ") left p q t x
  left_why p q t x (inl h) none = h
  left_why p q t x (inr (inl h)) none = absurd (none h.0)
  left_why p q t x (inr (inr h)) none = absurd (none (lefts p q t x h))

  right_why : IsSomeReport π left → (p : Piece) (q : Outcome) (t : Told) (x : List ℕ) → Answers p q t x → ¬ IsSomeReport π right
      → IsRefusalLines π (codes "right: ") right p q t x
  right_why some p q t x (inl h) none = absurd (refused_lines π (codes "left: ") left p q t x h some)
  right_why some p q t x (inr (inl h)) none = h.1
  right_why some p q t x (inr (inr h)) none = absurd (none (rights p q t x h))

  both_of : IsSomeReport π left → IsSomeReport π right → (p : Piece) (q : Outcome) (t : Told) (x : List ℕ) → Answers p q t x → Both p q t x
  both_of some other p q t x (inl h) = absurd (refused_lines π (codes "left: ") left p q t x h some)
  both_of some other p q t x (inr (inl h)) = absurd (refused_lines π (codes "right: ") right p q t x h.1 other)
  both_of some other p q t x (inr (inr h)) = h

  pair_pieces : ((one : TakenText) (later : List TakenText) → AreTaken (taken_by Answers) 0 (one ∷ later) → Both one.piece one.answer.0 one.told one.answer.1
      → AllByRecursion (λ it. Writes it.answer.0 (text_taken (one ∷ later))) (one ∷ later))
      → (taken : List TakenText) → AreTaken (taken_by Answers) 0 taken → AllByRecursion (λ it. Told_of it.answer.0 (text_taken taken)) taken
  pair_pieces both [] are = absurd are
  pair_pieces both (one ∷ later) are = elim (first_taken Answers 0 one later are) [
    | inl h ↦ each_so (λ it. IsSideRefused π (codes "left: ") left it.answer.0 (text_taken (one ∷ later))) _ (λ it is. inl is) (one ∷ later)
        (refused_pieces π (codes "left: ") left Answers left_why one later are h)
    | inr (inl h) ↦ each_so (λ it. IsSideRefused π (codes "right: ") right it.answer.0 (text_taken (one ∷ later))) _
        (λ it is. inr (inl (h.0, is))) (one ∷ later)
        (refused_pieces π (codes "right: ") right Answers (right_why h.0) one later are h.1)
    | inr (inr h) ↦ each_so (λ it. Writes it.answer.0 (text_taken (one ∷ later))) _ (λ it is. inr (inr is)) (one ∷ later) (both one later are h)
  ]

abbrev Compared : Preference → List ℕ → List ℕ → Answering
Compared π left right p q t x = (found : Option Difference) × IsComparison π left right found × (q ≡ comparison_outcome found)
    × (x ≡ text_of_lines (comparison_line found ∷ [])) × TellsNone t

pub comparison_pieces : PiecesAreTheComparison
comparison_pieces π left right taken are =
    pair_pieces π left right (Compared π left right)
    (λ q x. (found : Option Difference) × IsComparison π left right found × (q ≡ comparison_outcome found) × (x ≡ text_of_lines (comparison_line found ∷ [])))
    (λ p q t x h. (h.1.left_tree, h.1.left_accepted)) (λ p q t x h. (h.1.right_tree, h.1.right_accepted))
    (λ one later taken h. only_one (IsCompareLines π left right)
    (λ q x. (found : Option Difference) × IsComparison π left right found × (q ≡ comparison_outcome found)
    × (x ≡ text_of_lines (comparison_line found ∷ [])))
    one later taken h.4.all (h.0, h.1, h.2, h.3))
    taken are

abbrev Found : Preference → List ℕ → List ℕ → Answering
Found π left right p q t x = (found : List Difference) × AreCompared π left right found × (q ≡ listing_outcome found) × IsFoundLines p found t x

-- the lines of differences, where there are some
found_lines_of : (π : Preference) (left right : List ℕ) (d : Difference) (ds : List Difference) → AreCompared π left right (d ∷ ds)
    → (p : Piece) (q : Outcome) (t : Told) (x : List ℕ) → Found π left right p q t x
    → (q ≡ Bad) × IsPieceLines difference_line [] p (d ∷ ds) t x
found_lines_of π left right d ds are p q t x (found, is, ends, lines) =
    let same : found ≡ d ∷ ds = one_listing π left right (d ∷ ds) found are is in
    (ends ∙ ap listing_outcome same, subst (λ fs. IsFoundLines p fs t x) same lines)

pub listing_pieces : PiecesAreTheListing
listing_pieces π left right taken are =
    pair_pieces π left right (Found π left right) (AreListed π left right)
    (λ p q t x h. (h.1.left_tree, h.1.left_accepted)) (λ p q t x h. (h.1.right_tree, h.1.right_accepted)) both taken are
  where
    both : (one : TakenText) (later : List TakenText) → AreTaken (taken_by (IsListLines π left right)) 0 (one ∷ later)
        → Found π left right one.piece one.answer.0 one.told one.answer.1
        → AllByRecursion (λ it. AreListed π left right it.answer.0 (text_taken (one ∷ later))) (one ∷ later)
    both one later taken ([], is, ends, (text, none)) = only_one (IsListLines π left right) (AreListed π left right) one later taken
        none.all ([], is, ends, text)
    both one later taken (d ∷ ds, is, ends, lines) =
        whole_list (IsListLines π left right) Bad difference_line [] (d ∷ ds)
        (λ p q t x h. found_lines_of π left right d ds is p q t x
        (both_of π left right (Found π left right) (AreListed π left right) (λ p q t x h. (h.1.left_tree, h.1.left_accepted))
        (λ p q t x h. (h.1.right_tree, h.1.right_accepted))
        (is.left_tree, is.left_accepted) (is.right_tree, is.right_accepted) p q t x h))
        (AreListed π left right) (one ∷ later) taken (d ∷ ds, is, refl, ap text_of_lines (map-id (map difference_line (d ∷ ds))))
