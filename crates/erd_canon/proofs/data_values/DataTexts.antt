-- The texts of the values that calls answer as data.
use Rattle.erd_canon.proofs.Common.{◌≡◌, ℕ, ◌^◌, ◌<◌, ◌≤◌, false, ◌⊎◌, List, [], ◌++◌, pos, negsuc, Some, codes, IsUtf8, sym, refl, ap, ◌∙◌, subst, inl, inr}
use Rattle.erd_canon.proofs.Common.{append_assoc, arith, Num, unsigned, negative, float, Data, number, string, array, object, Items, no_items, item, Members}
use Rattle.erd_canon.proofs.Common.{no_members, member, depth, read, max_depth, number_text, outline, items_outline, members_outline, has_float, compact_text}
use Rattle.erd_canon.proofs.Common.{IsFittingNumber, HasFittingNumbers, ItemsHaveFittingNumbers, MembersHaveFittingNumbers, IsTree, Preference, digits}
use Rattle.erd_canon.proofs.Common.{serde_json_on_literals, signed_decimal, Difference, Option, comparison_data, refused_data, IsComparison, IsSomeReport}
use Rattle.erd_canon.proofs.Common.{RefusedAs, RefusedSide, TellsRefusalAs, AppendsData, AnswersData, NamesSide, TellsSideAs, Refusal, refusal, Outcome, Bad}
use Rattle.erd_canon.proofs.Common.{Good, NotJson}
use Rattle.std.proofs.lemmas.Bool.{cases_eq}
use Rattle.serde_json.proofs.Texts.{print-outline}
use Rattle.json.specs.Lex.{tokens}
use Rattle.json.specs.Print.{IsNumber}
use Rattle.json.specs.Tree.{json_tokens, HasNumbers, ItemsHaveNumbers, MembersHaveNumbers}
use Rattle.json.proofs.Printed.Decimals.{IsNumber-decimal, IsNumber-signed_decimal}
use Rattle.json.proofs.Printed.Tokens.{tokens-print}
use Rattle.json.proofs.Printed.Trees.{ArePrintable-json_tokens}
use Rattle.erd_normal.proofs.texts.FormTexts.{form_read}
use Rattle.erd_canon.specs.DataAnswers.{IsDataText, IsCheckData, IsCheckedData, IsComparedData, IsRefusalData}
use Rattle.erd_canon.specs.Run.{comparison_outcome}
use Rattle.erd_canon.specs.declared.bytes.refusal.Side.{Side}
use Rattle.erd_canon.proofs.data_values.DataTrees.{IsLowTree}
use Rattle.erd_canon.proofs.forms.Refusing.{of_side}

-- ---- texts that are written piece by piece

-- one piece and then another
pub two_pieces : (was first mid second text : List ℕ) → mid ≡ was ++ first → text ≡ mid ++ second → text ≡ was ++ (first ++ second)
two_pieces was first mid second text one two = two ∙ ap (λ t. t ++ second) one ∙ append_assoc was first second

-- ---- the compact text of a value is read back as the value

-- the least number of 64 bits
least : IsNumber (signed_decimal (negsuc 9223372036854775807))
unfolding digits serde_json_on_literals
least = refl

below_zero : (n : ℕ) → n < 2 ^ 63 → (n ≡ 9223372036854775807) ⊎ (n ≡ 9223372036854775807 → ⊥) → IsNumber (signed_decimal (negsuc n))
below_zero n fit (inl is) = subst (λ m. IsNumber (signed_decimal (negsuc m))) (sym is) least
below_zero n fit (inr other) = IsNumber-signed_decimal (negsuc n) (omega arith)

number_is : (n : Num) → IsFittingNumber n → IsNumber (number_text n)
number_is (unsigned n) fit = IsNumber-decimal n fit
number_is (negative (pos n)) fit = absurd fit
number_is (negative (negsuc n)) fit = below_zero n fit (cases_eq n 9223372036854775807)
number_is (float x) fit = absurd fit

mutual
  outline_numbers : (d : Data) → HasFittingNumbers d → HasNumbers (outline d)
  outline_numbers (number n) fit = number_is n fit
  outline_numbers (array ds) fit = items_numbers ds fit
  outline_numbers (object ms) fit = members_numbers ms fit
  outline_numbers e fit = tt

  items_numbers : (ds : Items) → ItemsHaveFittingNumbers ds → ItemsHaveNumbers (items_outline ds)
  items_numbers no_items fit = tt
  items_numbers (item d ds) fit = (outline_numbers d fit.0, items_numbers ds fit.1)

  members_numbers : (ms : Members) → MembersHaveFittingNumbers ms → MembersHaveNumbers (members_outline ms)
  members_numbers no_members fit = tt
  members_numbers (member k d ms) fit = (outline_numbers d fit.0, members_numbers ms fit.1)

pub compact_read : (d : Data) → IsTree d → HasFittingNumbers d → depth d ≤ max_depth → read (compact_text d) ≡ Some d
compact_read d tree fit shallow =
    form_read d (compact_text d) tree fit
    (ap tokens (sym (print-outline d)) ∙ tokens-print (json_tokens (outline d)) (ArePrintable-json_tokens (outline d) (outline_numbers d fit))) shallow

-- ---- the texts of the values that calls answer as data

-- the compact text of a value is its text
pub data_text : (text : List ℕ) (d : Data) → IsUtf8 text → text ≡ compact_text d → IsTree d → HasFittingNumbers d → depth d ≤ max_depth → IsDataText text d
data_text text d utf8 is tree fit shallow = record { written = is; reads_back = (utf8, ap read is ∙ compact_read d tree fit shallow) }

-- what a writer promises of the text of a value without a number that is not whole
pub value_text : (text : List ℕ) (v d : Data) → (depth d ≤ 2) × (has_float d ≡ false) → v ≡ d → (has_float v ≡ false → text ≡ compact_text v)
    → (depth v ≤ max_depth → read text ≡ Some v)
    → IsUtf8 text → IsDataText text d
value_text text v d known same written read_back utf8 = record {
  written = written (ap has_float same ∙ known.1) ∙ ap compact_text same;
  reads_back = (utf8, read_back (subst (λ w. depth w ≤ max_depth) (sym same) (omega (arith, known.0))) ∙ ap Some same);
}

-- the text of a value alone
pub text_alone : (Says : Data → Type 0) (before text : List ℕ) → ((d : Data) → Says d → IsLowTree d) → before ≡ [] → AppendsData Says before text → IsUtf8 text
    → AnswersData Says text
text_alone Says before text known none a utf8 =
    let low = known a.value a.says in
    record {
      value = a.value;
      says = a.says;
      is_text = data_text text a.value utf8 (a.wrote ∙ ap (λ t. t ++ compact_text a.value) none) low.0 a.fits
          (omega (arith, low.1));
    }

-- the object that names a side, piece by piece
refused_pieces : (side : List ℕ) (why : Data)
    → compact_text (refused_data side why) ≡ codes "{\"faults\":" ++ (compact_text why ++ (codes ",\"refused\":" ++ (compact_text (string side) ++ codes "}")))
unfolding serde_json_on_literals
refused_pieces side why = refl

joined : (a b c d e : List ℕ) → (((a ++ b) ++ c) ++ d) ++ e ≡ a ++ (b ++ (c ++ (d ++ e)))
joined a b c d e = simp append_assoc

-- the text of the object that names a side
pub side_text : (side : List ℕ) (Says : Data → Type 0) (first second third fourth text : List ℕ) → ((d : Data) → Says d → IsLowTree d)
    → AppendsData Says first second
    → first ≡ codes "{\"faults\":" → third ≡ second ++ codes ",\"refused\":" → fourth ≡ third ++ compact_text (string side) → text ≡ fourth
    ++ codes "}" → IsUtf8 text
    → AnswersData (NamesSide side Says) text
side_text side Says first second third fourth text known a begun named sided ended utf8 =
    let why = a.value in
    let low = known why a.says in
    let deep = low.1 in
    let pieces : text ≡ (((codes "{\"faults\":" ++ compact_text why) ++ codes ",\"refused\":") ++ compact_text (string side)) ++ codes "}" =
    ended ∙ ap (λ t. t ++ codes "}")
    (sided ∙ ap (λ t. t ++ compact_text (string side)) (named ∙ ap (λ t. t ++ codes ",\"refused\":") (a.wrote ∙ ap (λ t. t ++ compact_text why) begun))) in
    let is : text ≡ compact_text (refused_data side why) =
    pieces ∙ joined (codes "{\"faults\":") (compact_text why) (codes ",\"refused\":") (compact_text (string side)) (codes "}")
    ∙ sym (refused_pieces side why) in
    record {
      value = refused_data side why;
      says = (why, a.says, refl);
      is_text = data_text text (refused_data side why) utf8 is (refl, low.0, (tt, tt, tt)) (a.fits, (tt, tt)) (omega (arith, deep));
    }

-- what a value says of the side that is refused
pub side_data : (Tells : Refusal → Data → Type 0) (IsWhy : List ℕ → Data → Type 0) (π : Preference) (left right : List ℕ) (s : Side)
    (value : Data) (Both : Type 0)
    → ((bytes : List ℕ) (refused : Refusal) (why : Data) → RefusedAs π bytes refused → Tells refused why → IsWhy bytes why) → RefusedSide π left right s
    → TellsSideAs Tells s value
    → NamesSide (codes "left") (IsWhy left) value ⊎ ((IsSomeReport π left × NamesSide (codes "right") (IsWhy right) value) ⊎ Both)
side_data Tells IsWhy π left right s value Both follows is told =
    of_side π left right (codes "left") (codes "right") s (λ name refused. NamesSide name (Tells refused) value)
    (λ name bytes. NamesSide name (IsWhy bytes) value) Both
    (λ name bytes refused why named. (named.0, follows bytes refused named.0 why named.1, named.2)) is told

-- ---- what the calls answer as data, from what the calls on bytes answer

-- the value of a refusal says why the bytes are refused
pub refusal_data : (π : Preference) (bytes : List ℕ) (outcome : Outcome) (refused : Refusal) (why : Data) → RefusedAs π bytes refused
    → TellsRefusalAs outcome refused why
    → IsRefusalData π bytes outcome why
refusal_data π bytes Bad (refusal.Faults faults) why (is, none) tells = (faults, is, tells)
refusal_data π bytes NotJson refusal.NotJson why not tells = (not, tells)
refusal_data π bytes outcome refused why is tells = absurd tells

check_data : (π : Preference) (bytes : List ℕ) (outcome : Outcome) (why : Data) → IsRefusalData π bytes outcome why → IsCheckData π bytes outcome why
check_data π bytes Good why is = absurd is
check_data π bytes outcome why is = is

-- the answer of a check if the bytes are refused
pub refused_check : (π : Preference) (bytes : List ℕ) (refused : Refusal) (outcome : Outcome) (text : List ℕ) → RefusedAs π bytes refused
    → AnswersData (TellsRefusalAs outcome refused) text
    → IsCheckedData π bytes outcome text
refused_check π bytes refused outcome text is a =
    record { value = a.value; checked = check_data π bytes outcome a.value (refusal_data π bytes outcome refused a.value is a.says); is_text = a.is_text }

-- the answer of a comparison of two accepted reports
pub both_compared : (π : Preference) (left right text : List ℕ) (outcome : Outcome) (found : Option Difference) → IsComparison π left right found
    → outcome ≡ comparison_outcome found
    → IsDataText text (comparison_data found) → IsComparedData π left right outcome text
both_compared π left right text outcome found is ends written =
    record { value = comparison_data found; compared = inr (inr (found, is, ends, refl)); is_text = written }
