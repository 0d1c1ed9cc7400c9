-- Texts that are written for strings, and compact texts of values whose numbers fit: they tell the values.
use Rattle.erd_shown.proofs.Common.{◌≡◌, ℕ, zero, suc, ◌+◌, ◌-◌, ◌<◌, ◌≤◌, cond, ◌||◌, List, [], ◌∷◌, ◌++◌, nat_lt, ◌==◌, Some, None, Option, option_map}
use Rattle.erd_shown.proofs.Common.{flat_map, unwrap_or, sym, refl, ap, ◌∙◌, subst, ap₂, inl, inr, append_assoc, arith, ne_eqb, string, compact_text}
use Rattle.erd_shown.proofs.Common.{serde_json_on_literals, ◌*◌, ◌/◌, ◌%◌, le-ltb, cases_lt, cases_eq, ◌^◌, Bool, true, false, not, ◌&&◌, length, get_or, drop}
use Rattle.erd_shown.proofs.Common.{pos, negsuc, true≢false, eqb-false, and_from, AllByRecursion, Data, null, boolean, array, object, Items, no_items, item}
use Rattle.erd_shown.proofs.Common.{Members, no_members, member, comma_if, items_text, members_text, Num, unsigned, negative, float, number, number_of, decimal}
use Rattle.erd_shown.proofs.Common.{lt-ltb, decimal_is_IsNumeral, decimal_nonempty, number_text, IsFittingNumber, HasFittingNumbers, ItemsHaveFittingNumbers}
use Rattle.erd_shown.proofs.Common.{MembersHaveFittingNumbers, get_member, get_item, Within, Asked, found_cases, within-holds}
use Rattle.std.specs.Char.{digit_char}
use Rattle.std.proofs.lemmas.Str.Parse.{digit_at}
use Rattle.serde_json.proofs.Numbers.{number_of-decimal, number_of-negative}

-- ---- what is written for a byte

abbrev escape_letter : ℕ → ℕ
escape_letter x = cond ((x == 34) || (x == 92)) x (cond (x == 8) 98 (cond (x == 12) 102 (cond (x == 10) 110 (cond (x == 13) 114 (cond (x == 9) 116 0)))))

abbrev written_byte : ℕ → List ℕ
written_byte x =
    cond (nat_lt 0 (escape_letter x)) (92 ∷ escape_letter x ∷ [])
    (cond (nat_lt x 32) (92 ∷ 117 ∷ 48 ∷ 48 ∷ digit_char (x / 16) ∷ digit_char (x % 16) ∷ []) (x ∷ []))

-- a string's text, by what is written for its bytes
abbrev written_string : List ℕ → List ℕ
written_string s = 34 ∷ (flat_map written_byte s ++ 34 ∷ [])

string_is_written : (s : List ℕ) → compact_text (string s) ≡ written_string s
unfolding serde_json_on_literals
string_is_written s = refl

-- ---- a byte is read from what was written for it

abbrev letter_value : ℕ → ℕ
letter_value c = cond (c == 98) 8 (cond (c == 102) 12 (cond (c == 110) 10 (cond (c == 114) 13 (cond (c == 116) 9 c))))

abbrev hex_value : ℕ → ℕ
hex_value c = cond (nat_lt c 58) (c - 48) (c - 87)

abbrev after_hex : List ℕ → Option (ℕ × List ℕ)
after_hex (a ∷ b ∷ c ∷ d ∷ u) = Some (16 * hex_value c + hex_value d, u)
after_hex u = None

abbrev after_backslash : List ℕ → Option (ℕ × List ℕ)
after_backslash [] = None
after_backslash (c ∷ u) = cond (c == 117) (after_hex u) (Some (letter_value c, u))

-- the first byte of a string and the rest, but for the end of the string
abbrev byte_read : List ℕ → Option (ℕ × List ℕ)
byte_read [] = None
byte_read (b ∷ u) = cond (b == 34) None (cond (b == 92) (after_backslash u) (Some (b, u)))

abbrev Reads : ℕ → Type 0
Reads x = (u : List ℕ) → byte_read (written_byte x ++ u) ≡ Some (x, u)

-- P holds below n, counted down from the top
abbrev Each : (ℕ → Type 0) → ℕ → Type 0
Each P zero = Unit {0}
Each P (suc n) = P n × Each P n

each_sound : (P : ℕ → Type 0) (n : ℕ) → Each P n → (x : ℕ) → x < n → P x
each_sound P zero h x lt = absurd (omega arith)
each_sound P (suc n) h x lt = elim (cases_eq x n) [ inl e ↦ subst P (sym e) h.0 | inr ne ↦ each_sound P n h.1 x (omega arith) ]

controls : Each Reads 32
controls = (
  λ u. refl,
  (
    λ u. refl,
    (
      λ u. refl,
      (
        λ u. refl,
        (
          λ u. refl,
          (
            λ u. refl,
            (
              λ u. refl,
              (
                λ u. refl,
                (
                  λ u. refl,
                  (
                    λ u. refl,
                    (
                      λ u. refl,
                      (
                        λ u. refl,
                        (
                          λ u. refl,
                          (
                            λ u. refl,
                            (
                              λ u. refl,
                              (
                                λ u. refl,
                                (
                                  λ u. refl,
                                  (
                                    λ u. refl,
                                    (
                                      λ u. refl,
                                      (
                                        λ u. refl,
                                        (
                                          λ u. refl,
                                          (
                                            λ u. refl,
                                            (
                                              λ u. refl,
                                              (
                                                λ u. refl,
                                                (λ u. refl, (λ u. refl, (λ u. refl, (λ u. refl, (λ u. refl, (λ u. refl, (λ u. refl, (λ u. refl, tt)))))))),
                                              ),
                                            ),
                                          ),
                                        ),
                                      ),
                                    ),
                                  ),
                                ),
                              ),
                            ),
                          ),
                        ),
                      ),
                    ),
                  ),
                ),
              ),
            ),
          ),
        ),
      ),
    ),
  ),
)

plain_byte : (x : ℕ) → (x ≡ 34 → ⊥) → (x ≡ 92 → ⊥) → 32 ≤ x → written_byte x ≡ x ∷ []
plain_byte x q b l =
    rw (
      ne_eqb x 34 q,
      ne_eqb x 92 b,
      ne_eqb x 8 (λ e. omega arith),
      ne_eqb x 12 (λ e. omega arith),
      ne_eqb x 10 (λ e. omega arith),
      ne_eqb x 13 (λ e. omega arith),
      ne_eqb x 9 (λ e. omega arith),
      le-ltb x 32 l,
    )

plain_reads : (x : ℕ) → (x ≡ 34 → ⊥) → (x ≡ 92 → ⊥) → 32 ≤ x → Reads x
plain_reads x q b l u = ap (λ w. byte_read (w ++ u)) (plain_byte x q b l) ∙ rw (ne_eqb x 34 q, ne_eqb x 92 b)

reads : (x : ℕ) → Reads x
reads x = elim (cases_eq x 34) [
  | inl e ↦ subst Reads (sym e) (λ u. refl)
  | inr q ↦ elim (cases_eq x 92) [
    | inl e ↦ subst Reads (sym e) (λ u. refl)
    | inr b ↦ elim (cases_lt x 32) [ inl c ↦ each_sound Reads 32 controls x c | inr l ↦ plain_reads x q b l ]
  ]
]

-- ---- strings

first_read : (x : ℕ) (s r : List ℕ) → byte_read ((written_byte x ++ flat_map written_byte s) ++ r) ≡ Some (x, flat_map written_byte s ++ r)
first_read x s r = ap byte_read (append_assoc (written_byte x) (flat_map written_byte s) r) ∙ reads x (flat_map written_byte s ++ r)

clash : {A : Type 0} (x : A) → None ≡ Some x → ⊥
clash x e = cc

bytes_exact : (s t r q : List ℕ) → flat_map written_byte s ++ 34 ∷ r ≡ flat_map written_byte t ++ 34 ∷ q → (s ≡ t) × (r ≡ q)
bytes_exact [] [] r q e = let h : r ≡ q = cc in (refl, h)
bytes_exact [] (y ∷ t) r q e = absurd (clash (y, flat_map written_byte t ++ 34 ∷ q) (ap byte_read e ∙ first_read y t (34 ∷ q)))
bytes_exact (x ∷ s) [] r q e = absurd (clash (x, flat_map written_byte s ++ 34 ∷ r) (sym (ap byte_read e) ∙ first_read x s (34 ∷ r)))
bytes_exact (x ∷ s) (y ∷ t) r q e =
    let h : Some (x, flat_map written_byte s ++ 34 ∷ r) ≡ Some (y, flat_map written_byte t ++ 34 ∷ q) =
    sym (first_read x s (34 ∷ r)) ∙ ap byte_read e ∙ first_read y t (34 ∷ q) in
    let first : x ≡ y = ap (λ o. unwrap_or (option_map (λ p. p.0) o) x) h in
    let rest : flat_map written_byte s ++ 34 ∷ r ≡ flat_map written_byte t ++ 34 ∷ q = ap (λ o. unwrap_or (option_map (λ p. p.1) o) []) h in
    let more = bytes_exact s t r q rest in
    (ap₂ ◌∷◌ first more.0, more.1)

inside : (s r : List ℕ) → compact_text (string s) ++ r ≡ 34 ∷ (flat_map written_byte s ++ 34 ∷ r)
inside s r = ap (λ w. w ++ r) (string_is_written s) ∙ ap (λ w. 34 ∷ w) (append_assoc (flat_map written_byte s) (34 ∷ []) r)

pub string_exact : (s t r q : List ℕ) → compact_text (string s) ++ r ≡ compact_text (string t) ++ q → (s ≡ t) × (r ≡ q)
string_exact s t r q e =
    let h : 34 ∷ (flat_map written_byte s ++ 34 ∷ r) ≡ 34 ∷ (flat_map written_byte t ++ 34 ∷ q) = sym (inside s r) ∙ e ∙ inside t q in
    let rest : flat_map written_byte s ++ 34 ∷ r ≡ flat_map written_byte t ++ 34 ∷ q = cc in
    bytes_exact s t r q rest

-- ---- the texts of numbers

-- the text of a number reads as it
pub number_read : (n : Num) → IsFittingNumber n → number_of (number_text n) ≡ Some n
number_read (unsigned n) h = number_of-decimal n h
number_read (negative (pos n)) h = absurd h
number_read (negative (negsuc n)) h = number_of-negative n h
number_read (float x) h = absurd h

number_exact : (m n : Num) → IsFittingNumber m → IsFittingNumber n → number_text m ≡ number_text n → m ≡ n
number_exact m n h k e =
    let f : Some m ≡ Some n = sym (number_read m h) ∙ ap number_of e ∙ number_read n k in cc

-- ---- where the text of a number ends

-- a digit or a minus, which stands in no other text but a string's
abbrev in_number : ℕ → Bool
in_number b = nat_lt 44 b && nat_lt b 58

-- no number goes on here
abbrev is_ended : List ℕ → Bool
is_ended [] = true
is_ended (b ∷ r) = not (in_number b)

ended_not : (b : ℕ) → in_number b ≡ true → not (in_number b) ≡ true → ⊥
ended_not b e g = true≢false (sym g ∙ ap not e)

run_exact : (xs ys r q : List ℕ) → AllByRecursion (λ b. in_number b ≡ true) xs → AllByRecursion (λ b. in_number b ≡ true) ys → is_ended r ≡ true → is_ended q
    ≡ true → xs ++ r ≡ ys ++ q → (xs ≡ ys) × (r ≡ q)
run_exact [] [] r q h k e g same = (refl, same)
run_exact [] (y ∷ ys) r q h k e g same = absurd (ended_not y k.0 (sym (ap is_ended same) ∙ e))
run_exact (x ∷ xs) [] r q h k e g same = absurd (ended_not x h.0 (ap is_ended same ∙ g))
run_exact (x ∷ xs) (y ∷ ys) r q h k e g same =
    let first : x ≡ y = cc in
    let rest : xs ++ r ≡ ys ++ q = cc in
    let more = run_exact xs ys r q h.1 k.1 e g rest in
    (ap₂ ◌∷◌ first more.0, more.1)

digit_in : (b : ℕ) → 48 ≤ b → b ≤ 57 → in_number b ≡ true
digit_in b h k = and_from (nat_lt 44 b) (nat_lt b 58) (lt-ltb 44 b (omega arith)) (lt-ltb b 58 (omega arith))

digits_in : (ds : List ℕ) → ((i : ℕ) → i < length ds → (48 ≤ get_or ds i 0) × (get_or ds i 0 ≤ 57)) → AllByRecursion (λ b. in_number b ≡ true) ds
digits_in [] h = tt
digits_in (d ∷ ds) h = let first = h 0 (omega arith) in (digit_in d first.0 first.1, digits_in ds (λ i l. h (suc i) (omega arith)))

decimal_in : (n : ℕ) → n < 2 ^ 64 → AllByRecursion (λ b. in_number b ≡ true) (decimal n)
decimal_in n h = digits_in (decimal n) (λ i l. digit_at (decimal n) i (decimal_is_IsNumeral n h).0.1 l)

number_in : (n : Num) → IsFittingNumber n → AllByRecursion (λ b. in_number b ≡ true) (number_text n) × (0 < length (number_text n))
number_in (unsigned n) h = (decimal_in n h, decimal_nonempty n h)
number_in (negative (pos n)) h = absurd h
number_in (negative (negsuc n)) h = ((refl, decimal_in (suc n) (omega arith)), omega arith)
number_in (float x) h = absurd h

-- ---- the first byte

abbrev first_byte : List ℕ → ℕ
first_byte w = get_or w 0 0

-- what begins with this byte: the numbers and the truth values have one sign each
abbrev sign_of_byte : ℕ → ℕ
sign_of_byte b = cond (in_number b) 4 (cond (b == 102) 116 b)

abbrev sign_of_text : List ℕ → ℕ
sign_of_text [] = 0
sign_of_text (b ∷ r) = sign_of_byte b

abbrev sign_of : Data → ℕ
sign_of null = 110
sign_of (boolean b) = 116
sign_of (number n) = 4
sign_of (string s) = 34
sign_of (array ds) = 91
sign_of (object ms) = 123

run_sign : (xs r : List ℕ) → 0 < length xs → AllByRecursion (λ b. in_number b ≡ true) xs → sign_of_text (xs ++ r) ≡ 4
run_sign [] r some h = absurd (omega arith)
run_sign (x ∷ xs) r some h = ap (λ c. cond c 4 (cond (x == 102) 116 x)) h.0

sign_is : (d : Data) (r : List ℕ) → HasFittingNumbers d → sign_of_text (compact_text d ++ r) ≡ sign_of d
sign_is (boolean true) r h = refl
sign_is (boolean false) r h = refl
sign_is (number n) r h = run_sign (number_text n) r (number_in n h).1 (number_in n h).0
sign_is d r h = refl

same_sign : (d e : Data) (r q : List ℕ) → HasFittingNumbers d → HasFittingNumbers e → compact_text d ++ r ≡ compact_text e ++ q → sign_of d ≡ sign_of e
same_sign d e r q h k same = sym (sign_is d r h) ∙ ap sign_of_text same ∙ sign_is e q k

no_bracket : (d : Data) → sign_of d ≡ 93 → ⊥
no_bracket null e = eqb-false 110 93 refl e
no_bracket d e = eqb-false (sign_of d) 93 refl e

-- a value does not begin with a closing bracket
not_over : (later : Bool) (d : Data) (ds : Items) (r q : List ℕ) → HasFittingNumbers d → 93 ∷ r ≡ items_text later (item d ds) ++ q → ⊥
not_over true d ds r q h e = eqb-false 93 44 refl (ap first_byte e)
not_over false d ds r q h e =
    no_bracket d (sym (ap sign_of_text (e ∙ append_assoc (compact_text d) (items_text true ds) q) ∙ sign_is d (items_text true ds ++ q) h))

no_more_members : (later : Bool) (k : List ℕ) (d : Data) (ms : Members) (r q : List ℕ) → 125 ∷ r ≡ members_text later (member k d ms) ++ q → ⊥
no_more_members true k d ms r q e = eqb-false 125 44 refl (ap first_byte e)
no_more_members false k d ms r q e = eqb-false 125 34 refl (ap first_byte e)

-- ---- values

no_comma : (later : Bool) (xs ys r q : List ℕ) → (comma_if later ++ xs) ++ r ≡ (comma_if later ++ ys) ++ q → xs ++ r ≡ ys ++ q
no_comma true xs ys r q e = ap (drop 1) e
no_comma false xs ys r q e = e

items_ended : (ds : Items) (r : List ℕ) → is_ended (items_text true ds ++ r) ≡ true
items_ended no_items r = refl
items_ended (item d ds) r = refl

members_ended : (ms : Members) (r : List ℕ) → is_ended (members_text true ms ++ r) ≡ true
members_ended no_members r = refl
members_ended (member k d ms) r = refl

mutual
  value_exact : (d e : Data) (r q : List ℕ) → HasFittingNumbers d → HasFittingNumbers e → is_ended r ≡ true → is_ended q ≡ true → compact_text d ++ r
      ≡ compact_text e ++ q → (d ≡ e) × (r ≡ q)
  value_exact null null r q h k f g same = (refl, ap (drop 4) same)
  value_exact (boolean true) (boolean true) r q h k f g same = (refl, ap (drop 4) same)
  value_exact (boolean false) (boolean false) r q h k f g same = (refl, ap (drop 5) same)
  value_exact (boolean true) (boolean false) r q h k f g same = absurd (eqb-false 116 102 refl (ap first_byte same))
  value_exact (boolean false) (boolean true) r q h k f g same = absurd (eqb-false 102 116 refl (ap first_byte same))
  value_exact (number m) (number n) r q h k f g same =
      let x = run_exact (number_text m) (number_text n) r q (number_in m h).0 (number_in n k).0 f g same in
      (ap number (number_exact m n h k x.0), x.1)
  value_exact (string s) (string t) r q h k f g same = let x = string_exact s t r q same in (ap string x.0, x.1)
  value_exact (array ds) (array es) r q h k f g same =
      let rest : items_text false ds ++ r ≡ items_text false es ++ q = ap (drop 1) same in
      let x = items_exact false ds es r q h k rest in
      (ap array x.0, x.1)
  value_exact (object ms) (object ns) r q h k f g same =
      let rest : members_text false ms ++ r ≡ members_text false ns ++ q = ap (drop 1) same in
      let x = members_exact false ms ns r q h k rest in
      (ap object x.0, x.1)
  value_exact d e r q h k f g same = absurd (eqb-false (sign_of d) (sign_of e) refl (same_sign d e r q h k same))

  items_exact : (later : Bool) (ds es : Items) (r q : List ℕ) → ItemsHaveFittingNumbers ds → ItemsHaveFittingNumbers es → items_text later ds ++ r
      ≡ items_text later es ++ q → (ds ≡ es) × (r ≡ q)
  items_exact later no_items no_items r q h k same = (refl, ap (drop 1) same)
  items_exact later no_items (item e es) r q h k same = absurd (not_over later e es r q k.0 same)
  items_exact later (item d ds) no_items r q h k same = absurd (not_over later d ds q r h.0 (sym same))
  items_exact later (item d ds) (item e es) r q h k same =
      let here = no_comma later (compact_text d ++ items_text true ds) (compact_text e ++ items_text true es) r q same in
      let first = value_exact d e (items_text true ds ++ r) (items_text true es ++ q) h.0 k.0 (items_ended ds r) (items_ended es q)
      (sym (append_assoc (compact_text d) (items_text true ds) r) ∙ here ∙ append_assoc (compact_text e) (items_text true es) q) in
      let rest = items_exact true ds es r q h.1 k.1 first.1 in
      (ap₂ item first.0 rest.0, rest.1)

  members_exact : (later : Bool) (ms ns : Members) (r q : List ℕ) → MembersHaveFittingNumbers ms → MembersHaveFittingNumbers ns → members_text later ms ++ r
      ≡ members_text later ns ++ q → (ms ≡ ns) × (r ≡ q)
  members_exact later no_members no_members r q h k same = (refl, ap (drop 1) same)
  members_exact later no_members (member b e ns) r q h k same = absurd (no_more_members later b e ns r q same)
  members_exact later (member a d ms) no_members r q h k same = absurd (no_more_members later a d ms q r (sym same))
  members_exact later (member a d ms) (member b e ns) r q h k same =
      let mine = 58 ∷ (compact_text d ++ members_text true ms) in
      let its = 58 ∷ (compact_text e ++ members_text true ns) in
      let here = no_comma later (compact_text (string a) ++ mine) (compact_text (string b) ++ its) r q same in
      let names =
      string_exact a b (mine ++ r) (its ++ q) (sym (append_assoc (compact_text (string a)) mine r) ∙ here ∙ append_assoc (compact_text (string b)) its q) in
      let after : (compact_text d ++ members_text true ms) ++ r ≡ (compact_text e ++ members_text true ns) ++ q = ap (drop 1) names.1 in
      let first = value_exact d e (members_text true ms ++ r) (members_text true ns ++ q) h.0 k.0 (members_ended ms r) (members_ended ns q)
      (sym (append_assoc (compact_text d) (members_text true ms) r) ∙ after ∙ append_assoc (compact_text e) (members_text true ns) q) in
      let rest = members_exact true ms ns r q h.1 k.1 first.1 in
      (λ i. member (names.0 i) (first.0 i) (rest.0 i), rest.1)

-- values with one compact text are one
pub compact_exact : (a b : Data) → HasFittingNumbers a → HasFittingNumbers b → compact_text a ≡ compact_text b → a ≡ b
compact_exact a b h k e = (value_exact a b [] [] h k refl refl (ap (λ s. s ++ []) e)).0

-- ---- what stands in a value whose numbers fit has numbers that fit

pub get_member-fitting : (k : List ℕ) (v : Data) (ms : Members) → MembersHaveFittingNumbers ms → get_member k ms ≡ Some v → HasFittingNumbers v
get_member-fitting k v no_members h e = cc
get_member-fitting k v (member l d ms) h e = found_cases k l v d ms e (λ name same. subst HasFittingNumbers same h.0)
    (λ found. get_member-fitting k v ms h.1 found)

get_item-fitting : (i : ℕ) (v : Data) (ds : Items) → ItemsHaveFittingNumbers ds → get_item i ds ≡ Some v → HasFittingNumbers v
get_item-fitting i v no_items h e = cc
get_item-fitting zero v (item d ds) h e = let same : d ≡ v = cc in subst HasFittingNumbers same h.0
get_item-fitting (suc i) v (item d ds) h e = get_item-fitting i v ds h.1 e

-- what is asked of in a report
pub within-fitting : (t : Data) (a : Asked) → HasFittingNumbers t → Within t a → HasFittingNumbers a.value
within-fitting = within-holds HasFittingNumbers (record { of_object = get_member-fitting; of_array = get_item-fitting })

-- ---- where the numbers in a report fit, so do those in what is built of it
