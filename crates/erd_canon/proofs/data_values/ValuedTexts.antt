-- The texts of the objects of differences with one more member.
use Rattle.erd_canon.proofs.Common.{◌≡◌, ℕ, ◌-◌, Bool, true, false, List, [], ◌∷◌, ◌++◌, length, take, Some, None, Option, codes, option_map, refl, sym, ap}
use Rattle.erd_canon.proofs.Common.{◌∙◌, append_assoc, arith, length-append, Data, null, string, object, Members, no_members, member, comma_if, compact_text}
use Rattle.erd_canon.proofs.Common.{serde_json_on_literals}
use Rattle.json.specs.Print.{quoted}
use Rattle.serde_json.specs.Written.{members_text}
use Rattle.erd_compare.specs.DifferenceData.{after_member, difference_members, how_words, key_data}
use Rattle.erd_compare.specs.DifferenceLine.{part_text}
use Rattle.erd_compare.specs.SelectionData.{name_data, selection_data}
use Rattle.erd_compare.specs.declared.difference.Difference.{Difference}
use Rattle.erd_compare.specs.declared.difference.How.{How}
use Rattle.erd_compare.specs.declared.difference.How.TheVariants.{OnlyLeft, OnlyRight, OtherClass, Member}
use Rattle.erd_compare.specs.declared.inside.SelectionDifference.{SelectionDifference}
use Rattle.erd_canon.specs.ValuedData.{if_told, selection_with, sides_data, values_member, values_or_null}
use Rattle.erd_canon.specs.ValuedData.{room_behind}
use Rattle.erd_canon.specs.code.ValuedInside.{if_room, inside_put, told_put}
use Rattle.erd_canon.specs.code.ValuedTexts.{sides_text, values_put}

-- ---- texts that are written piece by piece

pub five_pieces : (t0 t1 t2 t3 t4 t5 a l c r z : List ℕ) → t1 ≡ t0 ++ a → t2 ≡ t1 ++ l → t3 ≡ t2 ++ c → t4 ≡ t3 ++ r → t5 ≡ t4 ++ z
    → t5 ≡ t0 ++ (a ++ (l ++ (c ++ (r ++ z))))
five_pieces t0 t1 t2 t3 t4 t5 a l c r z e1 e2 e3 e4 e5 =
    e5 ∙ ap (λ t. t ++ z) e4 ∙ append_assoc t3 r z ∙ ap (λ t. t ++ (r ++ z)) e3 ∙ append_assoc t2 c (r ++ z) ∙ ap (λ t. t ++ (c ++ (r ++ z))) e2
    ∙ append_assoc t1 l (c ++ (r ++ z)) ∙ ap (λ t. t ++ (l ++ (c ++ (r ++ z)))) e1 ∙ append_assoc t0 a (l ++ (c ++ (r ++ z)))

-- ---- one more member behind others

-- the text of members without the end
abbrev front : Bool → Members → List ℕ
front later no_members = []
front later (member k d ms) = comma_if later ++ (quoted k ++ 58 ∷ (compact_text d ++ front true ms))

abbrev and_then : Members → Members → Members
and_then no_members ns = ns
and_then (member k d ms) ns = member k d (and_then ms ns)

pull : (a b c f z : List ℕ) → a ++ (b ++ 58 ∷ (c ++ (f ++ z))) ≡ (a ++ (b ++ 58 ∷ (c ++ f))) ++ z
pull a b c f z = sym (append_assoc a (b ++ 58 ∷ (c ++ f)) z ∙ ap (λ t. a ++ t) (append_assoc b (58 ∷ (c ++ f)) z ∙ ap (λ t. b ++ 58 ∷ t) (append_assoc c f z)))

abbrev around : Bool → List ℕ → Data → List ℕ → List ℕ
around later k d t = comma_if later ++ (quoted k ++ 58 ∷ (compact_text d ++ t))

closed : (later : Bool) (ms : Members) → members_text later ms ≡ front later ms ++ 125 ∷ []
closed later no_members = refl
closed later (member k d ms) = ap (around later k d) (closed true ms) ∙ pull (comma_if later) (quoted k) (compact_text d) (front true ms) (125 ∷ [])

abbrev last_text : List ℕ → Data → List ℕ
last_text x v = 44 ∷ (quoted x ++ 58 ∷ (compact_text v ++ 125 ∷ []))

longer : (ms : Members) (x : List ℕ) (v : Data) → members_text true (and_then ms (member x v no_members)) ≡ front true ms ++ last_text x v
longer no_members x v = refl
longer (member k d ms) x v = ap (around true k d) (longer ms x v) ∙ pull (comma_if true) (quoted k) (compact_text d) (front true ms) (last_text x v)

take_front : (f z : List ℕ) → take (length f) (f ++ z) ≡ f
take_front [] z = refl
take_front (x ∷ f) z = ap (λ t. x ∷ t) (take_front f z)

but_last : (f : List ℕ) (z : ℕ) → take (length (f ++ z ∷ []) - 1) (f ++ z ∷ []) ≡ f
but_last f z = let n = length-append f (z ∷ []) in let m : length (f ++ z ∷ []) - 1 ≡ length f = omega (arith, n) in
    ap (λ k. take k (f ++ z ∷ [])) m ∙ take_front f (z ∷ [])

one_more : (k : List ℕ) (d : Data) (ms : Members) (x : List ℕ) (v : Data) (text : List ℕ) → text ≡ compact_text (object (member k d ms))
    → take (length text - 1) text ++ last_text x v ≡ compact_text (object (and_then (member k d ms) (member x v no_members)))
one_more k d ms x v text is =
    let f = 123 ∷ front false (member k d ms) in
    let whole : text ≡ f ++ 125 ∷ [] = is ∙ ap (λ t. 123 ∷ t) (closed false (member k d ms)) in
    ap (λ t. t ++ last_text x v) (ap (λ t. take (length t - 1) t) whole ∙ but_last f 125)
    ∙ sym (ap (λ t. 123 ∷ t) (ap (around false k d) (longer ms x v) ∙ pull (comma_if false) (quoted k) (compact_text d) (front true ms) (last_text x v)))

-- ---- the member of the values

both_text : (a b : Data) → sides_text (Some (compact_text a)) (Some (compact_text b)) ≡ last_text (codes "values") (sides_data (Some a) (Some b))
unfolding serde_json_on_literals
both_text a b =
    let first = compact_text a in
    let second = compact_text b in
    ap (λ t. codes ",\"values\":{\"left\":" ++ t)
    (sym (append_assoc first (44 ∷ (codes "\"right\":" ++ (second ++ 125 ∷ []))) (125 ∷ []) ∙ ap (λ t. first ++ 44 ∷ (codes "\"right\":" ++ t))
    (append_assoc second (125 ∷ []) (125 ∷ []))))

left_text : (a : Data) → sides_text (Some (compact_text a)) None ≡ last_text (codes "values") (sides_data (Some a) None)
unfolding serde_json_on_literals
left_text a = ap (λ t. codes ",\"values\":{\"left\":" ++ t) (sym (append_assoc (compact_text a) (125 ∷ []) (125 ∷ [])))

right_text : (b : Data) → sides_text None (Some (compact_text b)) ≡ last_text (codes "values") (sides_data None (Some b))
unfolding serde_json_on_literals
right_text b = ap (λ t. codes ",\"values\":{\"right\":" ++ t) (sym (append_assoc (compact_text b) (125 ∷ []) (125 ∷ [])))

null_text : codes ",\"values\":null}" ≡ last_text (codes "values") null
unfolding serde_json_on_literals
null_text = refl

-- the member of the values, where one more member behind an object is known
module _ (whole : Members → Data) (text : List ℕ) (is : text ≡ compact_text (whole no_members))
    (longer : (x : List ℕ) (v : Data) → take (length text - 1) text ++ last_text x v ≡ compact_text (whole (member x v no_members))) where
  values_behind : (l r : Option Data) → values_put (option_map compact_text l) (option_map compact_text r) text ≡ compact_text (whole (values_member l r))
  values_behind None None = is
  values_behind (Some a) None = ap (λ t. take (length text - 1) text ++ t) (left_text a) ∙ longer (codes "values") (sides_data (Some a) None)
  values_behind None (Some b) = ap (λ t. take (length text - 1) text ++ t) (right_text b) ∙ longer (codes "values") (sides_data None (Some b))
  values_behind (Some a) (Some b) = ap (λ t. take (length text - 1) text ++ t) (both_text a b) ∙ longer (codes "values") (sides_data (Some a) (Some b))

  null_behind : take (length text - 1) text ++ codes ",\"values\":null}" ≡ compact_text (whole (member (codes "values") null no_members))
  null_behind = ap (λ t. take (length text - 1) text ++ t) null_text ∙ longer (codes "values") null

-- ---- the members of a difference

after_and : (h : How) (ms ns : Members) → after_member h (and_then ms ns) ≡ and_then (after_member h ms) ns
after_and OnlyLeft ms ns = refl
after_and OnlyRight ms ns = refl
after_and OtherClass ms ns = refl
after_and (Member name) ms ns = refl

one_behind : (d : Difference) (ms : Members) (text : List ℕ) → text ≡ compact_text (object (difference_members d ms)) → (x : List ℕ) (v : Data)
    → take (length text - 1) text ++ last_text x v ≡ compact_text (object (difference_members d (and_then ms (member x v no_members))))
one_behind d ms text is x v =
    let behind_part = member (codes "part") (string (part_text d.part)) ms in
    one_more (codes "how") (string (how_words d.how)) (member (codes "key") (key_data d.key) (after_member d.how behind_part)) x v text is
    ∙ ap (λ ns. compact_text (object (member (codes "how") (string (how_words d.how)) (member (codes "key") (key_data d.key) ns))))
    (sym (after_and d.how behind_part (member x v no_members)))

-- the differences inside the selections
selections_text : (v : Data) → codes ",\"selections\":" ++ (compact_text v ++ codes "}") ≡ last_text (codes "selections") v
unfolding serde_json_on_literals
selections_text v = refl

pub inside_text : (d : Difference) (text : List ℕ) → text ≡ compact_text (object (difference_members d no_members)) → (inside : Option Data)
    → inside_put inside text ≡ compact_text (object (difference_members d (if_told (codes "selections") inside no_members)))
inside_text d text is None = is
inside_text d text is (Some v) = ap (λ t. take (length text - 1) text ++ t) (selections_text v) ∙ one_behind d no_members text is (codes "selections") v

inside_and : (inside : Option Data) (x : List ℕ) (v : Data)
    → and_then (if_told (codes "selections") inside no_members) (member x v no_members) ≡ if_told (codes "selections") inside (member x v no_members)
inside_and None x v = refl
inside_and (Some list) x v = refl

pub valued_text : (d : Difference) (inside : Option Data) (text : List ℕ)
    → text ≡ compact_text (object (difference_members d (if_told (codes "selections") inside no_members)))
    → (l r : Option Data) (x y : Option (List ℕ)) → x ≡ option_map compact_text l → y ≡ option_map compact_text r
    → values_put x y text ≡ compact_text (object (difference_members d (if_told (codes "selections") inside (values_member l r))))
valued_text d inside text is l r x y one other =
    ap (λ z. values_put z y text) one ∙ ap (λ z. values_put (option_map compact_text l) z text) other
    ∙ values_behind (λ ns. object (difference_members d (if_told (codes "selections") inside ns))) text is
    (λ k v. one_behind d (if_told (codes "selections") inside no_members) text is k v
    ∙ ap (λ ns. compact_text (object (difference_members d ns))) (inside_and inside k v)) l r

-- ---- the members of a difference of selections

module _ (d : SelectionDifference) (text : List ℕ) (is : text ≡ compact_text (selection_data d)) where
  one_behind_name : (x : List ℕ) (v : Data) → take (length text - 1) text ++ last_text x v ≡ compact_text (selection_with d (member x v no_members))
  one_behind_name x v =
      let name = member (codes "name") (name_data d.name) no_members in
      one_more (codes "how") (string (how_words d.how)) (after_member d.how name) x v text is
      ∙ ap (λ ns. compact_text (object (member (codes "how") (string (how_words d.how)) ns))) (sym (after_and d.how name (member x v no_members)))

  -- with its values, or with null once a value has not fitted
  pub entry_text : (room : Option ℕ) (l r : Option Data) (x y : Option (List ℕ)) → x ≡ option_map compact_text (if_room room l)
      → y ≡ option_map compact_text (if_room (room_behind room l) r)
      → told_put (room_behind (room_behind room l) r) x y text
      ≡ compact_text (selection_with d (values_or_null (room_behind (room_behind room l) r) l r))
  entry_text room l r x y one other =
      ap (λ z. told_put (room_behind (room_behind room l) r) z y text) one
      ∙ ap (λ z. told_put (room_behind (room_behind room l) r) (option_map compact_text (if_room room l)) z text) other ∙ from room
    where
      behind_both : (left : Option ℕ) → told_put left (option_map compact_text l) (option_map compact_text r) text
          ≡ compact_text (selection_with d (values_or_null left l r))
      behind_both None = null_behind (selection_with d) text is one_behind_name
      behind_both (Some left) = values_behind (selection_with d) text is one_behind_name l r

      behind_left : (left : Option ℕ) → told_put (room_behind left r) (option_map compact_text l) (option_map compact_text (if_room left r)) text
          ≡ compact_text (selection_with d (values_or_null (room_behind left r) l r))
      behind_left None = null_behind (selection_with d) text is one_behind_name
      behind_left (Some left) = behind_both (room_behind (Some left) r)

      from : (room : Option ℕ) → told_put (room_behind (room_behind room l) r) (option_map compact_text (if_room room l))
          (option_map compact_text (if_room (room_behind room l) r)) text
          ≡ compact_text (selection_with d (values_or_null (room_behind (room_behind room l) r) l r))
      from None = null_behind (selection_with d) text is one_behind_name
      from (Some room) = behind_left (room_behind (Some room) l)
