-- Values in which every number is whole are equal to themselves as JSON.
use Rattle.erd_check.proofs.Common.{◌≡◌, ℕ, zero, suc, Bool, true, false, not, ◌&&◌, ◌||◌, List, pos, Some, None, codes, bytes_eq, Ordering, Equal, sym, refl}
use Rattle.erd_check.proofs.Common.{ap, ◌∙◌, subst, not-true, and_parts, and_from, exact_bytes, list_all, Num, unsigned, negative, float, Data, null, boolean}
use Rattle.erd_check.proofs.Common.{number, string, array, object, Items, no_items, item, Members, no_members, member, get_member, get_item, get, text_of_class}
use Rattle.erd_check.proofs.Common.{role_of_class, rows_of_class, is_reference_name, kind_of_identity, kind_of_member, is_required, text_cmp, Class, Role}
use Rattle.erd_check.proofs.Common.{reason, MemberKind, kind, At, Name, is_not_whole, ShapeFault, NoneOf, IsTree, AreTrees, AreMembers, same_number}
use Rattle.erd_check.proofs.Common.{is_same_json, are_same_items, are_same_members, class_of_object, want_of_kind, is_report_class, carried_want, asked}
use Rattle.erd_check.proofs.Common.{Carried, Member, Object, inl, inr, cases_Bool}
use Rattle.std.proofs.lemmas.Bool.Decides.{Decides-int_eq}
use Rattle.erd_check.proofs.Shapes.{get_member-first, get_member-before, string_from_text, Within, Within-step, faultless, wanted_within, classed, Classed}
use Rattle.erd_check.proofs.Shapes.{member_within, of_role, kind_of_class, want_unless_status}
use Rattle.erd_check.proofs.Exact.{text_itself, text_exact, flag_itself}

-- a member of the rest is a member
pub get_member-later : (k q : List ℕ) (d v : Data) (ms : Members) → AreMembers (member k d ms) → get_member q ms ≡ Some v
    → get_member q (member k d ms) ≡ Some v
get_member-later k q d v ms rise e = at (text_cmp q k) refl
  where
    at : (o : Ordering) → text_cmp q k ≡ o → get_member q (member k d ms) ≡ Some v
    at Equal is = let h : None ≡ Some v = sym (get_member-before k ms rise.2 rise.0) ∙ ap (λ x. get_member x ms) (sym (exact_bytes q k is)) ∙ e in cc
    at x is = rw is e

number_itself : (n : Num) → is_not_whole (number n) ≡ false → same_number n n ≡ true
number_itself (unsigned m) h = (Decides-int_eq (pos m) (pos m)).1 refl
number_itself (negative x) h = (Decides-int_eq x x).1 refl
number_itself (float x) h = cc

-- an entry of a set that is compared as JSON
abbrev pub is_simple : MemberKind → Bool
is_simple kind.Word = true
is_simple kind.StrangeReference = true
is_simple kind.StrangeIdentity = true
is_simple kind.Carried = true
is_simple k = false

abbrev pub is_simple_class : Class → Bool
is_simple_class c = not (is_report_class c) && (list_all (λ m. is_simple m.kind) (rows_of_class c) && is_simple (kind_of_identity c))

module _ (t : Data) (clean : NoneOf (ShapeFault t)) where
  pub no_strange : (v : Data) (r : Bool) → Within t (asked (Member kind.StrangeIdentity r) v) → ⊥
  no_strange v r w = let h : true ≡ false = faultless t clean (asked (Member kind.StrangeIdentity r) v) reason.CarriedIdentity w in cc

  pub no_unknown : (v : Data) (r : Bool) → Within t (asked (Member kind.StrangeReference r) v) → ⊥
  no_unknown v r w = let h : true ≡ false = faultless t clean (asked (Member kind.StrangeReference r) v) reason.UnknownReference w in cc

  carried_member : (name : List ℕ) (v : Data) → Within t (asked (carried_want name) v) → Within t (asked Carried v)
  carried_member name v w = elim (cases_Bool (bytes_eq name (codes "@id") || is_reference_name name))
      [ inl is ↦ absurd (no_strange v false (subst (Within t) (rw is) w)) | inr is ↦ subst (Within t) (rw is) w ]

  mutual
    pub carried_itself : (d : Data) → IsTree d → Within t (asked Carried d) → is_same_json d d ≡ true
    carried_itself null tree w = refl
    carried_itself (boolean b) tree w = flag_itself b
    carried_itself (number n) tree w = number_itself n (faultless t clean (asked Carried (number n)) reason.NotWhole w)
    carried_itself (string s) tree w = text_itself s
    carried_itself (array ds) tree w = carried_items ds tree (λ i d e. Within-step t (asked Carried (array ds)) (asked Carried d) (At i) w (rw e))
    carried_itself (object ms) tree w =
        carried_members ms tree (λ k d e. carried_member k d (Within-step t (asked Carried (object ms)) (asked (carried_want k) d) (Name k) w (rw e)))

    carried_items : (ds : Items) → AreTrees ds → ((i : ℕ) (d : Data) → get_item i ds ≡ Some d → Within t (asked Carried d)) → are_same_items ds ds ≡ true
    carried_items no_items tree each = refl
    carried_items (item d ds) tree each = and_from _ _ (carried_itself d tree.0 (each zero d refl)) (carried_items ds tree.1 (λ i. each (suc i)))

    carried_members : (ms : Members) → AreMembers ms → ((k : List ℕ) (d : Data) → get_member k ms ≡ Some d → Within t (asked Carried d))
        → are_same_members ms ms ≡ true
    carried_members no_members tree each = refl
    carried_members (member k d ms) tree each =
        and_from _ _ (text_itself k)
        (and_from _ _ (carried_itself d tree.1 (each k d (get_member-first k d ms)))
        (carried_members ms tree.2 (λ q v e. each q v (get_member-later k q d v ms tree e))))

  simple_itself : (k : MemberKind) (r : Bool) (v : Data) → is_simple k ≡ true → IsTree v → Within t (asked (want_of_kind k r) v) → is_same_json v v ≡ true
  simple_itself kind.Word r v h tree w = let s = string_from_text v (wanted_within t clean (asked (Member kind.Word false) v) w) in
      subst (λ x. is_same_json x x ≡ true) (sym s.1) (text_itself s.0)
  simple_itself kind.StrangeReference r v h tree w = absurd (no_unknown v false w)
  simple_itself kind.StrangeIdentity r v h tree w = absurd (no_strange v false w)
  simple_itself kind.Carried r v h tree w = carried_itself v tree w
  simple_itself _ r v h tree w = cc

  members_itself : (ms : Members) → AreMembers ms → ((k : List ℕ) (d : Data) → get_member k ms ≡ Some d → IsTree d → is_same_json d d ≡ true)
      → are_same_members ms ms ≡ true
  members_itself no_members tree each = refl
  members_itself (member k d ms) tree each =
      and_from _ _ (text_itself k)
      (and_from _ _ (each k d (get_member-first k d ms) tree.1) (members_itself ms tree.2 (λ q v e. each q v (get_member-later k q d v ms tree e))))

  -- an entry of a set of objects with texts and carried members alone
  pub entry_itself : (r : Role) (d : Data) → ((c : Class) → role_of_class c ≡ r → is_simple_class c ≡ true) → IsTree d → Within t (asked (Object r) d)
      → is_same_json d d ≡ true
  entry_itself r d simple tree w =
      let cl : Classed r d = classed t clean (Object r) r d of_role (wanted_within t clean (asked (Object r) d) w) w in
      let ms : Members = cl.members in
      let w' : Within t (asked (Object r) (object ms)) = subst (λ x. Within t (asked (Object r) x)) cl.is_object w in
      let among : class_of_object r (object ms) ≡ Some cl.class = subst (λ x. class_of_object r x ≡ Some cl.class) cl.is_object cl.among in
      let typed : get_member (codes "@type") ms ≡ Some (string (text_of_class cl.class)) =
      subst (λ x. get (codes "@type") x ≡ Some (string (text_of_class cl.class))) cl.is_object cl.text in
      subst (λ x. is_same_json x x ≡ true) (sym cl.is_object)
      (members_itself ms (subst IsTree cl.is_object tree) (λ k v e. each ms w' cl.class (simple cl.class cl.role) among typed k v e))
    where
      each : (ms : Members) → Within t (asked (Object r) (object ms)) → (c : Class) → is_simple_class c ≡ true → class_of_object r (object ms) ≡ Some c
          → get_member (codes "@type") ms ≡ Some (string (text_of_class c))
          → (k : List ℕ) (v : Data) → get_member k ms ≡ Some v → IsTree v → is_same_json v v ≡ true
      each ms inside c simple among typed k v is vtree = at (bytes_eq k (codes "@type")) refl
        where
          no_report : (is_report_class c && bytes_eq k (codes "Status")) ≡ false
          no_report = rw (not-true (is_report_class c) (and_parts (not (is_report_class c)) _ simple).0)

          parts : (list_all (λ m. is_simple m.kind) (rows_of_class c) ≡ true) × (is_simple (kind_of_identity c) ≡ true)
          parts = and_parts (list_all (λ m. is_simple m.kind) (rows_of_class c)) (is_simple (kind_of_identity c))
              (and_parts (not (is_report_class c)) _ simple).1

          at : (b : Bool) → bytes_eq k (codes "@type") ≡ b → is_same_json v v ≡ true
          at true named =
              let h : Some (string (text_of_class c)) ≡ Some v = sym typed ∙ ap (λ x. get_member x ms) (sym (text_exact k (codes "@type") named)) ∙ is in
              let s : string (text_of_class c) ≡ v = cc in
              subst (λ x. is_same_json x x ≡ true) s (text_itself (text_of_class c))
          at false other =
              simple_itself (kind_of_member c k) (is_required c k) v
              (kind_of_class is_simple c k other parts.0 parts.1 refl refl)
              vtree
              (subst (λ x. Within t (asked x v)) (want_unless_status c k no_report) (member_within t clean (Object r) r ms c k v of_role among other inside is))
