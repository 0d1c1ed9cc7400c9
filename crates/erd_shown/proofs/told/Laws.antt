-- In accepted reports, two members and two objects are written alike if and only if they mean the same.
use Rattle.erd_shown.proofs.Common.{◌≡◌, ◌↔◌, ℕ, Bool, true, false, cond, List, Some, None, Option, codes, option_map, option_and_then, bytes_eq, sym, refl, ap}
use Rattle.erd_shown.proofs.Common.{◌∙◌, subst, Data, null, string, object, Members, no_members, member, get_member, Class, class, family, Role, role}
use Rattle.erd_shown.proofs.Common.{MemberKind, kind_of_member, text_of_class, Within, Within-root, asked, Object, object_in, ObjectIn, class_of_object, IsTree}
use Rattle.erd_shown.proofs.Common.{In-from_contains, Preference, no_shape_fault, skeleton, election_stands, stands, objects, elections, Placed, Key, a_key}
use Rattle.erd_shown.proofs.Common.{MemberValue, a_plain, ObjectRecord, member_of_class, object_record, record_in_election, text_exact, within-tree, fun_ext}
use Rattle.erd_shown.proofs.Common.{[], plain_value, is_in_envelope, member_value, AreMembers, election_key_of}
use Rattle.std.specs.Option.{option_map_or}
use Rattle.erd_meaning.specs.Records.{with_election_id}
use Rattle.erd_shown.specs.KeyData.{shown_key_or_null}
use Rattle.erd_shown.specs.Shown.{holder_key, member_data, object_data, object_in_class, shown_member, shown_members}
use Rattle.erd_shown.specs.Laws.{IsTaken, MembersTell, ObjectsTell, StandsAs, placed_meaning}
use Rattle.erd_shown.specs.code.Fitting.{AreFitMembers}
use Rattle.erd_shown.proofs.fit.FitMembers.{object_fit, other_fit}
use Rattle.erd_shown.proofs.told.Names.{class_exact, keys_exact}
use Rattle.erd_shown.proofs.told.Objects.{all_members_tell, one_member}

-- ---- the objects of a report that is taken

-- an object that stands in the report: it is asked for there, and its members are fit
pub record Taken (π : Preference) (t : Data) (r : Role) (o : Placed) : Type 0 where
  pub object_there : ObjectIn t r o.value
  pub fit : AreFitMembers π t object_there.class object_there.ms
  pub tree : IsTree (object object_there.ms)

module _ (π : Preference) (t : Data) (given : IsTaken π t) where
  asked_object : (r : Role) (o : Placed) → Within t (asked (Object r) o.value) → ObjectIn t r o.value
  asked_object r o w = object_in t (no_shape_fault π t given.accepted) r o.value w

  taken_with : (r : Role) (o : Placed) (w : Within t (asked (Object r) o.value)) → AreFitMembers π t (asked_object r o w).class
      (asked_object r o w).ms → Taken π t r o
  taken_with r o w fit = record {
    object_there = asked_object r o w;
    fit = fit;
    tree = subst IsTree (asked_object r o w).is_object (within-tree t (asked (Object r) o.value) given.is_tree w);
  }

  pub taken : (r : Role) (o : Placed) → StandsAs t r o → Taken π t r o
  taken role.Report o is =
      let w : Within t (asked (Object role.Report) o.value) = subst (λ x. Within t (asked (Object role.Report) x.value)) (sym is) (Within-root t) in
      taken_with role.Report o w (other_fit π t given.accepted given.is_tree given.fits role.Report o.value (asked_object role.Report o w) refl)
  taken role.Election o there =
      let w : Within t (asked (Object role.Election) o.value) =
      record { place = o.place; is = election_stands t (skeleton π t given.accepted) o (In-from_contains o (elections t) there) } in
      taken_with role.Election o w (other_fit π t given.accepted given.is_tree given.fits role.Election o.value (asked_object role.Election o w) refl)
  taken (role.OfFamily f) o there =
      let i = In-from_contains o (objects f t) there in
      let w : Within t (asked (Object (role.OfFamily f)) o.value) = record { place = o.place; is = stands π t given.accepted f o i } in
      taken_with (role.OfFamily f) o w (object_fit π t given.accepted given.is_tree given.fits f o (asked_object (role.OfFamily f) o w) i)
  taken r o there = absurd (In-from_contains o [] there)

-- ---- members

pub members_tell : MembersTell
members_tell π ρ t u r o p c name given given' there there' is is' =
    let a = taken π t given r o there in
    let b = taken ρ u given' r p there' in
    subst (λ x. (member_data π t c name x ≡ member_data ρ u c name p.value) ↔ (member_of_class π t x c name ≡ member_of_class ρ u p.value c name))
    (sym a.object_there.is_object)
    (subst (λ y. (member_data π t c name (object a.object_there.ms) ≡ member_data ρ u c name y)
    ↔ (member_of_class π t (object a.object_there.ms) c name ≡ member_of_class ρ u y c name)) (sym b.object_there.is_object)
    (one_member π ρ t u c a.object_there.ms b.object_there.ms (fit_in π t a is) (fit_in ρ u b is') name))
  where
    fit_in : (σ : Preference) (v : Data) {q : Placed} (a : Taken σ v r q) → class_of_object r q.value ≡ Some c → AreFitMembers σ v c a.object_there.ms
    fit_in σ v a is =
        let x = a.object_there in
        let classes : Some x.class ≡ Some c = sym x.at.among ∙ sym (ap (class_of_object r) x.is_object) ∙ is in
        let same : x.class ≡ c = cc in
        subst (λ e. AreFitMembers σ v e x.ms) same a.fit

-- ---- with the key of an election

-- no member has the name of that key
abbrev kind_of_key : Class → MemberKind
kind_of_key c = kind_of_member c (codes "ElectionId")

nothing_of_kind : (π : Preference) (t : Data) (c : Class) (o : Option Data)
    → member_value π t (kind_of_key c) o (cond (is_in_envelope c (codes "ElectionId")) None (option_and_then (plain_value π t (kind_of_key c)) o)) ≡ None
nothing_of_kind π t class.ElectionReport None = refl
nothing_of_kind π t class.ElectionReport (Some d) = refl
nothing_of_kind π t c None = refl
nothing_of_kind π t c (Some d) = refl

no_election_id : (π : Preference) (t : Data) (ms : Members) (c : Class) → member_of_class π t (object ms) c (codes "ElectionId") ≡ None
no_election_id π t ms c = nothing_of_kind π t c (get_member (codes "ElectionId") ms)

abbrev pub Read : Type 0
Read = List ℕ → Option MemberValue

pub without_key : (k : Option Key) (m : Read) (name : List ℕ) → bytes_eq name (codes "ElectionId") ≡ false → with_election_id k m name ≡ m name
without_key None m name other = refl
without_key (Some k) m name other = rw other

keys_alike : (k l : Option Key) (m n : Read) → m (codes "ElectionId") ≡ None → n (codes "ElectionId") ≡ None → with_election_id k m (codes "ElectionId")
    ≡ with_election_id l n (codes "ElectionId") → k ≡ l
keys_alike None None m n none none' e = refl
keys_alike None (Some l) m n none none' e = let h : None ≡ Some (a_plain (a_key (Some l))) = sym none ∙ e in cc
keys_alike (Some k) None m n none none' e = let h : Some (a_plain (a_key (Some k))) ≡ None = e ∙ none' in cc
keys_alike (Some k) (Some l) m n none none' e = let same : k ≡ l = cc in ap Some same

members_alike : (k l : Option Key) (m n : Read) → m (codes "ElectionId") ≡ None → n (codes "ElectionId") ≡ None
    → ((name : List ℕ) → with_election_id k m name ≡ with_election_id l n name) → m ≡ n
members_alike k l m n none none' e = fun_ext (λ name. at name (bytes_eq name (codes "ElectionId")) refl)
  where
    at : (name : List ℕ) (b : Bool) → bytes_eq name (codes "ElectionId") ≡ b → m name ≡ n name
    at name true is = let named = text_exact name (codes "ElectionId") is in ap m named ∙ none ∙ sym (ap n named ∙ none')
    at name false is = sym (without_key k m name is) ∙ e name ∙ without_key l n name is

-- ---- objects

abbrev pub meant_in : Option Key → Class → Read → ObjectRecord
meant_in k c m = record { class = c; members = with_election_id k m }

module _ (π ρ : Preference) (t u : Data) (ms ns : Members) (rise : AreMembers ms) (rise' : AreMembers ns) (k l : Option Key) where
  same_class : (c d : Class) → AreFitMembers π t c ms → AreFitMembers ρ u d ns → c ≡ d
      → (shown_members (shown_member π t c) ms ≡ shown_members (shown_member ρ u d) ns)
      ↔ (member_of_class π t (object ms) c ≡ member_of_class ρ u (object ns) d)
  same_class c d fit fit' same =
      subst (λ x. (shown_members (shown_member π t c) ms ≡ shown_members (shown_member ρ u x) ns)
      ↔ (member_of_class π t (object ms) c ≡ member_of_class ρ u (object ns) x)) same
      (all_members_tell π ρ t u c ms ns rise rise' fit (subst (λ x. AreFitMembers ρ u x ns) (sym same) fit'))

  in_classes : (c d : Class) → AreFitMembers π t c ms → AreFitMembers ρ u d ns
      → (object_in_class π t k (object ms) c ≡ object_in_class ρ u l (object ns) d)
      ↔ (Some (meant_in k c (member_of_class π t (object ms) c)) ≡ Some (meant_in l d (member_of_class ρ u (object ns) d)))
  in_classes c d fit fit' = (
    λ e.
        let texts : text_of_class c ≡ text_of_class d = cc in
        let keys : shown_key_or_null k ≡ shown_key_or_null l = cc in
        let members : shown_members (shown_member π t c) ms ≡ shown_members (shown_member ρ u d) ns = cc in
        let same = class_exact c d texts in
        let holders = keys_exact k l keys in
        let all = (same_class c d fit fit' same).0 members in
        λ i. Some (record { class = same i; members = with_election_id (holders i) (all i) }),
    λ e.
        let one : meant_in k c (member_of_class π t (object ms) c) ≡ meant_in l d (member_of_class ρ u (object ns) d) = cc in
        let same : c ≡ d = ap (λ (r : ObjectRecord). r.class) one in
        let reads : (name : List ℕ) → with_election_id k (member_of_class π t (object ms) c) name ≡ with_election_id l (member_of_class ρ u (object ns) d)
        name = λ name. ap (λ (r : ObjectRecord). r.members name) one in
        let holders = keys_alike k l (member_of_class π t (object ms) c) (member_of_class ρ u (object ns) d) (no_election_id π t ms c) (no_election_id ρ u ns d)
        (reads (codes "ElectionId")) in
        let all =
        (same_class c d fit fit' same).1 (members_alike k l (member_of_class π t (object ms) c) (member_of_class ρ u (object ns) d)
        (no_election_id π t ms c) (no_election_id ρ u ns d) reads) in
        λ i. object
        (member (codes "class") (string (text_of_class (same i)))
        (member (codes "election") (shown_key_or_null (holders i)) (member (codes "members") (object (all i)) no_members))),
  )

-- what is written for an object that stands in the report, and what it means
module _ (π : Preference) (t : Data) (r : Role) (o : Placed) (a : Taken π t r o) where
  abbrev of : ObjectIn t r o.value
  of = a.object_there

  written : object_data π t r o ≡ object_in_class π t (holder_key π t r o) (object of.ms) of.class
  written =
      ap (λ x. option_map_or (object_in_class π t (holder_key π t r o) x) (class_of_object r x) null) of.is_object
      ∙ ap (λ c. option_map_or (object_in_class π t (holder_key π t r o) (object of.ms)) c null) of.at.among

  plain_record : object_record π t r o.value ≡ Some (record { class = of.class; members = member_of_class π t (object of.ms) of.class })
  plain_record = ap (object_record π t r) of.is_object ∙ ap (option_map (λ c. record { class = c; members = member_of_class π t (object of.ms) c })) of.at.among

  in_no_election : object_record π t r o.value ≡ Some (meant_in None of.class (member_of_class π t (object of.ms) of.class))
  in_no_election = plain_record ∙ ap (λ (m : Read). Some (record { class = of.class; members = m })) (fun_ext (λ name. refl))

pub meant : (π : Preference) (t : Data) (r : Role) (o : Placed) (a : Taken π t r o)
    → placed_meaning π t r o ≡ Some (meant_in (holder_key π t r o) a.object_there.class (member_of_class π t (object a.object_there.ms) a.object_there.class))
meant π t (role.OfFamily family.Selection) o a = in_no_election π t (role.OfFamily family.Selection) o a
meant π t (role.OfFamily f) o a = ap (option_map (record_in_election (election_key_of π t o))) (plain_record π t (role.OfFamily f) o a)
meant π t r o a = in_no_election π t r o a

pub objects_tell : ObjectsTell
objects_tell π ρ t u r o p given given' there there' =
    let a = taken π t given r o there in
    let b = taken ρ u given' r p there' in
    let both = in_classes π ρ t u a.object_there.ms b.object_there.ms a.tree b.tree (holder_key π t r o) (holder_key ρ u r p) a.object_there.class
    b.object_there.class a.fit b.fit in (
      λ e. meant π t r o a ∙ both.0 (sym (written π t r o a) ∙ e ∙ written ρ u r p b) ∙ sym (meant ρ u r p b),
      λ e. written π t r o a ∙ both.1 (sym (meant π t r o a) ∙ e ∙ meant ρ u r p b) ∙ sym (written ρ u r p b),
    )
