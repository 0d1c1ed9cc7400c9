-- The members of two objects are written alike if and only if they mean the same.
use Rattle.erd_text.proofs.Common.{◌≡◌, ℕ, Bool, true, false, cond, List, Some, None, Option, option_and_then, sym, refl, ap, ◌∙◌, subst, fun_ext, Ordering}
use Rattle.erd_text.proofs.Common.{Less, Equal, Greater, exact_bytes, nat_list_cmp_total, Data, object, Members, no_members, member, get_member, MemberKind}
use Rattle.erd_text.proofs.Common.{kind, Class, not, is_some, is_none}
use Rattle.std.specs.Prelude.{◌↔◌}
use Rattle.std.specs.Ordering.{match_ordering}
use Rattle.std.specs.Option.{option_map_or}
use Rattle.erd_tables.specs.Table.{kind_of_member}
use Rattle.erd_tables.specs.Texts.{text_cmp}
use Rattle.erd_check.specs.Trees.{AreMembers, IsBeforeFirst, IsTree}
use Rattle.erd_check.proofs.Shapes.{get_member-before, get_member-first, get_member-tree, members_unique}
use Rattle.erd_check.proofs.Whole.{get_member-later}
use Rattle.erd_shown.proofs.told.Trees.{shown_tree}
use Rattle.erd_meaning.specs.Keys.{Preference}
use Rattle.erd_meaning.specs.Meaning.{PlainValue}
use Rattle.erd_meaning.specs.Records.{is_in_envelope, plain_member, plain_value, unless_empty}
use Rattle.erd_shown.specs.Shown.{shown_members, shown_plain, shown_value}
use Rattle.erd_shown.proofs.told.Values.{Held, held, none, some, values_tell}
use Rattle.erd_shown.specs.code.Fitting.{AreFit, IsFit, RecordsTell}

-- ---- members by name

module _ (f : List ℕ → Data → Option Data) where
  before : (k : List ℕ) (ms : Members) → AreMembers ms → IsBeforeFirst k ms → IsBeforeFirst k (shown_members f ms)
  before k no_members rise below = tt
  before k (member l e ms) rise below = at (f l e) (before k ms rise.2 (later ms rise.0))
    where
      later : (ns : Members) → IsBeforeFirst l ns → IsBeforeFirst k ns
      later no_members first = tt
      later (member m g ns) first = nat_list_cmp_total.trans k l m below first

      at : (o : Option Data) → IsBeforeFirst k (shown_members f ms)
          → IsBeforeFirst k (option_map_or (λ v. member l v (shown_members f ms)) o (shown_members f ms))
      at None rest = rest
      at (Some v) rest = below

  -- values that are trees make members that rise
  pub rise_on : (ms : Members) → AreMembers ms → ((name : List ℕ) (d v : Data) → get_member name ms ≡ Some d → f name d ≡ Some v → IsTree v)
      → AreMembers (shown_members f ms)
  rise_on no_members h trees = tt
  rise_on (member k d ms) h trees = at (f k d) refl (rise_on ms h.2 (λ name e v found is. trees name e v (get_member-later k name d e ms h found) is))
      (before k ms h.2 h.0)
    where
      at : (o : Option Data) → f k d ≡ o → AreMembers (shown_members f ms) → IsBeforeFirst k (shown_members f ms)
          → AreMembers (option_map_or (λ v. member k v (shown_members f ms)) o (shown_members f ms))
      at None e rest first = rest
      at (Some v) e rest first = (first, trees k d v (get_member-first k d ms) e, rest)

  pub by_name : (name : List ℕ) (ms : Members) → AreMembers ms → get_member name (shown_members f ms) ≡ option_and_then (f name) (get_member name ms)
  by_name name no_members rise = refl
  by_name name (member k d ms) rise = at (text_cmp name k) refl (f k d) refl (by_name name ms rise.2)
    where
      gone : (o : Ordering) → text_cmp name k ≡ o → o ≡ Equal → get_member name ms ≡ None
      gone o is e = subst (λ n. get_member n ms ≡ None) (sym (exact_bytes name k (is ∙ e))) (get_member-before k ms rise.2 rise.0)

      at : (o : Ordering) → text_cmp name k ≡ o → (p : Option Data) → f k d ≡ p → get_member name (shown_members f ms)
          ≡ option_and_then (f name) (get_member name ms)
          → get_member name (option_map_or (λ v. member k v (shown_members f ms)) p (shown_members f ms)) ≡ option_and_then (f name)
          (get_member name (member k d ms))
      at Equal is None e rest =
          rest ∙ ap (option_and_then (f name)) (gone Equal is refl)
          ∙ sym (ap (λ x. option_and_then (f name) (match_ordering x (get_member name ms) (Some d) (get_member name ms))) is
          ∙ ap (λ n. f n d) (exact_bytes name k is) ∙ e)
      at Equal is (Some v) e rest =
          ap (λ x. match_ordering x (get_member name (shown_members f ms)) (Some v) (get_member name (shown_members f ms))) is
          ∙ sym (ap (λ x. option_and_then (f name) (match_ordering x (get_member name ms) (Some d) (get_member name ms))) is
          ∙ ap (λ n. f n d) (exact_bytes name k is) ∙ e)
      at Less is None e rest = rest ∙ sym (ap (λ x. option_and_then (f name) (match_ordering x (get_member name ms) (Some d) (get_member name ms))) is)
      at Greater is None e rest = rest ∙ sym (ap (λ x. option_and_then (f name) (match_ordering x (get_member name ms) (Some d) (get_member name ms))) is)
      at Less is (Some v) e rest =
          ap (λ x. match_ordering x (get_member name (shown_members f ms)) (Some v) (get_member name (shown_members f ms))) is ∙ rest
          ∙ sym (ap (λ x. option_and_then (f name) (match_ordering x (get_member name ms) (Some d) (get_member name ms))) is)
      at Greater is (Some v) e rest =
          ap (λ x. match_ordering x (get_member name (shown_members f ms)) (Some v) (get_member name (shown_members f ms))) is ∙ rest
          ∙ sym (ap (λ x. option_and_then (f name) (match_ordering x (get_member name ms) (Some d) (get_member name ms))) is)

-- ---- a member that means nothing is not written

module _ (π : Preference) (t : Data) where
  -- it means something and is written, or neither
  data Told (k : MemberKind) (d : Data) : Type 0 where
    neither : shown_value π t k d ≡ None → plain_value π t k d ≡ None → Told k d
    both : (x : Data) (v : PlainValue) → shown_value π t k d ≡ Some x → plain_value π t k d ≡ Some v → Told k d

  of_held : (k : MemberKind) (d x : Data) (v : PlainValue) → shown_value π t k d ≡ unless_empty x d → plain_value π t k d ≡ unless_empty v d
      → Held PlainValue d → Told k d
  of_held k d x v e g (none p q) = neither (e ∙ p x) (g ∙ q v)
  of_held k d x v e g (some p q) = both x v (e ∙ p x) (g ∙ q v)

  told : (k : MemberKind) (d : Data) → Told k d
  told kind.Word d = both _ _ refl refl
  told kind.Flag d = both _ _ refl refl
  told kind.Whole d = both _ _ refl refl
  told kind.Carried d = both _ _ refl refl
  told kind.Label d = both _ _ refl refl
  told (kind.One f) d = both _ _ refl refl
  told (kind.Many f) d = of_held (kind.Many f) d _ _ refl refl (held d)
  told kind.Identifiers d = of_held kind.Identifiers d _ _ refl refl (held d)
  told kind.Languages d = of_held kind.Languages d _ _ refl refl (held d)
  told kind.Content d = of_held kind.Content d _ _ refl refl (held d)
  told k d = neither refl refl

  -- so the program may ask whether it means something
  pub shown_if_meant : (k : MemberKind) (d : Data) → is_some (shown_value π t k d) ≡ not (is_none (plain_value π t k d))
  shown_if_meant k d = at (told k d)
    where
      at : Told k d → is_some (shown_value π t k d) ≡ not (is_none (plain_value π t k d))
      at (neither e g) = ap is_some e ∙ sym (ap (λ p. not (is_none p)) g)
      at (both x v e g) = ap is_some e ∙ sym (ap (λ p. not (is_none p)) g)

-- ---- under one name

module _ (π ρ : Preference) (t u : Data) (k : MemberKind) where
  alone : (d : Data) → Told π t k d → (shown_value π t k d ≡ None) ↔ (plain_value π t k d ≡ None)
  alone d (neither e g) = (λ h. g, λ h. e)
  alone d (both x v e g) = (λ h. let w : Some x ≡ None = sym e ∙ h in cc, λ h. let w : Some v ≡ None = sym g ∙ h in cc)

module _ (π ρ : Preference) (t u : Data) (k : MemberKind) where
  pub one_name : (o p : Option Data) → ((d : Data) → o ≡ Some d → IsFit π t k d) → ((d : Data) → p ≡ Some d → IsFit ρ u k d)
      → (option_and_then (shown_value π t k) o ≡ option_and_then (shown_value ρ u k) p)
      ↔ (option_and_then (plain_value π t k) o ≡ option_and_then (plain_value ρ u k) p)
  one_name None None g h = (λ e. refl, λ e. refl)
  one_name None (Some e) g h = let a = alone ρ ρ u u k e (told ρ u k e) in (λ x. sym (a.0 (sym x)), λ x. sym (a.1 (sym x)))
  one_name (Some d) None g h = alone π π t t k d (told π t k d)
  one_name (Some d) (Some e) g h = values_tell π ρ t u k d e (g d refl) (h e refl)

-- ---- the law

pub envelope : (b : Bool) {A B : Type 0} (x y : Option A) (v w : Option B) → (x ≡ y) ↔ (v ≡ w) → (cond b None x ≡ cond b None y)
    ↔ (cond b None v ≡ cond b None w)
envelope true x y v w h = (λ e. refl, λ e. refl)
envelope false x y v w h = h

pub outside : {A B : Type 0} (b : Bool) (f : A → Option B) (o : Option A) → option_and_then (λ d. cond b None (f d)) o ≡ cond b None (option_and_then f o)
outside true f None = refl
outside true f (Some d) = refl
outside false f None = refl
outside false f (Some d) = refl

module _ (π : Preference) (t : Data) (c : Class) (ms : Members) (rise : AreMembers ms) (fit : AreFit π t c ms) where
  tree_at : (name : List ℕ) (d v : Data) → get_member name ms ≡ Some d → shown_plain π t c name d ≡ Some v → IsTree v
  tree_at name d v found is = at (is_in_envelope c name) is
    where
      at : (b : Bool) → cond b None (shown_value π t (kind_of_member c name) d) ≡ Some v → IsTree v
      at true e = cc
      at false e = shown_tree π t (kind_of_member c name) d v (get_member-tree name d ms rise found) (fit name d found) e

  pub all_rise : AreMembers (shown_members (shown_plain π t c) ms)
  all_rise = rise_on (shown_plain π t c) ms rise tree_at

  shown_at : (name : List ℕ) → get_member name (shown_members (shown_plain π t c) ms) ≡ cond (is_in_envelope c name) None
      (option_and_then (shown_value π t (kind_of_member c name)) (get_member name ms))
  shown_at name = by_name (shown_plain π t c) name ms rise ∙ outside (is_in_envelope c name) (shown_value π t (kind_of_member c name)) (get_member name ms)

pub records_tell : RecordsTell
records_tell π ρ t u c ms ns rise rise' fit fit' = (
  λ e. fun_ext (λ name. (each name).0 (sym (shown_at π t c ms rise fit name) ∙ ap (get_member name) e ∙ shown_at ρ u c ns rise' fit' name)),
  λ e. members_unique _ _ (all_rise π t c ms rise fit) (all_rise ρ u c ns rise' fit')
      (λ name. shown_at π t c ms rise fit name ∙ (each name).1 (ap (λ (f : List ℕ → Option PlainValue). f name) e) ∙ sym (shown_at ρ u c ns rise' fit' name)),
)
  where
    each : (name : List ℕ) → (cond (is_in_envelope c name) None (option_and_then (shown_value π t (kind_of_member c name)) (get_member name ms))
        ≡ cond (is_in_envelope c name) None (option_and_then (shown_value ρ u (kind_of_member c name)) (get_member name ns)))
        ↔ (plain_member π t (object ms) c name ≡ plain_member ρ u (object ns) c name)
    each name =
        envelope (is_in_envelope c name) _ _ _ _ (one_name π ρ t u (kind_of_member c name) (get_member name ms) (get_member name ns)
        (λ d. fit name d) (λ d. fit' name d))
