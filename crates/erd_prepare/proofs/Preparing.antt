-- Several steps, one after the other.
use Rattle.std.proofs.Common.{◌≡◌, ◌∙◌, ◌+◌, ◌<◌, ◌++◌, ◌==◌, ℕ, Bool, true, List, [], ◌∷◌, take, get_or, length, subst, sym, ap, refl, inl, inr, Vec, Global}
use Rattle.std.proofs.lemmas.Bool.{eqb-true}
use Rattle.std.proofs.lemmas.List.{nil_from_length, take_more}
use Rattle.std.proofs.lemmas.List.Folds.{list_all-append}
use Rattle.std.specs.List.{Contains, list_all}
use Rattle.serde_json.specs.Data.{Data}
use Rattle.erd_check.proofs.Common.{and_parts}
use Rattle.erd_prepare.specs.Preparations.{AreStepsDone, IsOtherTold, IsStepAdded, IsUnmoved, left_out, no_step, one_more}
use Rattle.serde_json.specs.View.{view}
use Rattle.erd_prepare.specs.Steps.{IsNamedStepDone}
use Rattle.erd_prepare.specs.StepWords.{name_of_step}
use Rattle.erd_prepare.specs.Tellings.{AreEach, AreFirst, IsChangeTold, IsStepTold, IsTellingAdded, more_entries, no_entry}
use Rattle.erd_prepare.specs.declared.change.Change.{Change}
use Rattle.erd_prepare.specs.declared.engine.Done.{Done}
use Rattle.erd_prepare.specs.declared.left.Left.{Left}
use Rattle.erd_prepare.specs.declared.step_done.Others.{Others}
use Rattle.erd_prepare.specs.declared.step_done.StepDone.{StepDone}
use Rattle.erd_prepare.specs.declared.step_name.StepName.{StepName}

pub no_step_yet : (others : Others) (chosen : List StepName) (given : Data) (dones : List StepDone) (tree : Data) (tolds : List Data) → dones ≡ []
    → tree ≡ given → tolds ≡ []
    → AreStepsDone others chosen given [] dones tree tolds
no_step_yet others chosen given dones tree tolds none same no_told =
    subst (λ (ds : List StepDone). AreStepsDone others chosen given [] ds tree tolds) (sym none)
    (subst (λ (d : Data). AreStepsDone others chosen given [] [] d tolds) (sym same)
    (subst (λ (ts : List Data). AreStepsDone others chosen given [] [] given ts) (sym no_told) no_step))

pub one_more_step : (others : Others) (chosen : List StepName) (given : Data) (names : List StepName) (i : ℕ) (d : StepName)
    (olds news : List StepDone) (before after : Data)
    (tolds tolds_after : List Data) → i < length names → Contains chosen (get_or names i d) → AreStepsDone others chosen given (take i names) olds before tolds
    → IsStepAdded (get_or names i d) before olds news after tolds tolds_after → AreStepsDone others chosen given (take (i + 1) names) news after tolds_after
one_more_step others chosen given names i d olds news before after tolds tolds_after low is_chosen h k =
    subst (λ (ns : List StepName). AreStepsDone others chosen given ns news after tolds_after) (sym (take_more names i d low))
    (one_more (take i names) (get_or names i d) olds news before after tolds tolds_after is_chosen h k)

pub step_left_out : (others : Others) (chosen : List StepName) (given : Data) (names : List StepName) (i : ℕ) (d : StepName)
    (dones : List StepDone) (tree : Data)
    (tolds tolds_after : List Data) → i < length names → ¬ (Contains chosen (get_or names i d)) → AreStepsDone others chosen given
    (take i names) dones tree tolds
    → IsOtherTold others (get_or names i d) dones tree tolds tolds_after → AreStepsDone others chosen given (take (i + 1) names) dones tree tolds_after
step_left_out others chosen given names i d dones tree tolds tolds_after low is_not h k =
    subst (λ (ns : List StepName). AreStepsDone others chosen given ns dones tree tolds_after) (sym (take_more names i d low))
    (left_out (take i names) (get_or names i d) dones tree tolds tolds_after is_not h k)

-- ---- places that have not moved

module _ (P Q : Type 0) (only : Q → P) where
  change_where : (c : Change) (d : Data) → IsChangeTold P c d → IsChangeTold Q c d
  change_where c d h = record { place = h.place; own = λ q. h.own (only q); is_value = h.is_value }

  each_where : (cs : List Change) (ds : List Data) → AreEach (IsChangeTold P) cs ds → AreEach (IsChangeTold Q) cs ds
  each_where _ _ no_entry = no_entry
  each_where _ _ (more_entries cs ds c d h one) = more_entries cs ds c d (each_where cs ds h) (change_where c d one)

  step_where : (name : List ℕ) (is_done : Bool) (changes : List Change) (left : List Left) (d : Data) → IsStepTold name is_done P changes left d
      → IsStepTold name is_done Q changes left d
  step_where name is_done changes left d h = record {
    shown = h.shown;
    shown_left = h.shown_left;
    are_changes = record {
      shown = h.are_changes.shown;
      rest = h.are_changes.rest;
      split = h.are_changes.split;
      each = each_where h.are_changes.shown h.shown h.are_changes.each;
      ends = h.are_changes.ends;
    };
    are_left = h.are_left;
    is_value = h.is_value;
  }

  pub added_where : (name : List ℕ) (is_done : Bool) (changes : List Change) (left : List Left) (olds news : List Data)
      → IsTellingAdded name is_done P changes left olds news → IsTellingAdded name is_done Q changes left olds news
  added_where name is_done changes left olds news (inl h) = inl h
  added_where name is_done changes left olds news (inr (some, (d, told, is))) = inr (some, (d, step_where name is_done changes left d told, is))

-- with one more step that changed nothing
pub unmoved_so_far : (olds : List StepDone) (one : StepDone) (news : List StepDone) → news ≡ olds ++ one ∷ [] → IsUnmoved news → IsUnmoved olds
    × (one.changes.items ≡ [])
unmoved_so_far olds one news is h =
    let test = λ (done : StepDone). length done.changes.items == 0 in
    let parts = and_parts (list_all test olds) (list_all test (one ∷ [])) (sym (list_all-append test olds (one ∷ [])) ∙ ap (list_all test) (sym is) ∙ h) in
    (parts.0, nil_from_length one.changes.items (eqb-true (length one.changes.items) 0 (and_parts (test one) true parts.1).0))

-- what stands there after two calls that keep it
pub kept_twice : {A : Type 0} (before mid after : Vec A Global) → after ≡ mid → mid ≡ before → before.items ≡ [] → after.items ≡ []
kept_twice {A = A} before mid after e f h = ap (λ (v : Vec A Global). v.items) (e ∙ f) ∙ h

-- one more step that was done, and is told
pub step_added : (name : StepName) (before : Data) (olds news : List StepDone) (done : Done) (P : Type 0) (tolds tolds_mid tolds_after : List Data)
    → IsNamedStepDone name before done → (IsUnmoved olds → P) → news ≡ olds ++ record { step = name; changes = done.changes; left = done.left } ∷ []
    → IsTellingAdded (name_of_step name) true P done.changes.items done.left.items tolds tolds_mid → tolds_after ≡ tolds_mid
    → IsStepAdded name before olds news (view done.tree) tolds tolds_after
step_added name before olds news done P tolds tolds_mid tolds_after is only added told same = record {
  rule = is.rule;
  own = is.own;
  step = record { step = name; changes = done.changes; left = done.left };
  named = refl;
  added = added;
  tree = is.tree;
  changes = is.changes;
  telling =
      subst (λ (ts : List Data). IsTellingAdded (name_of_step name) true (IsUnmoved olds) done.changes.items done.left.items tolds ts) (sym same)
      (added_where P (IsUnmoved olds) only (name_of_step name) true done.changes.items done.left.items tolds tolds_mid told);
}
