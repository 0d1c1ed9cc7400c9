-- Members that are put into an object while it is written.
use Rattle.std.specs.Prelude.{◌≡◌, ℕ, List, [], map, Bool, true, false, ◌∷◌, ◌++◌}
use Rattle.std.specs.Bool.{⊤}
use Rattle.std.specs.declared.cmp.Ordering.TheVariants.{Less}
use Rattle.json.specs.Token.{Token, key}
use Rattle.serde_json.specs.Data.{Data, Members, member, number, string, unsigned}
use Rattle.erd_tables.specs.Texts.{text_cmp}
use Rattle.erd_text.specs.Tokens.{members_tokens, value_tokens}
use Rattle.erd_normal.specs.code.Building.{put_all}
use Rattle.erd_normal.specs.declared.objects.due_members.DueMember.{DueMember}
use Rattle.erd_normal.specs.declared.objects.due_members.DueValue.{DueValue}
use Rattle.erd_normal.specs.declared.objects.due_members.DueValue.TheVariants as due

-- The value.
abbrev pub due_value : DueValue → Data
due_value (due.Text text) = string text.now
due_value due.One = number (unsigned 1)

-- The members, as names with values.
abbrev pub due_list : List DueMember → List (List ℕ × Data)
due_list ms = map (λ m. (m.name.now, due_value m.value)) ms

-- The name comes before each of the names.
abbrev pub IsBeforeAll : List ℕ → List (List ℕ × Data) → Type 0
IsBeforeAll k [] = ⊤
IsBeforeAll k (p ∷ ps) = (text_cmp k p.0 ≡ Less) × IsBeforeAll k ps

-- The names strictly rise.
abbrev pub NamesRise : List (List ℕ × Data) → Type 0
NamesRise [] = ⊤
NamesRise (p ∷ ps) = IsBeforeAll p.0 ps × NamesRise ps

-- The names of the members strictly rise.
abbrev pub AreDue : List DueMember → Type 0
AreDue ms = NamesRise (due_list ms)

-- Of the members that are put, those up to a name were written, and the others are left. `taken` says whether one of those
-- written has the name.
pub record WritesThrough (all left : List (List ℕ × Data)) (name : List ℕ) (taken : Bool) (was now : List Token) : Type 0 where
  pub kept : taken ≡ false → (v : Data) (ms : Members)
      → was ++ members_tokens (put_all all (member name v ms)) ≡ now ++ key name ∷ (value_tokens v ++ members_tokens (put_all left ms))
  pub replaced : taken ≡ true → (v : Data) (ms : Members) → was ++ members_tokens (put_all all (member name v ms)) ≡ now ++ members_tokens (put_all left ms)
