-- What `clap` makes of the words that are options, before the other words of a subcommand.
use Rattle.erd_canon.proofs.Common.{◌≡◌, ℕ, Bool, true, false, ◌&&◌, List, [], ◌∷◌, ◌++◌, slice_get, Some, None, codes, fold, Option, unwrap_or, refl, ap, ◌∙◌}
use Rattle.erd_canon.proofs.Common.{ap₂, append_assoc, clap_on_literals, Rule, Shape, settle_passes, turn_passes, walk_passes, default_passes, is_valid}
use Rattle.erd_canon.proofs.Common.{level_passes, Held, Walk, walked, walk_from, walk, finished, nothing_held, rows_after, settled, built, Text, option_words}
use Rattle.erd_canon.proofs.Common.{preference_words, IsFileName, IsOptionText, program}
use Rattle.std.specs.List.{list_all}
use Rattle.erd_canon.proofs.lines.PlainWords.{IsPlainWord, at, plain_word, turn_waited, waits_for, walked_waited}

-- a subcommand as built, by its place
abbrev pub subcommand : ℕ → Shape
subcommand i = unwrap_or (slice_get (built program).subs i) program.top

pub file_plain : (file : Text) → IsFileName file → IsPlainWord file
file_plain [] h = absurd h
file_plain (x ∷ xs) h = plain_word x xs h

-- ---- words that lead from what is held before them to what is held after them

pub record Leads (s : Shape) (words : List Text) (h k : Held) : Type 0 where
  pub walks : (rest : List Text) → walk s.rules [] h (words ++ rest) ≡ walk s.rules [] k rest
  pub passes : (rest : List Text) → walk_passes s [] (walk_from h) (words ++ rest) ≡ walk_passes s [] (walk_from k) rest

pub leads_on : {s : Shape} {xs ys : List Text} {h k l : Held} → Leads s xs h k → Leads s ys k l → Leads s (xs ++ ys) h l
leads_on {s = s} {xs} {ys} {h = h} a b = record {
  walks = λ rest. ap (walk s.rules [] h) (append_assoc xs ys rest) ∙ (a.walks (ys ++ rest) ∙ b.walks rest);
  passes = λ rest. ap (walk_passes s [] (walk_from h)) (append_assoc xs ys rest) ∙ (a.passes (ys ++ rest) ∙ b.passes rest);
}

pub leads_nowhere : {s : Shape} {h : Held} → Leads s [] h h
leads_nowhere = record { walks = λ rest. refl; passes = λ rest. refl }

-- a flag
pub leads_flag : {s : Shape} {word : Text} {h k : Held} → walked s.rules [] (at h 1) word ≡ at k 1 → turn_passes s [] (at h 1) word ≡ true
    → Leads s (word ∷ []) h k
unfolding walk_passes
leads_flag {s = s} e p = record {
  walks = λ rest. ap (λ (w : Walk). fold (walked s.rules []) w rest) e;
  passes = λ rest. ap₂ (λ (b : Bool) (w : Walk). b && walk_passes s [] w rest) p e;
}

-- what is held while an option waits for its text, and behind the option, if it is there
abbrev pub waiting : List Rule → Text → Held → Held
waiting c id h = record (settled c h) { pending = Some (id, []) }

abbrev pub given : List Rule → Text → Option Text → Held → Held
given c id None h = h
given c id (Some text) h = record (settled c h) { pending = Some (id, text ∷ []) }

-- the subcommand knows the option that this word names
pub record Knows (s : Shape) (word id : Text) : Type 0 where
  pub walks : (h : Held) → walked s.rules [] (at h 1) word ≡ waits_for id (waiting s.rules id h) 1
  pub passes : (h : Held) → settle_passes s.rules s.args_override_self h ≡ true → turn_passes s [] (at h 1) word ≡ true
  pub takes : (h : Held) (text : Text) → IsPlainWord text → walked s.rules [] (waits_for id (waiting s.rules id h) 1) text
      ≡ at (given s.rules id (Some text) h) 1

pub leads_option : {s : Shape} {word id : Text} → Knows s word id → (text : Option Text) (h : Held) → IsOptionText text
    → settle_passes s.rules s.args_override_self h ≡ true
    → Leads s (option_words word text) h (given s.rules id text h)
unfolding walk_passes
leads_option knows None h is e = leads_nowhere
leads_option {s = s} {word} {id} knows (Some text) h is e =
    let plain = file_plain text is in
    let both : walked s.rules [] (walked s.rules [] (at h 1) word) text ≡ at (given s.rules id (Some text) h) 1 =
    ap (λ (w : Walk). walked s.rules [] w text) (knows.walks h) ∙ knows.takes h text plain in
    record {
      walks = λ rest. ap (λ (w : Walk). fold (walked s.rules []) w rest) both;
      passes = λ rest. ap₂ (λ (b : Bool) (d : Bool). b && d) (knows.passes h e)
          (ap₂ (λ (b : Bool) (w : Walk). b && walk_passes s [] w rest)
          (ap (λ (w : Walk). turn_passes s [] w text) (knows.walks h) ∙ turn_waited s id (waiting s.rules id h) 1 text plain) both);
    }

-- ---- the options of the subcommands

-- `--prefer` of each, and `--steps`
pub check_prefers : Knows (subcommand 0) (codes "--prefer") (codes "TYPE")
unfolding clap_on_literals
check_prefers =
    record {
      walks = λ h. refl;
      passes = λ h e. ap (λ b. b && true) e;
      takes = λ h text plain. walked_waited (subcommand 0).rules (codes "TYPE") (waiting (subcommand 0).rules (codes "TYPE") h) 1 text plain;
    }

pub canon_prefers : Knows (subcommand 1) (codes "--prefer") (codes "TYPE")
unfolding clap_on_literals
canon_prefers =
    record {
      walks = λ h. refl;
      passes = λ h e. ap (λ b. b && true) e;
      takes = λ h text plain. walked_waited (subcommand 1).rules (codes "TYPE") (waiting (subcommand 1).rules (codes "TYPE") h) 1 text plain;
    }

pub compare_prefers : Knows (subcommand 2) (codes "--prefer") (codes "TYPE")
unfolding clap_on_literals
compare_prefers =
    record {
      walks = λ h. refl;
      passes = λ h e. ap (λ b. b && true) e;
      takes = λ h text plain. walked_waited (subcommand 2).rules (codes "TYPE") (waiting (subcommand 2).rules (codes "TYPE") h) 1 text plain;
    }

pub differences_prefers : Knows (subcommand 3) (codes "--prefer") (codes "TYPE")
unfolding clap_on_literals
differences_prefers =
    record {
      walks = λ h. refl;
      passes = λ h e. ap (λ b. b && true) e;
      takes = λ h text plain. walked_waited (subcommand 3).rules (codes "TYPE") (waiting (subcommand 3).rules (codes "TYPE") h) 1 text plain;
    }

pub ballots_prefers : Knows (subcommand 4) (codes "--prefer") (codes "TYPE")
unfolding clap_on_literals
ballots_prefers =
    record {
      walks = λ h. refl;
      passes = λ h e. ap (λ b. b && true) e;
      takes = λ h text plain. walked_waited (subcommand 4).rules (codes "TYPE") (waiting (subcommand 4).rules (codes "TYPE") h) 1 text plain;
    }

pub prepare_prefers : Knows (subcommand 5) (codes "--prefer") (codes "TYPE")
unfolding clap_on_literals
prepare_prefers =
    record {
      walks = λ h. refl;
      passes = λ h e. ap (λ b. b && true) e;
      takes = λ h text plain. walked_waited (subcommand 5).rules (codes "TYPE") (waiting (subcommand 5).rules (codes "TYPE") h) 1 text plain;
    }

pub prepare_chooses : Knows (subcommand 5) (codes "--steps") (codes "STEPS")
unfolding clap_on_literals
prepare_chooses =
    record {
      walks = λ h. refl;
      passes = λ h e. ap (λ b. b && true) e;
      takes = λ h text plain. walked_waited (subcommand 5).rules (codes "STEPS") (waiting (subcommand 5).rules (codes "STEPS") h) 1 text plain;
    }

-- what is held behind a flag that is the first word
abbrev pub flagged : ℕ → Text → Held
flagged i word = (walked (subcommand i).rules [] (at nothing_held 1) word).held

-- `--json` or not, and then the preference
abbrev pub json_words : Bool → Option Text → List Text
json_words false prefer = preference_words prefer
json_words true prefer = codes "--json" ∷ preference_words prefer

abbrev pub held_json : ℕ → Bool → Held
held_json i false = nothing_held
held_json i true = flagged i (codes "--json")

abbrev pub held_first : ℕ → Bool → Option Text → Held
held_first i json prefer = given (subcommand i).rules (codes "TYPE") prefer (held_json i json)

pub leads_json : (i : ℕ) → Leads (subcommand i) (codes "--json" ∷ []) nothing_held (flagged i (codes "--json")) → settle_passes (subcommand i).rules
    (subcommand i).args_override_self (flagged i (codes "--json")) ≡ true
    → Knows (subcommand i) (codes "--prefer") (codes "TYPE") → (json : Bool) (prefer : Option Text) → IsOptionText prefer
    → Leads (subcommand i) (json_words json prefer) nothing_held (held_first i json prefer)
leads_json i flag settles knows false prefer is = leads_option knows prefer nothing_held is refl
leads_json i flag settles knows true prefer is = leads_on flag (leads_option knows prefer (flagged i (codes "--json")) is settles)

-- ---- a level behind the options

-- what is asked at the end of a level
abbrev pub ends : Shape → Held → Bool
ends s h = settle_passes s.rules s.args_override_self h && (list_all default_passes s.rules && is_valid s (finished s.rules h) false)

-- a level takes the words as it takes those behind the options
pub level_behind : (s : Shape) (options : List Text) (k : Held) (words : List Text) → Leads s options nothing_held k
    → level_passes s [] nothing_held (options ++ words) false ≡ level_passes s [] k words false
level_behind s options k words leads = ap₂ (λ (b : Bool) (w : Walk). b && ends s w.held) (leads.passes words) (leads.walks words)

-- what a level finds
pub rows_behind : (s : Shape) (options : List Text) (k : Held) (words : List Text) → Leads s options nothing_held k
    → rows_after s.rules [] (options ++ words) ≡ finished s.rules (walk s.rules [] k words).held
rows_behind s options k words leads = ap (λ (w : Walk). finished s.rules w.held) (leads.walks words)
