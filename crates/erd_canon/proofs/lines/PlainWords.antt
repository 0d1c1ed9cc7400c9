-- How `clap` reads a word that is no flag, at a command with no subcommands.
use Rattle.erd_canon.proofs.Common.{◌≡◌, ℕ, Bool, true, false, ◌&&◌, ◌≢◌, List, [], ◌∷◌, ◌==◌, Some, None, Option, option_map, unwrap_or, Bor, bytes_eq, refl}
use Rattle.erd_canon.proofs.Common.{ap, ap₂, ne_eqb, Shape, word_passes, step_passes, turn_passes, Rule, arg_by_id, arg_by_index, Held, option, idle, next}
use Rattle.erd_canon.proofs.Common.{value, option_word, word_met, Walk, to_positional, after_step, walked, Text}
use Rattle.clap.specs.Lexer.{long_of, short_of}
use Rattle.clap.specs.Walk.{Step}

-- the word is neither `--` nor a flag
pub record IsPlainWord (word : Text) : Type 0 where
  pub dashes : bytes_eq word (45 ∷ 45 ∷ []) ≡ false
  pub long : long_of word ≡ None
  pub short : short_of word ≡ None

-- a word that begins with another byte than a hyphen
pub plain_word : (first : ℕ) (rest : Text) → first ≢ 45 → IsPlainWord (first ∷ rest)
plain_word first rest h =
    let e : (first == 45) ≡ false = ne_eqb first 45 h in
    record { dashes = rw e refl; long = rw e refl; short = rw e refl }

-- the walk between two words, with no subcommand met
abbrev pub at : Held → ℕ → Walk
at h p = record { held = h; waiting = idle; position = p; is_trailing = false; stopped = None }

-- such a word is a value
pub plain_met : (c : List Rule) (p : ℕ) (word : Text) (h : Held) → IsPlainWord word → word_met c [] false idle p word h ≡ (h, value)
plain_met c p word h plain = rw (plain.dashes, plain.long, plain.short) refl

-- and it is taken
pub plain_passes : (s : Shape) (word : Text) (h : Held) → IsPlainWord word → word_passes s [] false idle word h ≡ true
plain_passes s word h plain = rw (plain.dashes, plain.long, plain.short) refl

-- the walk goes on past it at the positional whose place it has
pub walked_plain : (c : List Rule) (h : Held) (p : ℕ) (word : Text) → IsPlainWord word
    → walked c [] (at h p) word ≡ to_positional c (arg_by_index c p) word (at h p) h
unfolding walked
walked_plain c h p word plain =
    ap (λ (m : Held × Step). after_step c word (at h p) m.0 m.1) (plain_met c p word h plain)

-- and the turn passes if the positional takes the word
pub turn_plain : (s : Shape) (h : Held) (p : ℕ) (word : Text) → IsPlainWord word → turn_passes s [] (at h p) word ≡ step_passes s p h value
turn_plain s h p word plain =
    ap₂ (λ (b : Bool) (m : Held × Step). b && step_passes s p m.0 m.1) (plain_passes s word h plain) (plain_met s.rules p word h plain)

-- ---- a value that an option waits for

-- the walk after an option that waits for its value
abbrev pub waits_for : Text → Held → ℕ → Walk
waits_for id h p = record { held = h; waiting = option id; position = p; is_trailing = false; stopped = None }

-- what such a word is then
abbrev value_met : List Rule → Text → Text → Held → Held × Step
value_met c id word h = ((option_word (arg_by_id c id) id word h).0, next (option_word (arg_by_id c id) id word h).1)

waited_met : (c : List Rule) (id : Text) (p : ℕ) (word : Text) (h : Held) → IsPlainWord word
    → word_met c [] false (option id) p word h ≡ value_met c id word h
waited_met c id p word h plain = rw (plain.dashes, plain.long, plain.short) refl

waited_passes : (s : Shape) (id word : Text) (h : Held) → IsPlainWord word → word_passes s [] false (option id) word h ≡ true
waited_passes s id word h plain = rw (plain.dashes, plain.long, plain.short) refl

-- the option takes it
pub walked_waited : (c : List Rule) (id : Text) (h : Held) (p : ℕ) (word : Text) → IsPlainWord word
    → walked c [] (waits_for id h p) word ≡ after_step c word (waits_for id h p) (value_met c id word h).0 (value_met c id word h).1
unfolding walked
walked_waited c id h p word plain =
    ap (λ (m : Held × Step). after_step c word (waits_for id h p) m.0 m.1) (waited_met c id p word h plain)

-- and the turn passes
pub turn_waited : (s : Shape) (id : Text) (h : Held) (p : ℕ) (word : Text) → IsPlainWord word → turn_passes s [] (waits_for id h p) word ≡ true
turn_waited s id h p word plain =
    ap₂ (λ (b : Bool) (m : Held × Step). b && step_passes s p m.0 m.1) (waited_passes s id word h plain) (waited_met s.rules id p word h plain)

-- ---- what was given for an argument

-- the text behind the reference, or the empty one
pub text_or : (o : Option (Bor (List ℕ))) (d : Bor (List ℕ)) → d.now ≡ [] → (unwrap_or o d).now ≡ unwrap_or (option_map (λ s. s.now) o) []
text_or None d e = e
text_or (Some s) d e = refl
