-- A log with no pairs is picked. The function makes a struct whose only field owns nothing, and picks its ghost field.
use Rattle.erd_canon.proofs.Common.{[], ◌∷◌, refl, RattleType, owns, owned, nothing, Ura, ‵, raw, ◌⊛◌, !, ◌$◌, move, keep, split, fjoin, suffices, done, qed}
use Rattle.erd_canon.proofs.Common.{◌∵◌, Logic, Fn, inst_fn, SProp, ent, Memory, Routine, Calls, Loops, WpFn, Tables, Fun, WpFn-mono, agg, enter, returns}
use Rattle.erd_canon.proofs.Common.{and_then, no_more, alloc_all, pass_all, free_all, look_at, get, sets, Is, param, types_at, makes, Clauses, Ended, closing}
use Rattle.erd_canon.proofs.Common.{alive, Meets, triple_of, entered, says, walk_of, ends_at, walk_Meets}
use contract.Running.{tables, tables_of}
use Rattle.erd_canon.proofs.logs.Made.{args, none, one, one_made, pair}
use Rattle.erd_canon.specs.contracts.devices.log.Log.new.Key.{name as #self}
use Rattle.std.specs.contracts.marker.PhantomData as Mark
use Rattle.erd_canon.specs.contracts.devices.log.Log as Log
use Rattle.erd_canon.specs.contracts.devices.log.Log.new as F
use Rattle.erd_canon.proofs.devices.log.Log.new.Statement as stated
use Rattle.erd_canon.proofs.devices.log.Log.new.Code as code

module _ (A B : RattleType) where
  abbrev function : Fn
  function = inst_fn (args A B) code.function

  abbrev ended : Ended
  ended = F.ended A B

  module _ {M : Type 1} {𝓤 : Ura M} (𝓛 : Logic 𝓤) (at_mem : Memory → SProp 𝓤) (run : Routine → Fun 𝓤) where
    open 𝓛 use {H}

    abbrev held : Clauses 𝓤 ended
    held = F.clauses A B 𝓛 at_mem run

    module _ (C : Calls 𝓤 H) (Λ : Loops 𝓤 H) (z : (walk_of 𝓛 ended tt held).Ghost) where
      walks : ent 𝓤 ((walk_of 𝓛 ended tt held).pre z) (WpFn 𝓤 H C Λ function ((walk_of 𝓛 ended tt held).args z) ((walk_of 𝓛 ended tt held).post z))
      walks =
          let a = z.0.3 in
          let vss = z.0.4 in
          let made : (Log.the_row (param 0 A) (param 1 B)).Denot =
          record { of = record {}; items = [] } in
          qed 𝓛 ((raw (alive 𝓛 ended.signature z.0.0 z.0.1) ⊛ ‵ (owns (types_at ended.signature.params z.0.0) a vss)) ∷ raw ((held z.0.0 a).requires z.1) ∷ [])
          ∵
          keep ! (0 ∷ []) $ split ! $ keep ! (0 ∷ []) $
          enter ! C Λ function [] ((walk_of 𝓛 ended tt held).post z) $ alloc_all ! (λ l. pass_all ! refl tt $
          sets ! (agg ! (no_more !)) refl (tt, tt) $
          sets ! (agg ! (and_then ! (get ! refl) (no_more !))) refl (tt, (tt, tt)) $
          nothing ! $ owned ! (Mark.the_row (pair A B)) (Is (Mark.the_row (pair A B))) (makes (Mark.the_type (pair A B)) tt 𝓛) (record {})
          (none ∷ []) (tt, (refl, tt)) $
          one_made ! (Mark.the_row (pair A B)) (record {}) none $ fjoin ! $
          returns ! (look_at ! 0 refl) $ free_all ! refl $
          suffices ! _ (ends_at 𝓛 ended tt held z (one none) made tt tt) $ says ! refl $
          nothing ! $ move ! (2 ∷ 0 ∷ 1 ∷ []) $ done !)

    meets : (𝓣 : Tables 𝓤 H) → Meets 𝓛 ended.signature (WpFn 𝓤 H 𝓣.C 𝓣.Λ function) (closing 𝓛 ended held)
    meets 𝓣 = walk_Meets 𝓛 ended tt tt held (WpFn 𝓤 H 𝓣.C 𝓣.Λ function) (WpFn-mono 𝓤 H 𝓛.laws 𝓣 function) (walks 𝓣.C 𝓣.Λ)

pub new_spec : {M : Type 1} → stated.statement M
unfolding tables_of
new_spec 𝓤 𝓛 𝓜 𝓡 wired A B LA LB =
    let 𝓣 : Tables 𝓤 𝓛.H = tables_of 𝓤 𝓛.H 𝓜 (tables 𝓤 𝓛.H 𝓜 𝓡 𝓡.env) in
    entered 𝓤 𝓛.H (triple_of 𝓛 (ended A B).signature (closing 𝓛 (ended A B) (held A B 𝓛 𝓜.mem 𝓡.returns))) 𝓣.C 𝓣.Λ (#self (args A B)) (function A B)
    (code.unfolded 𝓤 𝓛.H 𝓜 𝓡 wired (A, (B, tt))) (meets A B 𝓛 𝓜.mem 𝓡.returns 𝓣)
