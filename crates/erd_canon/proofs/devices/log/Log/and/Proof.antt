-- The log with one more pair is picked. The function reads no parameter, and makes a struct whose only field owns nothing.
use Rattle.erd_canon.proofs.Common.{List, [], ◌∷◌, ◌++◌, refl, RattleType, owns, owned, nothing, vptr, Val, Ura, ‵, raw, ◌⊛◌, prop, !, ◌$◌, move, keep, split}
use Rattle.erd_canon.proofs.Common.{fsplit, fjoin, feq_l, regoal, suffices, done, qed, ◌∵◌, Logic, Fn, inst_fn, SProp, ent, Memory, Routine, Calls, Loops, WpFn}
use Rattle.erd_canon.proofs.Common.{Tables, Fun, WpFn-mono, agg, enter, returns, and_then, no_more, alloc_all, pass_all, free_all, look_at, get, sets, Is}
use Rattle.erd_canon.proofs.Common.{param, plain, types_at, makes, Clauses, Ended, closing, alive, Meets, triple_of, entered, says, Stays, stay_dropped}
use Rattle.erd_canon.proofs.Common.{walk_of, ends_at, walk_Meets, Goes-dropped}
use contract.Running.{tables, tables_of}
use types.Kit.{drop}
use denote.Exit.{yes}
use denote.Builtin.{RefOf}
use Rattle.erd_canon.proofs.logs.Made.{args, none, one, one_made, pair}
use Rattle.erd_canon.specs.contracts.devices.log.Log.and.Key.{name as #self}
use Rattle.std.specs.contracts.marker.PhantomData as Mark
use Rattle.erd_canon.specs.contracts.devices.log.Log as Log
use Rattle.erd_canon.specs.contracts.devices.log.Log.and as F
use Rattle.erd_canon.proofs.devices.log.Log.and.Statement as stated
use Rattle.erd_canon.proofs.devices.log.Log.and.Code as code

module _ (A B : RattleType) where
  abbrev function : Fn
  function = inst_fn (args A B) code.function

  abbrev ended : Ended
  ended = F.ended A B

  abbrev stayed : Stays ended.signature.params ended.kept
  stayed = (
    stay_dropped (RefOf (0 ∷ []) tt (plain (λ _. Log.the_row (param 0 A) (param 1 B))) (λ _. tt)) yes,
    (stay_dropped (RefOf (1 ∷ []) tt (plain (λ _. param 0 A)) (λ _. tt)) yes, (stay_dropped (RefOf (2 ∷ []) tt (plain (λ _. param 1 B)) (λ _. tt)) yes, tt)),
  )

  module _ {M : Type 1} {𝓤 : Ura M} (𝓛 : Logic 𝓤) (at_mem : Memory → SProp 𝓤) (run : Routine → Fun 𝓤) where
    open 𝓛 use {H}

    abbrev held : Clauses 𝓤 ended
    held = F.clauses A B 𝓛 at_mem run

    module _ (C : Calls 𝓤 H) (Λ : Loops 𝓤 H) (z : (walk_of 𝓛 ended stayed held).Ghost) where
      abbrev Post : Val → SProp 𝓤
      Post = (walk_of 𝓛 ended stayed held).post z

      walks : ent 𝓤 ((walk_of 𝓛 ended stayed held).pre z) (WpFn 𝓤 H C Λ function ((walk_of 𝓛 ended stayed held).args z) Post)
      walks =
          let a = z.0.3 in
          let vss = z.0.4 in
          let made : (Log.the_row (param 0 A) (param 1 B)).Denot =
          record { of = record {}; items = a.0.now.items ++ (a.1.0.now, a.1.1.0.now) ∷ [] } in
          qed 𝓛 ((raw (alive 𝓛 ended.signature z.0.0 z.0.1) ⊛ ‵ (owns (types_at ended.signature.params z.0.0) a vss)) ∷ raw ((held z.0.0 a).requires z.1) ∷ [])
          ∵
          keep ! (0 ∷ []) $ split ! $ move ! (1 ∷ []) $
          fsplit ! $ fsplit ! $ feq_l ! (λ is₀. drop ! $ fsplit ! $ fsplit ! $ feq_l ! (λ is₁. drop ! $ fsplit ! $ fsplit ! $ feq_l ! (λ is₂. drop ! $ drop ! $
          let p = vptr a.0.ref_ptr.0 a.0.ref_ptr.1 in
          let q = vptr a.1.0.ref_ptr.0 a.1.0.ref_ptr.1 in
          let r = vptr a.1.1.0.ref_ptr.0 a.1.1.0.ref_ptr.1 in
          regoal ! (λ (us : List Val). prop (WpFn 𝓤 H C Λ function (us ++ (vss.1.0 ++ (vss.1.1.0 ++ []))) Post)) is₀ refl $
          regoal ! (λ (us : List Val). prop (WpFn 𝓤 H C Λ function ((p ∷ []) ++ (us ++ (vss.1.1.0 ++ []))) Post)) is₁ refl $
          regoal ! (λ (us : List Val). prop (WpFn 𝓤 H C Λ function ((p ∷ []) ++ ((q ∷ []) ++ (us ++ []))) Post)) is₂ refl $
          enter ! C Λ function (p ∷ q ∷ r ∷ []) Post $ alloc_all ! (λ l. pass_all ! refl ((tt, tt), ((tt, tt), ((tt, tt), tt))) $
          sets ! (agg ! (no_more !)) refl (tt, tt) $
          sets ! (agg ! (and_then ! (get ! refl) (no_more !))) refl (tt, (tt, tt)) $
          nothing ! $ owned ! (Mark.the_row (pair A B)) (Is (Mark.the_row (pair A B))) (makes (Mark.the_type (pair A B)) tt 𝓛) (record {})
          (none ∷ []) (tt, (refl, tt)) $
          one_made ! (Mark.the_row (pair A B)) (record {}) none $ fjoin ! $
          returns ! (look_at ! 0 refl) $ free_all ! refl $
          suffices ! _ (ends_at 𝓛 ended stayed held z (one none) made (tt, (tt, (tt, tt))) (tt, (tt, (tt, tt)))) $ says ! refl $
          nothing ! $ nothing ! $ fjoin ! $ nothing ! $ fjoin ! $ nothing ! $ fjoin ! $ move ! (2 ∷ 0 ∷ 1 ∷ []) $ done !))))

    meets : (𝓣 : Tables 𝓤 H) → Meets 𝓛 ended.signature (WpFn 𝓤 H 𝓣.C 𝓣.Λ function) (closing 𝓛 ended held)
    meets 𝓣 =
        walk_Meets 𝓛 ended stayed (
          Goes-dropped 𝓛 5 (RefOf (0 ∷ []) tt (plain (λ _. Log.the_row (param 0 A) (param 1 B))) (λ _. tt)) yes (λ κs x f. refl),
          (
            Goes-dropped 𝓛 5 (RefOf (1 ∷ []) tt (plain (λ _. param 0 A)) (λ _. tt)) yes (λ κs x f. refl),
            (Goes-dropped 𝓛 5 (RefOf (2 ∷ []) tt (plain (λ _. param 1 B)) (λ _. tt)) yes (λ κs x f. refl), tt),
          ),
        ) held
        (WpFn 𝓤 H 𝓣.C 𝓣.Λ function) (WpFn-mono 𝓤 H 𝓛.laws 𝓣 function) (walks 𝓣.C 𝓣.Λ)

pub and_spec : {M : Type 1} → stated.statement M
unfolding tables_of
and_spec 𝓤 𝓛 𝓜 𝓡 wired A B LA LB =
    let 𝓣 : Tables 𝓤 𝓛.H = tables_of 𝓤 𝓛.H 𝓜 (tables 𝓤 𝓛.H 𝓜 𝓡 𝓡.env) in
    entered 𝓤 𝓛.H (triple_of 𝓛 (ended A B).signature (closing 𝓛 (ended A B) (held A B 𝓛 𝓜.mem 𝓡.returns))) 𝓣.C 𝓣.Λ (#self (args A B)) (function A B)
    (code.unfolded 𝓤 𝓛.H 𝓜 𝓡 wired (A, (B, tt))) (meets A B 𝓛 𝓜.mem 𝓡.returns 𝓣)
