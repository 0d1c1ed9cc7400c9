-- What the call that prepares a report tells: of a prepared report, of no JSON, and of wrong arguments.
use Rattle.std.proofs.Common.{◌≡◌, ◌<◌, ℕ, false, List, [], ◌∷◌, ◌++◌, length, Some, None, codes, sym, refl, ap₂, inl, inr, arith}
use Rattle.std.proofs.lemmas.Option.{none-some}
use Rattle.erd_canon.proofs.Common.{serde_json_on_literals}
use Rattle.erd_canon.specs.Limits.{most_bytes}
use Rattle.erd_prepare.specs.Preparations.{IsPrepared}
use Rattle.erd_prepare.specs.Reading.{IsNoJson}
use Rattle.erd_prepare.specs.declared.step_done.Others.TheVariants as others
use Rattle.erd_prepare.specs.declared.step_done.PreparedBytes.{PreparedBytes}
use Rattle.erd_prepare.specs.declared.step_name.StepName.{StepName}
use Rattle.erd_prepare.specs.declared.step_name.StepName.TheVariants as step
use Rattle.erd_c.specs.Prepared.{IsChosenBy, IsPrepareCall, IsUnpreparedBy, IsWrongToPrepare, prepared_text}

-- ---- a prepared report

-- where no step was done, `[]` tells so in a line before the report
prepared : (file : PreparedBytes) → file.told.items ≡ codes "[]" → file.bytes.items ≡ codes "{}" → IsPrepared (codes "{}") [] others.Untold file
    → IsPrepareCall (codes "{}") [] false (record { outcome = 0; length = 5 }) (codes "0123456") (codes "[]\n{}56")
prepared file told bytes is = record {
  prepared = λ good. record {
    text = codes "[]\n{}";
    answers = record {
      chosen = [];
      by_words = record { is_text = ([], (refl, refl)); steps = refl };
      file = file;
      prepared = is;
      same = sym (ap₂ (λ a b. a ++ 10 ∷ b) told bytes);
    };
    count = refl;
    put = record { fits = λ less. refl; too_long = λ less. absurd (omega (arith, less)) };
  };
  refused = λ no. absurd (no refl);
  long = λ more. absurd (omega (arith, more));
}

-- ---- no bytes are no JSON, whatever the steps

no_json : IsNoJson []
unfolding serde_json_on_literals
no_json d is = none-some d is.value

nulls_are_right : IsWrongToPrepare [] (codes "nulls") → ⊥
unfolding serde_json_on_literals
nulls_are_right (inl long) = absurd (omega (arith, long))
nulls_are_right (inr none) = none (step.Nulls ∷ []) (record { is_text = (codes "nulls", (refl, refl)); steps = refl })

not_json : IsPrepareCall [] (codes "nulls") false (record { outcome = 2; length = 0 }) (codes "0123") (codes "0123")
not_json = record {
  prepared = λ good. absurd (omega (arith, good));
  refused = λ bad. (inl (refl, no_json, nulls_are_right), record { count = refl; kept = refl });
  long = λ more. absurd (omega (arith, more));
}

-- ---- wrong arguments

-- one word of two names no step, so the words are wrong, whatever the bytes are
unknown : IsWrongToPrepare [] (codes "nulls,null")
unknown = inr (λ chosen is. none-some chosen is.steps)

unknown_step : IsPrepareCall [] (codes "nulls,null") false (record { outcome = 3; length = 0 }) [] []
unknown_step = record {
  prepared = λ good. absurd (omega (arith, good));
  refused = λ bad. (inr (inl (refl, unknown)), record { count = refl; kept = refl });
  long = λ more. absurd (omega (arith, more));
}

-- it is not told as no JSON
told_as_wrong : IsPrepareCall [] (codes "nulls,null") false (record { outcome = 2; length = 0 }) [] [] → ⊥
told_as_wrong call = no ((call.refused (λ e. omega (arith, e))).0)
  where
    no : IsUnpreparedBy [] (codes "nulls,null") 2 → ⊥
    no (inl (_, _, right)) = right unknown
    no (inr (inl (three, _))) = omega (arith, three)
    no (inr (inr four)) = omega (arith, four)

-- a report that is a byte too long is told as wrong, and never as out of memory
too_long : (bytes : List ℕ) → length bytes ≡ 67108865 → IsPrepareCall bytes [] false (record { outcome = 4; length = 0 }) [] [] → ⊥
too_long bytes many call = let is : 4 ≡ 3 = call.long (omega (arith, many)) in omega (arith, is)
