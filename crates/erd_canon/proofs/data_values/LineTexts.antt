-- The object of a request nests little, and what words are answered with.
use Rattle.erd_canon.proofs.Common.{◌≡◌, ℕ, ◌≤◌, Bool, true, false, ◌||◌, List, Some, None, Option, Result, sym, refl, ap, ap₂, subst, arith, depth, has_float}
use Rattle.erd_canon.proofs.Common.{IsLineRead}
use Rattle.erd_canon.specs.LineAnswers.{IsAnswerTo, IsLineData, preparation_data, request_data}
use Rattle.erd_canon.specs.Options.{option_data}
use Rattle.erd_canon.specs.ReadLines.{IsReadExactly}
use Rattle.erd_canon.specs.declared.commands.request.LineFault.{LineFault}
use Rattle.erd_canon.specs.declared.commands.request.Request.{Request}
use Rattle.erd_canon.specs.declared.commands.request.Request.TheVariants.{Filter, Check, Canon, Compare, CheckData, CompareData, Differences, DifferencesData}
use Rattle.erd_canon.specs.declared.commands.request.Request.TheVariants.{Prepare, PrepareList, PrepareReport, Ballots, BallotsData, BallotDifferences}
use Rattle.erd_canon.specs.declared.commands.request.Request.TheVariants.{BallotDifferencesData}

-- an option does not nest, and has no number
option_flat : (text : Option (List ℕ)) → (depth (option_data text) ≤ 0) × (has_float (option_data text) ≡ false)
option_flat None = (omega arith, refl)
option_flat (Some text) = (omega arith, refl)

-- and so it is with the last members of an object
last_has_float : (prefer : Option (List ℕ)) → (has_float (option_data prefer) || false) ≡ false
last_has_float prefer = ap (λ (b : Bool). b || false) (option_flat prefer).1

-- a preparation nests little, and has no number
preparation_value : (list report : Bool) (file : List ℕ) (steps prefer : Option (List ℕ)) → (depth (preparation_data list report file steps prefer) ≤ 2)
    × (has_float (preparation_data list report file steps prefer) ≡ false)
preparation_value list report file steps prefer = (
  omega (arith, (option_flat prefer).0, (option_flat steps).0),
  ap₂ (λ (b : Bool) (d : Bool). b || d) (option_flat prefer).1 (last_has_float steps),
)

-- the object of a request nests little, and has no number
pub request_value : (r : Request) → (depth (request_data r) ≤ 2) × (has_float (request_data r) ≡ false)
request_value Filter = (omega arith, refl)
request_value (Check file prefer) = (omega (arith, (option_flat prefer).0), last_has_float prefer)
request_value (Canon file prefer) = (omega (arith, (option_flat prefer).0), last_has_float prefer)
request_value (Compare left right prefer) = (omega (arith, (option_flat prefer).0), last_has_float prefer)
request_value (CheckData file prefer) = (omega (arith, (option_flat prefer).0), last_has_float prefer)
request_value (CompareData left right prefer) = (omega (arith, (option_flat prefer).0), last_has_float prefer)
request_value (Differences left right prefer) = (omega (arith, (option_flat prefer).0), last_has_float prefer)
request_value (DifferencesData left right prefer) = (omega (arith, (option_flat prefer).0), last_has_float prefer)
request_value (Prepare file steps prefer) = preparation_value false false file steps prefer
request_value (PrepareList file) = preparation_value true false file None None
request_value (PrepareReport file steps) = preparation_value false true file steps None
request_value (Ballots file prefer) = (omega (arith, (option_flat prefer).0), last_has_float prefer)
request_value (BallotsData file prefer) = (omega (arith, (option_flat prefer).0), last_has_float prefer)
request_value (BallotDifferences left right prefer) = (omega (arith, (option_flat prefer).0), last_has_float prefer)
request_value (BallotDifferencesData left right prefer) = (omega (arith, (option_flat prefer).0), last_has_float prefer)

-- the answer to what was read from the words
pub line_data : (words : List (List ℕ)) (found line : Result Request LineFault) (status : Option ℕ) (text : List ℕ) → found ≡ line → IsReadExactly words found
    → IsLineRead words found
    → IsAnswerTo line status text → IsLineData words status text
line_data words found line status text is exact was_read answer = record {
  found = found;
  exact = exact;
  read = was_read;
  answer = subst (λ r. IsAnswerTo r status text) (sym is) answer;
}
