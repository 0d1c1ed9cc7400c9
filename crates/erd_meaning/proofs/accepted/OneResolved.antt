-- A report holds its objects, names and elections once, so what is known of them is known of its tree.
use Rattle.erd_meaning.proofs.Common.{List, [], ◌∷◌, Value, Preference, IsResolved, NumberedName, Object}
use Rattle.erd_meaning.specs.code.RanksAmong.{names_of}
use Rattle.erd_meaning.specs.code.ResolvedIndexes.{AreResolved}
use Rattle.erd_meaning.specs.declared.report.Indexes.{Indexes}

pub one_resolved : (π : Preference) (tree : Value) (xs : List Indexes) → AreResolved π tree xs → (objects : List Object)
    × ((names : List NumberedName) × IsResolved π tree objects names)
one_resolved π tree [] r = absurd r
one_resolved π tree (x ∷ []) r = (x.objects.objects, (names_of x.names.keys, r.0))
one_resolved π tree (x ∷ y ∷ xs) r = absurd r
