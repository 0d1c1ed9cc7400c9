-- What a report holds beside its tree: its objects, the names of its selections and its elections, once.
use Rattle.std.specs.Prelude.{◌≡◌, List, [], ◌∷◌, map}
use Rattle.std.specs.declared.hash.DefaultHasher.{DefaultHasher}
use Rattle.serde_json.specs.View.{view}
use Rattle.serde_json.specs.declared.value.Value.{Value}
use Rattle.erd_meaning.specs.SaltWrites.{report_start}
use Rattle.erd_meaning.specs.Keys.{Preference}
use Rattle.erd_meaning.specs.code.RanksAmong.{AllAreRanked, names_of}
use Rattle.erd_meaning.specs.code.Resolved.{IsResolved}
use Rattle.erd_meaning.specs.code.ResolvedElections.{AreElections}
use Rattle.erd_meaning.specs.code.Shown.{shown}
use Rattle.erd_meaning.specs.declared.report.Indexes.{Indexes}

-- The indexes are under the salt that starts this hasher.
pub record IsSalted (start : DefaultHasher) (x : Indexes) : Type 0 where
  pub objects_are : x.objects.start ≡ start
  pub names_are : x.names.start ≡ start
  pub elections_are : x.elections.keys.start ≡ start

-- There is exactly one entry, and it has the objects, the names and the elections of the accepted report.
abbrev pub AreResolved : Preference → Value → List Indexes → Type 0
AreResolved π tree (x ∷ []) = IsResolved π tree x.objects.objects (names_of x.names.keys) × AllAreRanked (map shown x.objects.objects) x.names.keys
    × AreElections π tree x.elections × IsSalted (report_start π (view tree)) x
AreResolved π tree xs = ⊥
