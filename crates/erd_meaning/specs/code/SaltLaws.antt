-- What the salt of a report covers: all that its indexes hash.
use Rattle.std.specs.Prelude.{◌≡◌, List, Option, map}
use Rattle.serde_json.specs.Data.{Data}
use Rattle.erd_index.specs.Salts.{bytes_in}
use Rattle.erd_tables.specs.declared.class.Family.{Family}
use Rattle.erd_tables.specs.declared.class.Family.TheVariants as family
use Rattle.erd_meaning.specs.Keys.{Preference}
use Rattle.erd_meaning.specs.NumberedNames.{RankedParts}
use Rattle.erd_meaning.specs.SaltWrites.{AllFit, salt_writes}
use Rattle.erd_meaning.specs.code.ObjectIndexes.{contests_before}
use Rattle.erd_meaning.specs.code.ObjectLookups.{those_of}
use Rattle.erd_meaning.specs.code.ObjectWalk.{Kept, election_keys, kept_objects}
use Rattle.erd_meaning.specs.code.RanksAmong.{ranked_name_among}
use Rattle.erd_meaning.specs.declared.keys.key.Key.{Key}

-- The names of the selections among the objects, with the ranks of their keys. A selection may have no name.
abbrev pub selection_names : Preference → List Kept → List (Option RankedParts)
selection_names π ks = map (λ k. ranked_name_among π ks k.value) (those_of family.Selection ks)

-- The family of an object, and its key.
abbrev pub family_and_key : Kept → Family × Option Key
family_and_key k = (k.family, k.key)

-- Two reports give each index the same keys in the same order: the `@id`s of their objects, the keys of these with their
-- families, the keys of their elections, and the names of their selections with the numbers of contests before them.
pub record SameKeys (π : Preference) (t u : Data) : Type 0 where
  pub ids : map (λ k. k.id) (kept_objects π t) ≡ map (λ k. k.id) (kept_objects π u)
  pub keys : map family_and_key (kept_objects π t) ≡ map family_and_key (kept_objects π u)
  pub elections : election_keys π t ≡ election_keys π u
  pub names : selection_names π (kept_objects π t) ≡ selection_names π (kept_objects π u)
  pub contests : contests_before 0 (kept_objects π t) ≡ contests_before 0 (kept_objects π u)

-- Whichever report has a salt that is computed from the same bytes as that of this one, each index is given the same keys.
abbrev pub KeepsEachIndex : Preference → Data → Type 0
KeepsEachIndex π t = (u : Data) → AllFit π t → AllFit π u → bytes_in (salt_writes π t) ≡ bytes_in (salt_writes π u) → SameKeys π t u
