-- How a struct whose only field owns nothing is made.
use Rattle.erd_canon.proofs.Common.{List, [], ◌∷◌, refl, RattleType, Args, a_type, layouts, param, Tuple, Valss, nothing, vstruct, vnil, vcons, Val, Ura, ‵}
use Rattle.erd_canon.proofs.Common.{◌$◌, step, move, fjoin, fpack, feq_i, Goal, Item, Step, Logic}
use denote.Struct.Struct.{Struct, within}

-- the layouts of the parameters of a log, and its pairs
abbrev pub args : RattleType → RattleType → Args
args A B = layouts (a_type ∷ a_type ∷ []) (A, (B, tt))

abbrev pub pair : RattleType → RattleType → RattleType
pair A B = Tuple (param 0 A ∷ param 1 B ∷ [])

-- a struct by its fields alone
abbrev plainly : List RattleType → RattleType
plainly Rs = Struct (record { name = []; args = []; types = []; fields = Rs })

abbrev pub none : Val
none = vstruct vnil

abbrev pub one : Val → Val
one u = vstruct (vcons u vnil)

module _ {M : Type 1} {𝓤 : Ura M} {𝓛 : Logic 𝓤} {K : Type 0} {Γ : List (Item 𝓤)} {G : Goal 𝓤 𝓛.H} where
  pub one_made : K → (R : RattleType) (x : R.Denot) (u : Val) → Step K 𝓛 (‵ ((plainly (R ∷ [])).own_val (x, tt) (one u ∷ [])) ∷ Γ) G
      (‵ (R.own_val x (u ∷ [])) ∷ Γ) G
  one_made t R x u = step (λ s.
      nothing t $ move t (1 ∷ 0 ∷ []) $ fjoin t $ feq_i t (List Val) (one u ∷ []) (one u ∷ []) refl $ fjoin t $
      fpack t (Valss (R ∷ [])) (within (record { name = []; args = []; types = []; fields = R ∷ [] }) (x, tt) (one u ∷ [])) (u ∷ [], tt) $ s)
