-- Values of which a visitor has nothing to tell, and what is known of each value alone.
use Rattle.erd_check.proofs.Common.{◌≡◌, ℕ, ◌&&◌, ◌++◌, Bool, false, List, [], ◌∷◌, length, Some, None, Option, IfSome, refl, ap, ap₂, list_any, option_map_or}
use Rattle.erd_check.proofs.Common.{Data, array, object, Items, no_items, item, Members, no_members, member, Fault, Step, At, Name, is_same_json, faults_of}
use Rattle.erd_check.proofs.Common.{Telling, told_at, told_of_items, told_of_members, IsKnown, AreItemsKnown, AreMembersKnown, IsSilentMember, scope_inside}
use Rattle.erd_check.proofs.Common.{want_of_name, entry_want, is_compared_set, Scope, Want}
use Rattle.erd_check.proofs.Deciding.{if_some}

-- nothing is told where this sort of thing is asked, and inside such a value nothing else is asked
pub record IsQuiet (tells : Telling) (Sort : Want → Type 0) : Type 0 where
  pub nothing : (outer : Data) (w : Want) (repeated : Bool) (d : Data) → Sort w → tells outer w repeated d ≡ []
  pub of_entries : (w v : Want) → Sort w → entry_want w ≡ Some v → Sort v
  pub of_members : (w : Want) (ms : Members) → Sort w → (name : List ℕ) (v : Want) → want_of_name (scope_inside w (object ms)) name ≡ Some v → Sort v

none_at : (tell : Want → List Fault) (o : Option Want) → ((v : Want) → o ≡ Some v → tell v ≡ []) → option_map_or tell o [] ≡ []
none_at tell None none = refl
none_at tell (Some v) none = none v refl

module _ (tells : Telling) (Sort : Want → Type 0) (quiet : IsQuiet tells Sort) where
  here : (outer : Data) (p : List Step) (w : Want) (repeated : Bool) (d : Data) → Sort w → faults_of p (tells outer w repeated d) ≡ []
  here outer p w repeated d h = ap (faults_of p) (quiet.nothing outer w repeated d h)

  mutual
    silent_at : (outer owner : Data) (p : List Step) (w : Want) (repeated : Bool) (d : Data) → Sort w → told_at tells outer owner p w repeated d ≡ []
    silent_at outer owner p w repeated (array ds) h =
        ap₂ ◌++◌ (here outer p w repeated (array ds) h)
        (none_at _ (entry_want w) (λ v e. silent_items owner (array ds) p v (is_compared_set w) [] ds (quiet.of_entries w v h e)))
    silent_at outer owner p w repeated (object ms) h =
        ap₂ ◌++◌ (here outer p w repeated (object ms) h) (silent_members owner (object ms) p (scope_inside w (object ms)) ms (quiet.of_members w ms h))
    silent_at outer owner p w repeated d h = here outer p w repeated d h

    silent_items : (outer owner : Data) (p : List Step) (w : Want) (is_set : Bool) (earlier : List Data) (ds : Items) → Sort w
        → told_of_items tells outer owner p w is_set earlier ds ≡ []
    silent_items outer owner p w is_set earlier no_items h = refl
    silent_items outer owner p w is_set earlier (item d ds) h =
        ap₂ ◌++◌ (silent_at outer owner (p ++ At (length earlier) ∷ []) w (is_set && list_any (is_same_json d) earlier) d h)
        (silent_items outer owner p w is_set (earlier ++ d ∷ []) ds h)

    silent_members : (outer owner : Data) (p : List Step) (s : Scope) (ms : Members) → ((name : List ℕ) (v : Want) → want_of_name s name ≡ Some v → Sort v)
        → told_of_members tells outer owner p s ms ≡ []
    silent_members outer owner p s no_members h = refl
    silent_members outer owner p s (member k d ms) h =
        ap₂ ◌++◌ (none_at _ (want_of_name s k) (λ v e. silent_at outer owner (p ++ Name k ∷ []) v false d (h k v e))) (silent_members outer owner p s ms h)

  pub silent_member : (owner : Data) (w : Want) (d : Data) → Sort w → IsSilentMember tells owner w d
  silent_member owner w d h outer p = silent_at outer owner p w false d h

module _ (Known : Want → Data → Type 0) (each : (w : Want) (d : Data) → Known w d) where
  mutual
    pub known_inside : (w : Want) (d : Data) → IsKnown Known w d
    known_inside w (array ds) = (each w (array ds), if_some (λ v. AreItemsKnown Known v ds) (entry_want w) (λ v. items_known v ds))
    known_inside w (object ms) = (each w (object ms), members_known (scope_inside w (object ms)) ms)
    known_inside w d = each w d

    items_known : (w : Want) (ds : Items) → AreItemsKnown Known w ds
    items_known w no_items = tt
    items_known w (item d ds) = (known_inside w d, items_known w ds)

    members_known : (s : Scope) (ms : Members) → AreMembersKnown Known s ms
    members_known s no_members = tt
    members_known s (member k d ms) = (if_some (λ v. IsKnown Known v d) (want_of_name s k) (λ v. known_inside v d), members_known s ms)
