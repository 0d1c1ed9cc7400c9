-- Members built from the first to the last: each goes behind those before it.
use Rattle.std.proofs.Common.{◌≡◌, ℕ, Bool, true, false, if◌then◌else◌, List, [], ◌∷◌, ◌++◌, refl, sym, ap, ◌∙◌, subst, String, Global, string_bytes}
use Rattle.std.proofs.Common.{string_cmp, nat_cmp, Less, Greater}
use Rattle.std.proofs.lemmas.Cmp.{nat_list_cmp_total}
use Rattle.std.specs.Cmp.Lexicographic.{slice_cmp}
use Rattle.std.specs.List.{AllByRecursion}
use Rattle.std.specs.List.Sorted.{IsStrictlySortedBy}
use Rattle.std.specs.Map.{keys_of}
use Rattle.std.specs.Ordering.{ordering_reverse}
use Rattle.serde_json.specs.Data.{Data, Items, no_items, item, Members, no_members, member, put}
use Rattle.serde_json.specs.View.{items_of, members_view}
use Rattle.serde_json.proofs.Views.{Entry}
use Rattle.erd_tables.specs.declared.place.Step.{Step}
use Rattle.erd_tables.specs.declared.place.Step.TheVariants.{Name}
use Rattle.erd_check.specs.Values.{list_of_items}
use Rattle.erd_check.specs.Wants.{want_of_name}
use Rattle.erd_check.specs.declared.want.Scope.{Scope}
use Rattle.erd_prepare.specs.Rules.{Rule, prepared, prepared_members}

abbrev pub join : Members → Members → Members
join no_members ns = ns
join (member k d ms) ns = member k d (join ms ns)

abbrev pub Above : List ℕ → Members → Type 0
Above k no_members = Unit {0}
Above k (member l d ms) = (slice_cmp nat_cmp k l ≡ Less) × Above k ms

abbrev pub Rising : Members → Type 0
Rising no_members = Unit {0}
Rising (member k d ms) = Above k ms × Rising ms

all_above : (k : String Global) (es : List Entry) → AllByRecursion (λ y. string_cmp k y ≡ Less) (keys_of es) → Above (string_bytes k) (members_view es)
all_above k [] h = tt
all_above k (e ∷ es) h = (h.0, all_above k es h.1)

pub rising_entries : (es : List Entry) → IsStrictlySortedBy string_cmp (keys_of es) → Rising (members_view es)
unfolding IsStrictlySortedBy
rising_entries [] h = tt
rising_entries (e ∷ es) h = (all_above e.0 es h.0, rising_entries es h.1)

above_without : (j : List ℕ) (ms : Members) (k : List ℕ) (d : Data) (ns : Members) → Above j (join ms (member k d ns)) → Above j (join ms ns)
above_without j no_members k d ns h = h.1
above_without j (member l x ms) k d ns h = (h.0, above_without j ms k d ns h.1)

rising_without : (ms : Members) (k : List ℕ) (d : Data) (ns : Members) → Rising (join ms (member k d ns)) → Rising (join ms ns)
rising_without no_members k d ns h = h.1
rising_without (member l x ms) k d ns h = (above_without l ms k d ns h.0, rising_without ms k d ns h.1)

above_with : (j : List ℕ) (ms : Members) (k : List ℕ) (d e : Data) (ns : Members) → Above j (join ms (member k d ns)) → Above j (join ms (member k e ns))
above_with j no_members k d e ns h = h
above_with j (member l x ms) k d e ns h = (h.0, above_with j ms k d e ns h.1)

rising_with : (ms : Members) (k : List ℕ) (d e : Data) (ns : Members) → Rising (join ms (member k d ns)) → Rising (join ms (member k e ns))
rising_with no_members k d e ns h = h
rising_with (member l x ms) k d e ns h = (above_with l ms k d e ns h.0, rising_with ms k d e ns h.1)

pub join_one : (ms : Members) (k : List ℕ) (e : Data) (ns : Members) → join (join ms (member k e no_members)) ns ≡ join ms (member k e ns)
join_one no_members k e ns = refl
join_one (member l x ms) k e ns = ap (member l x) (join_one ms k e ns)

pub join_none : (ms : Members) → join ms no_members ≡ ms
join_none no_members = refl
join_none (member l x ms) = ap (member l x) (join_none ms)

below_middle : (l : List ℕ) (ms : Members) (k : List ℕ) (d : Data) (ns : Members) → Above l (join ms (member k d ns)) → slice_cmp nat_cmp l k ≡ Less
below_middle l no_members k d ns h = h.0
below_middle l (member j x ms) k d ns h = below_middle l ms k d ns h.1

pub put_end : (ms : Members) (k : List ℕ) (d e : Data) (ns : Members) → Rising (join ms (member k d ns)) → put k e ms ≡ join ms (member k e no_members)
put_end no_members k d e ns h = refl
put_end (member l x ms) k d e ns h =
    let above : slice_cmp nat_cmp k l ≡ Greater = nat_list_cmp_total.antisymm k l ∙ ap ordering_reverse (below_middle l ms k d ns h.0) in
    rw above (ap (member l x) (put_end ms k d e ns h.1))

-- what holds of the members built so far, of those left and of all
pub record Built (r : Rule) (p : List Step) (s : Scope) (done left all : Members) : Type 0 where
  pub rising : Rising (join done left)
  pub is : join done (prepared_members r p s left) ≡ prepared_members r p s all

step : (r : Rule) (p : List Step) (s : Scope) (k : List ℕ) (d : Data) (done left all : Members) (b : Bool) → Rising (join done (member k d left))
    → join done (if b then prepared_members r p s left else member k (prepared r (p ++ Name k ∷ []) (want_of_name s k) d) (prepared_members r p s left))
    ≡ prepared_members r p s all
    → Built r p s (if b then done else put k (prepared r (p ++ Name k ∷ []) (want_of_name s k) d) done) left all
step r p s k d done left all true rising is = record { rising = rising_without done k d left rising; is = is }
step r p s k d done left all false rising is =
    let after = prepared r (p ++ Name k ∷ []) (want_of_name s k) d in
    let end : put k after done ≡ join done (member k after no_members) = put_end done k d after left rising in
    record {
      rising = subst (λ ms. Rising (join ms left)) (sym end) (subst Rising (sym (join_one done k after left)) (rising_with done k d after left rising));
      is = ap (λ ms. join ms (prepared_members r p s left)) end ∙ join_one done k after (prepared_members r p s left) ∙ is;
    }

-- one member more
pub built_more : (r : Rule) (p : List Step) (s : Scope) (k : List ℕ) (d : Data) (done now left all : Members) → Built r p s done (member k d left) all
    → now ≡ (if r.drops (p ++ Name k ∷ []) s k d then done else put k (prepared r (p ++ Name k ∷ []) (want_of_name s k) d) done) → Built r p s now left all
built_more r p s k d done now left all b e = subst (λ ms. Built r p s ms left all) (sym e)
    (step r p s k d done left all (r.drops (p ++ Name k ∷ []) s k d) b.rising b.is)

pub items_again : (ds : Items) → items_of (list_of_items ds) ≡ ds
items_again no_items = refl
items_again (item d ds) = ap (item d) (items_again ds)
