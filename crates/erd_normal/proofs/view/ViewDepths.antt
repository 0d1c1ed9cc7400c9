-- A report that is written anew is nested no deeper, if what is put in is flat.
use Rattle.erd_normal.proofs.Common.{◌≡◌, ℕ, ◌≤◌, Bool, true, false, List, [], ◌∷◌, map, if◌then◌else◌, Some, None, Option, option_map_or, arith}
use Rattle.erd_normal.proofs.Common.{AllByRecursion, Ordering, Less, Equal, Greater, match_ordering, slice_cmp, nat_cmp, Data, null, boolean, string, number}
use Rattle.erd_normal.proofs.Common.{array, object, Items, no_items, item, Members, no_members, member, put, items_of, depth, items_depth, members_depth}
use Rattle.erd_normal.proofs.Common.{entry_want, scope_inside, Scope, want_of_name, Want, put_all}
use Rattle.erd_normal.proofs.lists.Lists.{items_of-depth}
use Rattle.erd_normal.proofs.view.Views.{each_in_order, second}
use Rattle.erd_normal.specs.code.View.{Style, is_left_out, set_in_order, view, view_entries, view_members}

put_low : (k : List ℕ) (d : Data) (ms : Members) (n : ℕ) → depth d ≤ n → members_depth ms ≤ n → members_depth (put k d ms) ≤ n
put_low k d no_members n here low = omega arith
put_low k d (member l e ms) n here low = at (slice_cmp nat_cmp k l) (put_low k d ms n here (omega arith))
  where
    at : (o : Ordering) → members_depth (put k d ms) ≤ n → members_depth
        (match_ordering o (member k d (member l e ms)) (member l d ms) (member l e (put k d ms))) ≤ n
    at Less later = omega arith
    at Equal later = omega arith
    at Greater later = omega arith

put_all_low : (ps : List (List ℕ × Data)) (ms : Members) (n : ℕ) → AllByRecursion (λ p. depth p.1 ≡ 0) ps → members_depth ms ≤ n
    → members_depth (put_all ps ms) ≤ n
put_all_low [] ms n flat low = low
put_all_low (p ∷ ps) ms n flat low = let here : depth p.1 ≡ 0 = flat.0 in put_low p.0 p.1 (put_all ps ms) n (omega arith) (put_all_low ps ms n flat.1 low)

seconds_low : (n : ℕ) (ps : List (Data × Data)) → AllByRecursion (λ p. depth p.1 ≤ n) ps → AllByRecursion (λ d. depth d ≤ n) (map second ps)
seconds_low n [] all = tt
seconds_low n (p ∷ ps) all = (all.0, seconds_low n ps all.1)

one_low : (k : List ℕ) (v : Data) (ms : Members) (n : ℕ) (b : Bool) → depth v ≤ n → members_depth ms ≤ n
    → members_depth (option_map_or (λ x. member k x ms) (if b then None else Some v) ms) ≤ n
one_low k v ms n true here low = low
one_low k v ms n false here low = omega arith

module _ (n : Style) (flat : (o : Data) (w : Want) (d : Data) → AllByRecursion (λ p. depth p.1 ≡ 0) (n.puts o w d)) where
  mutual
    pub no_deeper : (o : Data) (w : Option Want) (d : Data) → depth (view n o w d) ≤ depth d
    no_deeper o None d = omega arith
    no_deeper o (Some w) null = omega arith
    no_deeper o (Some w) (boolean b) = omega arith
    no_deeper o (Some w) (number k) = omega arith
    no_deeper o (Some w) (string s) = omega arith
    no_deeper o (Some w) (array ds) =
        let ps = view_entries n o (entry_want w) ds in
        let low : items_depth (items_of (map second (set_in_order n w ps))) ≤ items_depth ds =
        items_of-depth (map second (set_in_order n w ps)) (items_depth ds)
        (seconds_low (items_depth ds) (set_in_order n w ps)
        (each_in_order n (λ p. depth p.1 ≤ items_depth ds) w ps (entries_low o (entry_want w) ds (items_depth ds) (omega arith)))) in
        omega (arith, low)
    no_deeper o (Some w) (object ms) =
        let s = scope_inside w (object ms) in
        let low : members_depth (put_all (n.puts o w (object ms)) (view_members n (object ms) s ms)) ≤ members_depth ms =
        put_all_low (n.puts o w (object ms)) (view_members n (object ms) s ms) (members_depth ms) (flat o w (object ms))
        (members_low (object ms) s ms (members_depth ms) (omega arith)) in
        omega (arith, low)

    entries_low : (o : Data) (w : Option Want) (ds : Items) (k : ℕ) → items_depth ds ≤ k → AllByRecursion (λ p. depth p.1 ≤ k) (view_entries n o w ds)
    entries_low o w no_items k low = tt
    entries_low o w (item d ds) k low = let here : depth (view n o w d) ≤ depth d = no_deeper o w d in
        (omega (arith, here, low), entries_low o w ds k (omega (arith, low)))

    members_low : (o : Data) (s : Scope) (ms : Members) (k : ℕ) → members_depth ms ≤ k → members_depth (view_members n o s ms) ≤ k
    members_low o s no_members k low = omega arith
    members_low o s (member l d ms) k low =
        let here : depth (view n o (want_of_name s l) d) ≤ depth d = no_deeper o (want_of_name s l) d in
        one_low l (view n o (want_of_name s l) d) (view_members n o s ms) k (is_left_out s l d) (omega (arith, here, low))
        (members_low o s ms k (omega (arith, low)))
