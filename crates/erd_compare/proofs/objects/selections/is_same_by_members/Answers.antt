use Rattle.erd_compare.proofs.Common.{◌≡◌, ℕ, Bool, true, false, not, List, [], is_some, Some, None, Option, option_map, refl, ap, subst, Bor, rules, view}
use Rattle.erd_compare.proofs.Common.{PlainValue, a_plain, plain_member, absent_plain, Decides, plain_found, MemberMap, IsMapOf}
use Rattle.erd_compare.proofs.differing.Walks.{goes_from}
use Rattle.erd_compare.proofs.same_values.SameValues.{decides_as}
use Rattle.erd_compare.proofs.same_selections.SelectionWalks.{plain-Decides, plain_maps-Decide, seen}
use Rattle.erd_compare.proofs.objects.selections.is_same_by_members.Goals as goal

none_told : (found : Option (Bor (List ℕ))) (none : Bool) → is_some found ≡ not none → not (is_some (option_map (λ (s : Bor (List ℕ)). s.now) found)) ≡ none
none_told None true e = refl
none_told (Some s) false e = refl
none_told found none e = cc

pub returns : goal.returns
returns c =
    let π = c.args.comparer.now.left.prefer in
    let ρ = c.args.comparer.now.right.prefer in
    let t = view c.args.comparer.now.left.tree in
    let u = view c.args.comparer.now.right.tree in
    let d = view c.args.one.now in
    let e = view c.args.other.now in
    let m : List ℕ → Option PlainValue = plain_member π t d c.args.class in
    let n : List ℕ → Option PlainValue = plain_member ρ u e c.args.class in
    let mine : MemberMap = λ k. option_map a_plain (m k) in
    let its : MemberMap = λ k. option_map a_plain (n k) in
    let of_one : IsMapOf d mine = λ k none. ap (option_map a_plain) (absent_plain π t d c.args.class k none) in
    let of_other : IsMapOf e its = λ k none. ap (option_map a_plain) (absent_plain ρ u e c.args.class k none) in
    let found = option_map (λ s. s.now) c.in_ok-found.found in
    let told = goes_from _ mine its d e of_one of_other
    (λ pair answer is h.
    let name = pair.name.now in
    let same : Decides answer (plain_found π t c.args.class name (seen pair.one)) (plain_found ρ u c.args.class name (seen pair.other)) = search rules in
    plain-Decides answer (m name) (n name)
    (decides_as refl (ap (plain_found π t c.args.class name) is.one) (ap (plain_found ρ u c.args.class name) is.other) same))
    c.in-Some.left c.next_differing.new.self found found c.in-Some.ensures.stand.one c.in-Some.ensures.stand.other c.in_ok-found.ensures.next refl []
    (c.in-Some.ensures.left mine its of_one of_other)
    in
    subst (λ answer. Decides answer m n) (none_told c.in_ok-found.found c.is_none.result c.is_none.ensures)
    (plain_maps-Decide m n c.next_differing.new.self found told)
