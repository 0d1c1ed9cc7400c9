use Rattle.erd_meaning.proofs.Common.{◌≡◌, ℕ, true, false, List, map, is_eq, sym, ap, ◌∙◌, ap₂, NameParts, numbered_parts, numbered_name_cmp, family_chosen}
use Rattle.erd_meaning.proofs.Common.{are_ranks_of, shown}
use Rattle.erd_meaning.proofs.selections.RankedTests.{sought_hits, sought_misses}
use Rattle.erd_meaning.proofs.names.sought_name.SoughtName.is_name.Goals as goal

pub returns-then-not-has_ranks : goal.returns-then-not-has_ranks
returns-then-not-has_ranks c =
    let ks = map shown c.args.self.now.objects.now.objects in
    let n = c.args.self.now.name.now in
    let s = c.args.name.now in
    let no : are_ranks_of ks (family_chosen n.class) n.keys s.ranks ≡ false = ap (are_ranks_of ks (family_chosen n.class) n.keys) (sym c.ranks.ensures)
    ∙ sym c.has_ranks.ensures ∙ c.if-not-has_ranks.true in
    sought_misses ks n s no

pub returns : goal.returns
returns c =
    let ks = map shown c.args.self.now.objects.now.objects in
    let n = c.args.self.now.name.now in
    let s = c.args.name.now in
    let are : are_ranks_of ks (family_chosen n.class) n.keys s.ranks ≡ true = ap (are_ranks_of ks (family_chosen n.class) n.keys) (sym c.ranks.ensures)
    ∙ sym c.has_ranks.ensures ∙ c.if-not-has_ranks.false in
    c.is_eq.ensures ∙ ap is_eq c.compare_numbered.ensures
    ∙ ap₂ (λ (m : NameParts) (ls : List ℕ). is_eq (numbered_name_cmp (numbered_parts n c.ranks-2.result.now) (numbered_parts m ls)))
    c.name.ensures c.ranks-3.ensures
    ∙ ap (λ (ks : List ℕ). is_eq (numbered_name_cmp (numbered_parts n ks) (numbered_parts s.name s.ranks))) c.ranks-2.ensures ∙ sought_hits ks n s are
