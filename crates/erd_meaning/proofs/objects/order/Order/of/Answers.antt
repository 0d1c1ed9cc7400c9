use Rattle.erd_meaning.proofs.Common.{◌≡◌, ℕ, ◌<◌, List, map, length, replicate, option_copied, sym, ap, ◌∙◌, subst, map-map, options_total, AllByRecursion}
use Rattle.erd_meaning.proofs.Common.{option_cmp, key_cmp, places_put, rising_list, positioned, seen_keys, keys_seen, rising_positions, key_cmp_total}
use Rattle.erd_meaning.proofs.selections.PositionedKeys.{KeyEntry, KeyPosition, rising_seen}
use Rattle.erd_meaning.proofs.rising.OrdersMade.{all_low, ranks_are}
use Rattle.erd_meaning.proofs.objects.order.Order.of.Goals as goal

-- the positions that stand with sorted keys are those in the rising order of the keys
positions : (keys sorted : List KeyEntry) (is : List ℕ) → is ≡ map (λ p. p.1) sorted → seen_keys sorted
    ≡ rising_list (λ a b. option_cmp key_cmp a.0 b.0) (seen_keys keys)
    → rising_list (λ a b. option_cmp key_cmp a.0 b.0) (seen_keys keys) ≡ rising_list (λ a b. option_cmp key_cmp a.0 b.0) (positioned 0 (keys_seen keys))
    → is ≡ rising_positions (keys_seen keys)
positions keys sorted is are seen placed =
    are ∙ (sym (map-map (λ (p : KeyPosition). p.1) (λ (p : KeyEntry). (option_copied p.0, p.1)) sorted) ∙ ap (map (λ (p : KeyPosition). p.1)) (seen ∙ placed))

pub places_in-requires : goal.places_in-requires
places_in-requires c =
    let is = positions c.args.keys.items c.in_ok-sorted.sorted.items c.in_ok-rising.rising.items
    (c.in_ok-rising.ensures ∙ ap (map (λ (p : KeyEntry). p.1)) c.deref.ensures.value)
    (ap (λ (es : List KeyEntry). seen_keys es) c.in_ok-sorted.ensures ∙ rising_seen c.args.keys.items)
    (ap (rising_list (λ a b. option_cmp key_cmp a.0 b.0)) c.requires.placed) in
    record {
      low = subst (λ (ps : List ℕ). AllByRecursion (λ i. i < length ps) ps) (sym (c.deref-2.ensures.value ∙ is)) (all_low (option_cmp key_cmp)
          (options_total key_cmp_total) (keys_seen c.args.keys.items));
    }

pub returns : goal.returns
returns c =
    let is = positions c.args.keys.items c.in_ok-sorted.sorted.items c.in_ok-rising.rising.items
    (c.in_ok-rising.ensures ∙ ap (map (λ (p : KeyEntry). p.1)) c.deref.ensures.value)
    (ap (λ (es : List KeyEntry). seen_keys es) c.in_ok-sorted.ensures ∙ rising_seen c.args.keys.items)
    (ap (rising_list (λ a b. option_cmp key_cmp a.0 b.0)) c.requires.placed) in record {
      rises = is;
      ranked = c.in_ok-ranks.ensures ∙ (ap (λ (ps : List ℕ). places_put 0 ps (replicate (length ps) 0)) (c.deref-2.ensures.value ∙ is)
          ∙ ranks_are (option_cmp key_cmp) (options_total key_cmp_total) (keys_seen c.args.keys.items) c.requires.distinct);
    }
