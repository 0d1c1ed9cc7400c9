use Rattle.erd_meaning.proofs.Common.{◌≡◌, ℕ, ◌+◌, false, cond, List, [], ◌∷◌, ◌++◌, map, length, is_some, Some, None, Option, sym, refl, ap, ◌∙◌, ap₂, arith}
use Rattle.erd_meaning.proofs.Common.{Bor, map-append, length-map, list_any, lookup, option_map_or, option_or, Family, family, same_owned, is_salted_owned}
use Rattle.erd_meaning.proofs.Common.{with_place, places_from, number_of_id, number_of_key, contests_noted, contests_before, those_of, keeps_id, has_same_key}
use Rattle.erd_meaning.proofs.Common.{has_same_id, shown, Key, HeldObjects, Object}
use Rattle.erd_meaning.proofs.finding.Known.{has_id_known, has_key_known, noted_any}
use Rattle.erd_meaning.proofs.finding.Pushed.{before_push, number_of_id_push, number_of_key_push, places_length, places_push}
use Rattle.erd_meaning.proofs.objects.table.ObjectTable.push.Goals as goal

pub invariant_of-self-2 : goal.invariant_of-self-2
invariant_of-self-2 c =
    let os = c.self.inside.objects.items in
    let ks = map shown os in
    let k = shown c.args.object in
    let g = c.args.object.family in
    let all : map shown c.push_reserved-2.new.self.items ≡ ks ++ k ∷ [] =
    ap (map shown) (c.push_reserved-2.ensures.items ∙ ap (λ (js : List Object). js ++ c.args.object ∷ []) c.in_ok-reserve.ensures.items)
    ∙ map-append shown os (c.args.object ∷ []) in
    let count : length c.of-number.result.now ≡ length (those_of g ks) = ap length (c.of-number.ensures ∙ c.self.invariant.places_are g)
    ∙ places_length g 0 ks in
    let contests : length c.of-contests.result.now ≡ 0 + length (those_of family.Contest ks) =
    let met = ap length (c.of-contests.ensures ∙ c.in_ok-reserve-3.ensures.kept family.Contest ∙ c.self.invariant.places_are family.Contest)
    ∙ places_length family.Contest 0 ks in omega arith in
    let place : c.len-place.result ≡ 0 + length ks = let same : length ks ≡ length os = length-map os shown in omega arith in
    record {
      places_are = λ f.
          c.push_reserved.ensures f ∙ ap₂ (λ n ps. with_place g n f ps) place (c.in_ok-reserve-3.ensures.kept f ∙ c.self.invariant.places_are f)
          ∙ sym (places_push f 0 ks k) ∙ ap (places_from f 0) (sym all);
      contests_are =
          c.note_contests.ensures ∙ ap₂ (λ ns n. ns ++ contests_noted g n) (c.in_ok-reserve-4.ensures.items ∙ c.self.invariant.contests_are) contests
          ∙ sym (before_push 0 ks k) ∙ ap (contests_before 0) (sym all);
      ids_are = λ id.
          c.in_ok-has_id.ensures.noted id
          ∙ ap₂ option_or (c.self.invariant.ids_are id) (ap (λ n. cond {A = Option (Family × ℕ)} (keeps_id id k) (Some (g, n)) None) count)
          ∙ sym (number_of_id_push ks k id) ∙ ap (λ ls. number_of_id ls id) (sym all);
      keys_are = λ f key.
          c.note_any_key-has_key.ensures.noted f key
          ∙ ap₂ option_or (ap (lookup (is_salted_owned c.self.inside.salt (f, key))) c.in_ok-reserve-2.ensures.entries ∙ c.self.invariant.keys_are f key)
          (ap₂ (λ (o : Option Key) n. option_map_or (λ l. cond (same_owned (f, key) (g, l)) (Some n) None) o None) c.requires count
          ∙ noted_any ks k f key k.key refl) ∙ sym (number_of_key_push ks k f key) ∙ ap (λ ls. number_of_key ls f key) (sym all);
    }

pub returns-clause-has_key : goal.returns-clause-has_key
returns-clause-has_key c =
    let ks = map shown c.self.inside.objects.items in
    let k = shown c.args.object in
    c.note_any_key-has_key.ensures.known
    ∙ ap₂ (λ (found : Key → Option ℕ) (o : Option Key). option_map_or (λ l. is_some (found l)) o false)
    (λ i l. (ap (lookup (is_salted_owned c.self.inside.salt (k.family, l))) c.in_ok-reserve-2.ensures.entries ∙ c.self.invariant.keys_are k.family l) i)
    c.requires
    ∙ sym (has_key_known ks k k.key refl) ∙ ap (λ (os : HeldObjects). list_any (has_same_key k) (map shown os.objects)) c.self.view_is

pub returns-clause-has_id : goal.returns-clause-has_id
returns-clause-has_id c =
    let ks = map shown c.self.inside.objects.items in
    let k = shown c.args.object in
    c.in_ok-has_id.ensures.known
    ∙ ap (λ (found : List ℕ → Option (Family × ℕ)). option_map_or (λ (s : Bor (List ℕ)). is_some (found s.now)) c.args.object.id false)
    (λ i id. c.self.invariant.ids_are id i)
    ∙ sym (has_id_known ks k c.args.object.id refl) ∙ ap (λ (os : HeldObjects). list_any (has_same_id k) (map shown os.objects)) c.self.view_is
