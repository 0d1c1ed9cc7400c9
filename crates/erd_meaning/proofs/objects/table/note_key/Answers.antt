use Rattle.erd_meaning.proofs.Common.{◌≡◌, Bool, true, cond, is_some, Some, None, sym, ap, ◌∙◌, ap₂, lookup, option_or, get_by, Family, key_writes, same_owned}
use Rattle.erd_meaning.proofs.Common.{is_salted_owned, salted_number, Key, Salted}
use Rattle.indexmap.proofs.CallerLemmas.{insert_entry-new}
use Rattle.erd_meaning.proofs.finding.Pushed.{owned_asked, owned_exact, lookup_push, none_found, or_known}
use Rattle.erd_index.proofs.NumberedKeys.{number_implied}
use Rattle.erd_meaning.proofs.objects.table.note_key.Goals as goal

pub returns-then-contains_key-clause-noted : goal.returns-then-contains_key-clause-noted
returns-then-contains_key-clause-noted c f k =
    let there : is_some (get_by (is_salted_owned c.args.salt.now (c.args.family, c.args.key)) c.args.keys.now) ≡ true =
    sym (sym c.if-contains_key.true ∙ c.contains_key.ensures ∙ ap (λ (test : Salted (Family × Key) → Bool). is_some (get_by test c.args.keys.now))
    (owned_asked c.args.salt.now c.number-hash.result c.args.family c.args.key c.number-hash.ensures)) in
    or_known (get_by (is_salted_owned c.args.salt.now (f, k)) c.args.keys.now) c.args.number (same_owned (f, k) (c.args.family, c.args.key))
    (λ e.
    let one = owned_exact f c.args.family k c.args.key e in
    ap₂ (λ (g : Family) (l : Key). is_some (get_by (is_salted_owned c.args.salt.now (g, l)) c.args.keys.now)) one.0 one.1 ∙ there)

pub returns-then-contains_key-clause-known : goal.returns-then-contains_key-clause-known
returns-then-contains_key-clause-known c =
    sym c.if-contains_key.true ∙ c.contains_key.ensures ∙ ap (λ (test : Salted (Family × Key) → Bool). is_some (get_by test c.args.keys.now))
    (owned_asked c.args.salt.now c.number-hash.result c.args.family c.args.key c.number-hash.ensures)

pub returns-clause-known : goal.returns-clause-known
returns-clause-known c =
    sym c.if-contains_key.false ∙ c.contains_key.ensures ∙ ap (λ (test : Salted (Family × Key) → Bool). is_some (get_by test c.args.keys.now))
    (owned_asked c.args.salt.now c.number-hash.result c.args.family c.args.key c.number-hash.ensures)

pub returns-clause-noted : goal.returns-clause-noted
returns-clause-noted c f k =
    let test = is_salted_owned c.args.salt.now (f, k) in
    let own : Salted (Family × Key) = record { number = c.number-hash.result; key = (c.args.family, c.args.key) } in
    ap (lookup test) (c.in-Ok.ensures.entries ∙ insert_entry-new _ c.args.keys.now own c.args.number
    (none_found _ (sym c.if-contains_key.false ∙ c.contains_key.ensures))) ∙ lookup_push test c.args.keys.now.entries own c.args.number
    ∙ ap (λ b. option_or (lookup test c.args.keys.now.entries) (cond b (Some c.args.number) None))
    (number_implied (salted_number c.args.salt.now (key_writes k)) c.number-hash.result (same_owned (f, k) (c.args.family, c.args.key))
    (λ e. ap (λ l. salted_number c.args.salt.now (key_writes l)) (owned_exact f c.args.family k c.args.key e).1 ∙ sym c.number-hash.ensures))
