use Rattle.erd_meaning.proofs.Common.{ℕ, cond, ◌&&◌, List, is_some, ◌==◌, Some, None, bytes_eq, sym, ap, ◌∙◌, Bor, bytes_decides, lookup, option_or, get_by}
use Rattle.erd_meaning.proofs.Common.{is_salted_id, text_number, Salted}
use Rattle.indexmap.proofs.CallerLemmas.{insert_entry-new}
use Rattle.erd_meaning.proofs.finding.Pushed.{lookup_push, none_found}
use Rattle.erd_index.proofs.NumberedKeys.{number_implied}
use Rattle.erd_meaning.proofs.objects.table.note_id.Goals as goal

pub returns-then-contains_key-clause-known : goal.returns-then-contains_key-clause-known
returns-then-contains_key-clause-known c =
    sym c.if-contains_key.true ∙ c.contains_key.ensures
    ∙ ap (λ n. is_some (get_by (λ (k : Salted (Bor (List ℕ))). (n == k.number) && bytes_eq c.args.id.now k.key.now) c.args.ids.now)) c.text_number-hash.ensures

pub returns-clause-known : goal.returns-clause-known
returns-clause-known c =
    sym c.if-contains_key.false ∙ c.contains_key.ensures
    ∙ ap (λ n. is_some (get_by (λ (k : Salted (Bor (List ℕ))). (n == k.number) && bytes_eq c.args.id.now k.key.now) c.args.ids.now)) c.text_number-hash.ensures

pub returns-clause-noted : goal.returns-clause-noted
returns-clause-noted c i =
    let test = is_salted_id c.args.salt.now i in
    let k : Salted (Bor (List ℕ)) = record { number = c.text_number-hash.result; key = c.args.id } in
    ap (lookup test) (c.in_ok-insert.ensures.entries ∙ insert_entry-new _ c.args.ids.now k c.args.number
    (none_found _ (sym c.if-contains_key.false ∙ c.contains_key.ensures))) ∙ lookup_push test c.args.ids.now.entries k c.args.number
    ∙ ap (λ b. option_or (lookup test c.args.ids.now.entries) (cond b (Some c.args.number) None))
    (number_implied (text_number c.args.salt.now i) c.text_number-hash.result (bytes_eq i c.args.id.now)
    (λ e. ap (text_number c.args.salt.now) ((bytes_decides i c.args.id.now).0 e) ∙ sym c.text_number-hash.ensures))
