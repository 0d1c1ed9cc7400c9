use Rattle.std.proofs.lemmas.Result.{IfOk-weaker}
use Rattle.erd_c.proofs.prepared.prepared.Goals as goal

pub returns-in-Ok-clause-prepared : goal.returns-in-Ok-clause-prepared
returns-in-Ok-clause-prepared c =
    let prepared = rw (c.deref.ensures.value, c.others_asked.ensures) at c.in-Ok.ensures.prepared in
    IfOk-weaker c.text_of.result _ _
    (λ text same. record {
      chosen = c.in_ok-chosen.chosen.items;
      by_words = c.in_ok-chosen.ensures.chosen;
      file = c.in-Ok.file;
      prepared = prepared;
      same = same;
    })
    c.text_of.ensures.made
