use Rattle.erd_text.proofs.Common.{◌++◌, ap, ◌∙◌, view, with_rising_text, value_tokens}
use Rattle.json.specs.Print.{print}
use Rattle.serde_json.proofs.Texts.{print-outline}
use Rattle.erd_text.proofs.label.label_text.Goals as goal

pub returns : goal.returns
returns c =
    let label = with_rising_text (view c.args.label.now) in
    c.of.ensures ∙ ap (λ v. v.items) (rw c.unwrap-text.ensures at c.from_utf8.ensures.ok) ∙ c.into_text.ensures.text
    ∙ ap print (c.in_ok-write_label.ensures c.requires.whole ∙ ap (λ ts. ts ++ value_tokens label) c.new-out.ensures) ∙ print-outline label
