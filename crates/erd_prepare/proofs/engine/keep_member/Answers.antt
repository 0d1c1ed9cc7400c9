use Rattle.std.proofs.Common.{ap, ◌∙◌}
use Rattle.serde_json.specs.Data.{put}
use Rattle.serde_json.specs.View.{view, members_view}
use Rattle.serde_json.proofs.Views.{members_view-insert_entry}
use Rattle.erd_prepare.proofs.engine.keep_member.Goals as goal

pub returns : goal.returns
returns c =
    ap members_view c.in_ok-insert.ensures.entries ∙ members_view-insert_entry c.args.kept.now.entries c.in_ok-own.own c.args.value
    ∙ ap (λ n. put n (view c.args.value) (members_view c.args.kept.now.entries)) c.in_ok-own.ensures.cases
