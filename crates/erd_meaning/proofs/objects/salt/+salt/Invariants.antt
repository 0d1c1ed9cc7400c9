use Rattle.erd_meaning.proofs.Common.{◌≡◌, drop}
use Rattle.serde_json.specs.View.{items_view, members_view}
use Rattle.erd_index.specs.Salts.{fed}
use Rattle.erd_meaning.specs.SaltWrites.{items_writes, members_writes}
use Rattle.erd_meaning.proofs.objects.salt.+salt.Given as goal

abbrev pub invariant-feed_items-loop-item : goal.invariant-feed_items-loop-item
invariant-feed_items-loop-item l = fed l.hasher (items_writes (items_view (drop l.item-index l.item-items))) ≡ fed l.initial.hasher
    (items_writes (items_view l.item-items))

abbrev pub invariant-feed_members-loop-name : goal.invariant-feed_members-loop-name
invariant-feed_members-loop-name l = fed l.hasher (members_writes (members_view l.name-iterator)) ≡ fed l.initial.hasher
    (members_writes (members_view l.members.entries))
