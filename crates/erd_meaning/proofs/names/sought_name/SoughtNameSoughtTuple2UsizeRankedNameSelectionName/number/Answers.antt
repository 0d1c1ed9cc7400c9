use Rattle.erd_meaning.proofs.Common.{◌++◌, map, length, fold, flat_map, ap, ◌∙◌, fed_then, str, usize, text_of_class, after_keys_writes, NameParts}
use Rattle.erd_meaning.proofs.Common.{family_chosen, fed_rank, salted_number, shown}
use Rattle.std.specs.Hash.DefaultHasher.{finish, write}
use Rattle.erd_meaning.proofs.selections.RankedTests.{sought_fed}
use Rattle.erd_meaning.proofs.names.sought_name.SoughtNameSoughtTuple2UsizeRankedNameSelectionName.number.Goals as goal

pub returns : goal.returns
returns c k found =
    let ks = map shown c.args.self.now.objects.now.objects in
    let n = c.args.self.now.name.now in
    let class = c.hash-2.ensures ∙ ap (λ t. fold write c.hash.new.state (str t))
    (c.type_text.ensures ∙ ap (λ (m : NameParts). text_of_class m.class) c.name.view_is) in
    let many = c.hash-3.ensures ∙ ap (λ m. fold write c.hash-2.new.state (usize m))
    (c.len.ensures ∙ c.name.inside.keys.ok.0 ∙ ap (λ (m : NameParts). length m.keys) c.name.view_is) in
    let ranks = flat_map usize (map (fed_rank ks (family_chosen n.class)) n.keys) in
    let rest = ranks ++ after_keys_writes n in
    let keys = usize (length n.keys) ++ rest in
    let name = str (text_of_class n.class) ++ keys in
    let fed =
    fed_then write c.args.salt.now.start c.hash.new.state c.hash_after_keys.new.state (usize c.args.self.now.contest) name
    (c.hash.ensures ∙ ap (λ s. fold write s (usize c.args.self.now.contest)) c.hasher-hasher.ensures)
    (fed_then write c.hash.new.state c.hash-2.new.state c.hash_after_keys.new.state (str (text_of_class n.class)) keys class
    (fed_then write c.hash-2.new.state c.hash-3.new.state c.hash_after_keys.new.state (usize (length n.keys)) rest many
    (fed_then write c.hash-3.new.state c.feed_ranks.new.hasher c.hash_after_keys.new.state ranks (after_keys_writes n) c.feed_ranks.ensures
    c.hash_after_keys.ensures))) in
    c.finish.ensures ∙ ap finish fed ∙ ap (salted_number c.args.salt.now) (sought_fed ks c.args.self.now.contest n k found)
