-- The content inside a header of a ballot is that of its member `OrderedContent`.
use Rattle.erd_meaning.proofs.Common.{◌≡◌, Some, None, codes, Option, is_eq, Ordering, Equal, sym, refl, ap, ◌∙◌, Data, Members, no_members, member, get_member}
use Rattle.erd_meaning.proofs.Common.{text_cmp, Preference, Content, no_content, content_of}
use Rattle.erd_meaning.specs.Records.{content_inside}
use Rattle.std.proofs.lemmas.Map.Text.{is_eq-slice_cmp}

-- the content that a member gives, if it is there
abbrev pub content_at : Preference → Data → Option Data → Content
content_at π t None = no_content
content_at π t (Some v) = content_of π t v

pub content_inside-get : (π : Preference) (t : Data) (ms : Members) → content_inside π t ms ≡ content_at π t (get_member (codes "OrderedContent") ms)
content_inside-get π t no_members = refl
content_inside-get π t (member k d ms) = at (text_cmp (codes "OrderedContent") k) refl (content_inside-get π t ms)
  where
    at : (o : Ordering) → text_cmp (codes "OrderedContent") k ≡ o → content_inside π t ms ≡ content_at π t (get_member (codes "OrderedContent") ms)
        → content_inside π t (member k d ms) ≡ content_at π t (get_member (codes "OrderedContent") (member k d ms))
    at Equal is h = rw (is, sym (is_eq-slice_cmp (codes "OrderedContent") k) ∙ ap is_eq is)
    at e is h = rw (is, sym (is_eq-slice_cmp (codes "OrderedContent") k) ∙ ap is_eq is) h
