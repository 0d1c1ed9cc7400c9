-- What stands inside a header.
use Rattle.erd_text.proofs.Common.{◌≡◌, ℕ, ◌+◌, true, false, List, [], ◌∷◌, Some, None, Option, codes, is_eq, Ordering, Equal, sym, refl, ap, ◌∙◌, Data, null}
use Rattle.erd_text.proofs.Common.{boolean, string, array, object, Members, no_members, member, get_member, get}
use Rattle.std.proofs.lemmas.Map.Text.{is_eq-slice_cmp}
use Rattle.serde_json.specs.Data.{number}
use Rattle.erd_tables.specs.Texts.{text_cmp}
use Rattle.erd_meaning.specs.Records.{class_of_node, is_header_class}
use Rattle.erd_shown.specs.ContentData.{members_in}
use Rattle.erd_shown.specs.Lines.{content_lines, inside_lines, node_lines}

pub header_lines : (n : ℕ) (d : Data) → is_header_class (class_of_node d) ≡ true → node_lines n d ≡ (n, d) ∷ inside_lines (n + 1) (members_in d)
header_lines n (object ms) e = rw e refl
header_lines n d e = cc

pub contest_line : (n : ℕ) (d : Data) → is_header_class (class_of_node d) ≡ false → node_lines n d ≡ (n, d) ∷ []
contest_line n (object ms) e = rw e refl
contest_line n d e = refl

abbrev pub lines_at : ℕ → Option Data → List (ℕ × Data)
lines_at n None = []
lines_at n (Some v) = content_lines n v

inside-get : (n : ℕ) (ms : Members) → inside_lines n ms ≡ lines_at n (get_member (codes "OrderedContent") ms)
inside-get n no_members = refl
inside-get n (member k d ms) = at (text_cmp (codes "OrderedContent") k) refl (inside-get n ms)
  where
    at : (o : Ordering) → text_cmp (codes "OrderedContent") k ≡ o → inside_lines n ms ≡ lines_at n (get_member (codes "OrderedContent") ms)
        → inside_lines n (member k d ms) ≡ lines_at n (get_member (codes "OrderedContent") (member k d ms))
    at Equal is h = rw (is, sym (is_eq-slice_cmp (codes "OrderedContent") k) ∙ ap is_eq is)
    at e is h = rw (is, sym (is_eq-slice_cmp (codes "OrderedContent") k) ∙ ap is_eq is) h

pub lines_inside : (n : ℕ) (d : Data) (o : Option Data) → o ≡ get (codes "OrderedContent") d → lines_at n o ≡ inside_lines n (members_in d)
lines_inside n (object ms) o e = ap (lines_at n) e ∙ sym (inside-get n ms)
lines_inside n null o e = ap (lines_at n) e
lines_inside n (boolean b) o e = ap (lines_at n) e
lines_inside n (number m) o e = ap (lines_at n) e
lines_inside n (string s) o e = ap (lines_at n) e
lines_inside n (array ds) o e = ap (lines_at n) e
