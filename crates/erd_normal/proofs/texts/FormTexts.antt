-- The text that is written for a report is the text of its canonical form.
use Rattle.erd_normal.proofs.Common.{◌≡◌, ℕ, suc, ◌≤◌, List, [], Some, Option, option_map, option_and_then, Less, sym, refl, ap, ◌∙◌, subst, ap₂, append-nil}
use Rattle.erd_normal.proofs.Common.{arith, nat_list_cmp_total, AllByRecursion, ordering_reverse, Data, array, object, Items, no_items, item, Members}
use Rattle.erd_normal.proofs.Common.{no_members, member, put, text_cmp, IsTree, IsAccepted, Preference, IsBounded, number, depth, members_depth, of_json}
use Rattle.erd_normal.proofs.Common.{of_items, of_members, read, max_depth, AreTrees, AreMembers, IsShallow, names, max, IsUtf8, ⊤, Token, items_depth, outline}
use Rattle.erd_normal.proofs.Common.{items_outline, members_outline, before_all, HasFittingNumbers, ItemsHaveFittingNumbers, MembersHaveFittingNumbers}
use Rattle.erd_normal.proofs.Common.{value_tokens}
use Rattle.serde_json.proofs.Texts.{print-outline}
use Rattle.json.specs.Lex.{tokens}
use Rattle.json.proofs.Printed.Trees.{value-json_tokens}
use Rattle.json.specs.Print.{print}
use Rattle.erd_normal.proofs.texts.CompactTexts.{number_read}
use Rattle.erd_normal.specs.CanonicalText.{IsCanonicalText}
use Rattle.erd_normal.proofs.view.ViewForms.{form_written, no_deeper_form, only_form_written, view_fits, whole_written}
use Rattle.erd_normal.proofs.view.CanonicalStyles.{viewed_tree}
use Rattle.erd_normal.specs.code.View.{style_of}
use Rattle.erd_normal.specs.code.View.{whole as view_of}
use Rattle.json.specs.Json as json
use Rattle.json.specs.Tree as tree

-- ---- members that are put one after another, in the order of their names, stand in that order

-- members, and then others
abbrev joined : Members → Members → Members
joined no_members ns = ns
joined (member k d ms) ns = member k d (joined ms ns)

-- the names of the members are all below a name
abbrev IsBelow : Members → List ℕ → Type 0
IsBelow no_members l = ⊤
IsBelow (member k d ms) l = (text_cmp k l ≡ Less) × IsBelow ms l

-- the names of the members are all below those of others
abbrev AreBelow : Members → Members → Type 0
AreBelow ms no_members = ⊤
AreBelow ms (member k d ns) = IsBelow ms k × AreBelow ms ns

joined_none : (ms : Members) → joined ms no_members ≡ ms
joined_none no_members = refl
joined_none (member k d ms) = ap (member k d) (joined_none ms)

joined_one : (ms : Members) (k : List ℕ) (d : Data) (ns : Members) → joined (joined ms (member k d no_members)) ns ≡ joined ms (member k d ns)
joined_one no_members k d ns = refl
joined_one (member l e ms) k d ns = ap (member l e) (joined_one ms k d ns)

-- a name above all goes last
put_above : (k : List ℕ) (d : Data) (ms : Members) → IsBelow ms k → put k d ms ≡ joined ms (member k d no_members)
put_above k d no_members h = refl
put_above k d (member l e ms) h =
    let turned = nat_list_cmp_total.antisymm k l ∙ ap ordering_reverse h.0 in
    rw turned (ap (member l e) (put_above k d ms h.1))

below_one : (ms : Members) (k : List ℕ) (d : Data) (l : List ℕ) → IsBelow ms l → text_cmp k l ≡ Less → IsBelow (joined ms (member k d no_members)) l
below_one no_members k d l h e = (e, tt)
below_one (member j v ms) k d l h e = (h.0, below_one ms k d l h.1 e)

are_below_one : (ms : Members) (k : List ℕ) (d : Data) (ns : Members) → AreBelow ms ns → AllByRecursion (λ l. text_cmp k l ≡ Less) (names ns)
    → AreBelow (joined ms (member k d no_members)) ns
are_below_one ms k d no_members h e = tt
are_below_one ms k d (member l v ns) h e = (below_one ms k d l h.0 e.0, are_below_one ms k d ns h.1 e.1)

none_below : (ns : Members) → AreBelow no_members ns
none_below no_members = tt
none_below (member k d ns) = (tt, none_below ns)

-- ---- what is written for a value is read back as it

mutual
  json_read : (d : Data) → IsTree d → HasFittingNumbers d → of_json (outline d) ≡ Some d
  json_read (number n) tree fit = ap (option_map number) (number_read n fit)
  json_read (array ds) tree fit = ap (option_map array) (items_read ds tree fit)
  json_read (object ms) tree fit = ap (option_map object) (members_read ms no_members (none_below ms) tree fit)
  json_read e tree fit = refl

  items_read : (ds : Items) → AreTrees ds → ItemsHaveFittingNumbers ds → of_items (items_outline ds) ≡ Some ds
  items_read no_items trees fit = refl
  items_read (item d ds) trees fit = rw (json_read d trees.0 fit.0, items_read ds trees.1 fit.1) refl

  members_read : (ms found : Members) → AreBelow found ms → AreMembers ms → MembersHaveFittingNumbers ms → of_members (members_outline ms) found
      ≡ Some (joined found ms)
  members_read no_members found low rise fit = ap Some (sym (joined_none found))
  members_read (member k d ms) found low rise fit =
      let next : Members = joined found (member k d no_members) in
      let above : AllByRecursion (λ l. text_cmp k l ≡ Less) (names ms) = before_all k ms rise.0 rise.2 in
      ap (option_and_then (λ d. of_members (members_outline ms) (put k d found))) (json_read d rise.1 fit.0)
      ∙ (ap (of_members (members_outline ms)) (put_above k d found low.0) ∙ (members_read ms next (are_below_one found k d ms low.1 above) rise.2 fit.1
      ∙ ap Some (joined_one found k d ms)))

mutual
  outline_depth : (d : Data) → tree.depth (outline d) ≡ depth d
  outline_depth (array ds) = ap suc (items_outline_depth ds)
  outline_depth (object ms) = ap suc (members_outline_depth ms)
  outline_depth e = refl

  items_outline_depth : (ds : Items) → tree.items_depth (items_outline ds) ≡ items_depth ds
  items_outline_depth no_items = refl
  items_outline_depth (item d ds) = ap₂ max (outline_depth d) (items_outline_depth ds)

  members_outline_depth : (ms : Members) → tree.members_depth (members_outline ms) ≡ members_depth ms
  members_outline_depth no_members = refl
  members_outline_depth (member k d ms) = ap₂ max (outline_depth d) (members_outline_depth ms)

-- the value of all the tokens
abbrev whole : Option (json.Json × List Token) → Option Data
whole o = option_and_then of_json (option_and_then (λ p. json.if_last p.0 p.1) o)

-- a text with the tokens of a value is read as the value
pub form_read : (d : Data) (text : List ℕ) → IsTree d → HasFittingNumbers d → tokens text ≡ value_tokens d → depth d ≤ max_depth → read text ≡ Some d
form_read d text rise fit same shallow =
    let low : tree.depth (outline d) ≤ max_depth = subst (λ n. n ≤ max_depth) (sym (outline_depth d)) shallow in
    ap whole (ap (json.value max_depth) (same ∙ sym (append-nil (value_tokens d))) ∙ value-json_tokens (outline d) max_depth [] low) ∙ json_read d rise fit

-- ---- the text that is written for a report is the text of its canonical form

module _ (π : Preference) (t : Data) (accepted : IsAccepted π t) (tree : IsTree t) (bounded : IsBounded t) (fits : HasFittingNumbers t) where
  pub text_of_form : (written : List Token) (text : List ℕ) → written ≡ value_tokens (view_of (style_of π t) t) → text ≡ print written → tokens (print written)
      ≡ written → IsUtf8 text → IsCanonicalText π t text
  text_of_form written text are printed back utf8 =
      let u = view_of (style_of π t) t in
      record {
        tree = u;
        form = form_written π t accepted tree bounded fits;
        only = only_form_written π t accepted tree bounded fits;
        no_deeper = no_deeper_form π t;
        is_tree = viewed_tree π t tree;
        whole = whole_written π t accepted tree bounded fits;
        written = printed ∙ (ap print are ∙ print-outline u);
        utf8 = utf8;
        reads_back = form_read u text (viewed_tree π t tree) (view_fits π t tree fits) (ap tokens printed ∙ (back ∙ are));
      }

-- what is read of such a text is the form
pub read_form : (π : Preference) (t d : Data) (text : List ℕ) (c : IsCanonicalText π t text) → IsShallow t → read text ≡ Some d → c.tree ≡ d
read_form π t d text c shallow e =
    let low : depth c.tree ≤ max_depth = omega (arith, c.no_deeper, shallow) in
    let same : Some c.tree ≡ Some d = sym (c.reads_back low) ∙ e in
    cc
