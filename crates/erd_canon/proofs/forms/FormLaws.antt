-- Canonical bytes are equal exactly for equal meanings, and for reports that say the same. They are their own canonical bytes,
-- and those of each rearrangement.
use Rattle.erd_canon.proofs.Common.{◌≡◌, ℕ, List, sym, refl, ap, ◌∙◌, subst, arith, Data, compact_text, IsShallow, IsNoDeeper, IsAccepted, Preference, meaning}
use Rattle.erd_canon.proofs.Common.{IsTreeOf, IsCanonicalBytes}
use Rattle.erd_check.proofs.ReadTrees.{read_is_tree}
use Rattle.erd_normal.proofs.rearranged.RearrangedReports.{rearranged_means_the_same}
use Rattle.erd_normal.proofs.same.complete.Complete.{says_and_means}
use Rattle.erd_normal.proofs.unique.Unique.{unique}
use Rattle.erd_normal.specs.Canonical.{IsCanonicalFormOf}
use Rattle.erd_normal.specs.CanonicalText.{IsCanonicalText}
use Rattle.erd_normal.specs.Laws.{MeanAlike}
use Rattle.erd_canon.proofs.forms.Refusing.{one_tree}
use Rattle.erd_canon.specs.ByteLaws.{OneFormForOneMeaning, IsItsOwnForm, SameFormWhenRearranged}
use Rattle.erd_canon.specs.Headline.{Headline, TellsSayings}

-- the tree of canonical bytes means what the report means
meant : (π : Preference) (b c : List ℕ) (t : Data) (k : IsCanonicalBytes π b c) → IsTreeOf b t → meaning π k.tree ≡ meaning π t
meant π b c t k is = k.is_canonical.same ∙ ap (meaning π) (one_tree b k.report t k.is_accepted.read is)

-- the trees of the canonical bytes of two reports that mean the same
alike : (π : Preference) (b c b2 c2 : List ℕ) (t t2 : Data) (k : IsCanonicalBytes π b c) (k2 : IsCanonicalBytes π b2 c2) → IsTreeOf b t → IsTreeOf b2 t2
    → meaning π t ≡ meaning π t2 → MeanAlike π k.tree k2.tree
alike π b c b2 c2 t t2 k k2 is is2 same = record {
  left_tree = read_is_tree c k.tree k.reads_back.1;
  right_tree = read_is_tree c2 k2.tree k2.reads_back.1;
  left = k.is_canonical.canonical;
  right = k2.is_canonical.canonical;
  same = meant π b c t k is ∙ same ∙ sym (meant π b2 c2 t2 k2 is2);
}

-- two reports have equal canonical bytes exactly if they mean the same
pub one_form_for_one_meaning : OneFormForOneMeaning
one_form_for_one_meaning π b c k b2 c2 t t2 k2 is is2 = (
  λ one.
      let same : k.tree ≡ k2.tree = one_tree c2 k.tree k2.tree (subst (λ x. IsTreeOf x k.tree) one k.reads_back) k2.reads_back in
      sym (meant π b c t k is) ∙ ap (meaning π) same ∙ meant π b2 c2 t2 k2 is2,
  λ same. k.written ∙ ap compact_text (unique π k.tree k2.tree (alike π b c b2 c2 t t2 k k2 is is2 same)) ∙ sym k2.written,
)

-- canonical bytes are canonical bytes of themselves
own_bytes : (π : Preference) (b c : List ℕ) → IsCanonicalBytes π b c → IsCanonicalBytes π c c
own_bytes π b c k = record {
  report = k.tree;
  is_accepted = record { read = k.reads_back; accepted = k.is_canonical.canonical.accepted };
  tree = k.tree;
  is_canonical = record { canonical = k.is_canonical.canonical; same = refl };
  written = k.written;
  reads_back = k.reads_back;
}

-- canonical bytes are their own canonical bytes, and have no others
pub is_its_own_form : IsItsOwnForm
is_its_own_form π b c k = (
  own_bytes π b c k,
  λ d other. sym ((one_form_for_one_meaning π c c (own_bytes π b c k) c d k.tree k.tree other k.reads_back k.reads_back).1 refl),
)

-- the canonical bytes of a report are those of each rearrangement of it
pub same_form_when_rearranged : SameFormWhenRearranged
same_form_when_rearranged π b c k d t u changes is is_other rearranged =
    let accepted : IsAccepted π t = subst (IsAccepted π) (one_tree b k.report t k.is_accepted.read is) k.is_accepted.accepted in
    let other = rearranged_means_the_same π t u changes (read_is_tree b t is.1) accepted rearranged in
    record {
      report = u;
      is_accepted = record { read = is_other; accepted = other.0 };
      tree = k.tree;
      is_canonical = record { canonical = k.is_canonical.canonical; same = meant π b c t k is ∙ sym other.1 };
      written = k.written;
      reads_back = k.reads_back;
    }

-- two reports have equal canonical bytes exactly if they say the same
equal_sayings : (π : Preference) (b c : List ℕ) → IsCanonicalBytes π b c → TellsSayings π b c
equal_sayings π b c k b2 c2 t t2 k2 is is2 =
    let accepted : IsAccepted π t = subst (IsAccepted π) (one_tree b k.report t k.is_accepted.read is) k.is_accepted.accepted in
    let accepted2 : IsAccepted π t2 = subst (IsAccepted π) (one_tree b2 k2.report t2 k2.is_accepted.read is2) k2.is_accepted.accepted in
    let alike = one_form_for_one_meaning π b c k b2 c2 t t2 k2 is is2 in
    let agree = says_and_means π t t2 (read_is_tree b t is.1) (read_is_tree b2 t2 is2.1) accepted accepted2 in
    (λ one. agree.0 (alike.0 one), λ same. alike.1 (agree.1 same))

-- all of it
pub headline : (π : Preference) (b c : List ℕ) → IsCanonicalBytes π b c → Headline π b c
headline π b c k = record {
  form = k;
  accepted = record {
    left = k.report;
    right = k.tree;
    left_accepted = k.is_accepted;
    right_accepted = record { read = k.reads_back; accepted = k.is_canonical.canonical.accepted };
    same = sym k.is_canonical.same;
  };
  equal_bytes = one_form_for_one_meaning π b c k;
  equal_sayings = equal_sayings π b c k;
  own_form = is_its_own_form π b c k;
  rearranged = same_form_when_rearranged π b c k;
}

-- the text of the canonical form of what was read, which is the report r
pub canonical_text : (π : Preference) (b : List ℕ) (t r : Data) (text : List ℕ) → IsTreeOf b t → IsAccepted π t → IsShallow t → r ≡ t → IsCanonicalText π r text
    → IsCanonicalBytes π b text
canonical_text π b t r text is_read accepted shallow same form = record {
  report = t;
  is_accepted = record { read = is_read; accepted = accepted };
  tree = form.tree;
  is_canonical = subst (λ d. IsCanonicalFormOf π d form.tree) same form.form;
  written = form.written;
  reads_back = (form.utf8, form.reads_back (let deep = subst (IsNoDeeper form.tree) same form.no_deeper in omega (arith, shallow, deep)));
}
