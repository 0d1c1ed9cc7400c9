-- What the table says of the names of members, and the objects that stand under them.
use Rattle.erd_normal.proofs.Common.{◌≡◌, ℕ, Bool, true, false, ◌&&◌, List, map, is_some, Some, codes, flat_map, bytes_eq, sym, refl, ap, ◌∙◌, subst, and_parts}
use Rattle.erd_normal.proofs.Common.{list_all, Data, object, Members, get_member, role_of_class, family_of_class, rows_of_class, kind_of_identity}
use Rattle.erd_normal.proofs.Common.{kind_of_member, Class, class, Family, family, Role, role, MemberKind, kind, entries_in, text_exact, kind_of_name}
use Rattle.erd_normal.proofs.Common.{kind_of_id, list_of_items, entries_of, entries_at, values-placed_entries, values_in_elections, Skeleton, kind_of_type}
use Rattle.erd_normal.proofs.Common.{has_keys, placed_entries, report_of, elections, objects, In, AllByRecursion, is_report_class, [], ◌∷◌, id_prefix, Row}
use Rattle.erd_normal.proofs.Common.{envelope_rows, kind_in_rows, is_envelope_name, stands}
use Rattle.erd_meaning.specs.code.Spots.{member_name}
use Rattle.erd_normal.proofs.lists.Lists.{IsPart, part_flat, part_self}

-- ---- what the table says of single names

-- `Status` of the report is a word
pub status_kind : (c : Class) (name : List ℕ) → (is_report_class c && bytes_eq name (codes "Status")) ≡ true → kind_of_member c name ≡ kind.Word
status_kind class.ElectionReport name e = ap (kind_of_member class.ElectionReport) (text_exact name (codes "Status") e)
status_kind c name e = cc

-- the kind of `@id` in an object of a family
pub kind_of_family_id : (c : Class) (f : Family) → role_of_class c ≡ role.OfFamily f → kind_of_member c (codes "@id") ≡ kind.Identity
kind_of_family_id c f is = kind_of_id c ∙ rw is refl

-- each class of a family has identifiers
pub kind_of_identifiers : (c : Class) (f : Family) → role_of_class c ≡ role.OfFamily f → kind_of_member c (codes "ExternalIdentifier") ≡ kind.Identifiers
kind_of_identifiers class.ElectionReport f e = cc
kind_of_identifiers c f e = cc

-- a family whose objects have `@id` texts by their ranks alone
abbrev pub is_prefixed : Family → Bool
is_prefixed f = is_some (id_prefix f)

-- ---- the names of the envelope

-- what holds of the name of each row holds of a name that a row has
pub row_named : (P : List ℕ → Type 0) (rows : List Row) (name : List ℕ) → AllByRecursion (λ row. P row.name) rows
    → is_some (kind_in_rows rows name) ≡ true → P name
row_named P [] name all named = cc
row_named P (row ∷ rows) name all named = at (bytes_eq name row.name) refl (row_named P rows name all.1)
  where
    at : (b : Bool) → bytes_eq name row.name ≡ b → (is_some (kind_in_rows rows name) ≡ true → P name) → P name
    at true is h = subst P (sym (text_exact name row.name is)) all.0
    at false is h = h (rw is at named)

-- what holds of each name of the envelope
pub of_envelope : (P : List ℕ → Type 0) → P (codes "Format") → P (codes "GeneratedDate") → P (codes "Issuer") → P (codes "IssuerAbbreviation")
    → P (codes "VendorApplicationId") → P (codes "Notes")
    → P (codes "SequenceStart") → P (codes "SequenceEnd") → P (codes "ExternalIdentifier") → (name : List ℕ) → is_envelope_name name ≡ true → P name
of_envelope P format date issuer abbreviation application notes start end identifiers name =
    row_named P envelope_rows name (format, (date, (issuer, (abbreviation, (application, (notes, (start, (end, (identifiers, tt)))))))))

-- ---- the names of the members that hold objects: what stands there is the array of the objects of the family

-- objects with this role hold those of the family
abbrev pub holds : Role → Family → Bool
holds role.Report family.Unit = true
holds role.Report family.Party = true
holds role.Report family.Person = true
holds role.Report family.Office = true
holds role.Report family.Header = true
holds role.Election family.Candidate = true
holds role.Election family.Contest = true
holds role.Election family.Style = true
holds (role.OfFamily family.Contest) family.Selection = true
holds r f = false

abbrev pub is_report_role : Role → Bool
is_report_role role.Report = true
is_report_role r = false

-- what the table says of a member of this kind
abbrev pub is_home : Class → List ℕ → MemberKind → Bool
is_home c n (kind.Keyed f) = holds (role_of_class c) f && bytes_eq n (member_name f)
is_home c n kind.Elections = is_report_role (role_of_class c) && bytes_eq n (codes "Election")
is_home c n kind.Identity = is_some (family_of_class c) && bytes_eq n (codes "@id")
is_home c n (kind.Many f) = has_keys f
is_home c n k = true

home_rows : (c : Class) → list_all (λ row. is_home c row.name row.kind) (rows_of_class c) ≡ true
home_rows class.ElectionReport = refl
home_rows c = refl

home_identity : (c : Class) → is_home c (codes "@id") (kind_of_identity c) ≡ true
home_identity class.ElectionReport = refl
home_identity c = refl

pub home : (c : Class) (name : List ℕ) → is_home c name (kind_of_member c name) ≡ true
home c name = at (bytes_eq name (codes "@type")) refl (bytes_eq name (codes "@id")) refl
  where
    at : (type : Bool) → bytes_eq name (codes "@type") ≡ type → (id : Bool) → bytes_eq name (codes "@id") ≡ id → is_home c name (kind_of_member c name) ≡ true
    at true is id is' = ap (is_home c name) (ap (kind_of_member c) (text_exact name (codes "@type") is) ∙ kind_of_type c)
    at false is true is' =
        subst (λ n. is_home c n (kind_of_member c n) ≡ true) (sym (text_exact name (codes "@id") is'))
        (ap (is_home c (codes "@id")) (kind_of_id c) ∙ home_identity c)
    at false is false is' =
        kind_of_name (λ m. is_home c m.name m.kind) (is_home c name) c name is is' (home_rows c)
        (λ m h e. subst (λ n. is_home c n m.kind ≡ true) (sym (text_exact name m.name e)) h) refl refl

keyed_home : (c : Class) (name : List ℕ) (f : Family) → kind_of_member c name ≡ kind.Keyed f → (holds (role_of_class c) f ≡ true)
    × (bytes_eq name (member_name f) ≡ true)
keyed_home c name f is = and_parts (holds (role_of_class c) f) (bytes_eq name (member_name f)) (subst (λ k. is_home c name k ≡ true) is (home c name))

pub keyed_name : (c : Class) (name : List ℕ) (f : Family) → kind_of_member c name ≡ kind.Keyed f → name ≡ member_name f
keyed_name c name f is = text_exact name (member_name f) (keyed_home c name f is).1

pub elections_name : (c : Class) (name : List ℕ) → kind_of_member c name ≡ kind.Elections → name ≡ codes "Election"
elections_name c name is =
    text_exact name (codes "Election") (and_parts (is_report_role (role_of_class c)) (bytes_eq name (codes "Election"))
    (subst (λ k. is_home c name k ≡ true) is (home c name))).1

-- contests alone hold selections
pub contest_of_selections : (c : Class) (f : Family) → role_of_class c ≡ role.OfFamily f → kind_of_member c (member_name family.Selection)
    ≡ kind.Keyed family.Selection → f ≡ family.Contest
contest_of_selections c f r is = at f (subst (λ q. holds q family.Selection ≡ true) r (keyed_home c (member_name family.Selection) family.Selection is).0)
  where
    at : (f : Family) → holds (role.OfFamily f) family.Selection ≡ true → f ≡ family.Contest
    at family.Contest e = refl
    at f e = cc

-- ---- the objects of families

values_in_report : (t : Data) (s : Skeleton t) (name : List ℕ) → map (λ o. o.value) (placed_entries name (report_of t)) ≡ entries_in (get_member name s.ms)
values_in_report t s name = values-placed_entries name (report_of t) ∙ ap (entries_at name) s.is_object

pub report_objects : (t : Data) (s : Skeleton t) (f : Family) (d : Data) → kind_of_member class.ElectionReport (member_name f) ≡ kind.Keyed f
    → get_member (member_name f) s.ms ≡ Some d → map (λ o. o.value) (objects f t) ≡ entries_of d
report_objects t s family.Unit d is stands = values_in_report t s (codes "GpUnit") ∙ ap entries_in stands
report_objects t s family.Party d is stands = values_in_report t s (codes "Party") ∙ ap entries_in stands
report_objects t s family.Person d is stands = values_in_report t s (codes "Person") ∙ ap entries_in stands
report_objects t s family.Office d is stands = values_in_report t s (codes "Office") ∙ ap entries_in stands
report_objects t s family.Header d is stands = values_in_report t s (codes "Header") ∙ ap entries_in stands
report_objects t s f d is stands = cc

-- a member of the report holds all objects of its family
pub report_part : (t : Data) (s : Skeleton t) (f : Family) (d : Data) → kind_of_member class.ElectionReport (member_name f) ≡ kind.Keyed f
    → get_member (member_name f) s.ms ≡ Some d → IsPart (entries_of d) (map (λ o. o.value) (objects f t))
report_part t s f d is stands = subst (IsPart (entries_of d)) (sym (report_objects t s f d is stands)) (part_self (entries_of d))

-- and one of an election some of them
pub election_part : (t : Data) (s : Skeleton t) (e : Data) (ms : Members) → In e (list_of_items s.es) → e ≡ object ms → (f : Family) (d : Data)
    → kind_of_member class.Election (member_name f) ≡ kind.Keyed f
    → get_member (member_name f) ms ≡ Some d → IsPart (entries_of d) (map (λ o. o.value) (objects f t))
election_part t s e ms h same f d is stands = at f is stands
  where
    held : (name : List ℕ) → get_member name ms ≡ Some d → IsPart (entries_of d) (map (λ o. o.value) (flat_map (placed_entries name) (elections t)))
    held name found =
        subst (IsPart (entries_of d)) (sym (values_in_elections t s name))
        (subst (λ xs. IsPart xs (flat_map (entries_at name) (list_of_items s.es))) (ap (entries_at name) same ∙ ap entries_in found)
        (part_flat (entries_at name) (list_of_items s.es) e h))

    at : (g : Family) → kind_of_member class.Election (member_name g) ≡ kind.Keyed g → get_member (member_name g) ms ≡ Some d
        → IsPart (entries_of d) (map (λ o. o.value) (objects g t))
    at family.Candidate k found = held (codes "Candidate") found
    at family.Contest k found = held (codes "Contest") found
    at family.Style k found = held (codes "BallotStyle") found
    at g k found = cc
