-- What may be done about the faults that are left in a prepared report. All of this is the program's own. The two tables are
-- those of bindings/remedies.txt, from which tests/pages/tables.py writes them.
use Rattle.std.specs.Prelude.{◌++◌, ◌==◌, ℕ, List, [], ◌∷◌, codes, cond}
use Rattle.std.specs.List.{list_any}
use Rattle.erd_tables.specs.Faults.{reason_number}
use Rattle.erd_tables.specs.declared.fault.Fault.{Fault}
use Rattle.erd_tables.specs.declared.fault.Reason.{Reason}
use Rattle.erd_tables.specs.declared.fault.Reason.TheVariants as reason

-- The front of the line about a reason: its number, its words, and the steps that may fix it.
abbrev pub remedy_front : Reason → List ℕ
remedy_front reason.WrongKind =
    codes "reason 1 (wrong kind): steps that may fix it: nulls, kinds; otherwise ask the vendor: "
remedy_front (reason.MissingMember name) =
    codes "reason 2 (missing member): steps that may fix it: class-names; otherwise ask the vendor: "
remedy_front reason.WrongClassText =
    codes "reason 3 (wrong class): steps that may fix it: class-names, devices; otherwise ask the vendor: "
remedy_front reason.NotWhole =
    codes "reason 4 (not a whole number): steps that may fix it: coordinates, whole-numbers; otherwise ask the vendor: "
remedy_front reason.OutsideProfile =
    codes "reason 5 (outside the profile): steps that may fix it: outside, counts; otherwise ask the vendor: "
remedy_front reason.UnknownReference =
    codes "reason 6 (unknown reference): steps that may fix it: vendor-identifiers, vendor-texts; otherwise ask the vendor: "
remedy_front reason.CarriedIdentity =
    codes "reason 7 (carried identity): steps that may fix it: stray-ids, vendor-texts; otherwise ask the vendor: "
remedy_front reason.NotPreElection =
    codes "reason 8 (not pre-election): no step fixes it; ask the vendor: "
remedy_front reason.ElectionCount =
    codes "reason 9 (wrong number of elections): no step fixes it; ask the vendor: "
remedy_front reason.EmptyArray =
    codes "reason 10 (empty array): steps that may fix it: unused-styles, empty-texts; otherwise ask the vendor: "
remedy_front reason.Repeated =
    codes "reason 11 (repeated): steps that may fix it: repeated; otherwise ask the vendor: "
remedy_front reason.NoIdentifier =
    codes "reason 12 (no external identifier): steps that may fix it: vendor-identifiers, unused-persons, names; otherwise ask the vendor: "
remedy_front reason.TwinIdentifier =
    codes "reason 13 (identifier used twice): steps that may fix it: town-codes, county-codes, shared-codes, write-in-candidates, codes; otherwise ask the vendor: "
remedy_front reason.DuplicateId =
    codes "reason 14 (@id used twice): steps that may fix it: unused-ids, twin-ids; otherwise ask the vendor: "
remedy_front reason.Unresolved =
    codes "reason 15 (unresolved reference): steps that may fix it: gone-candidates; otherwise ask the vendor: "
remedy_front reason.WrongFamily =
    codes "reason 16 (reference to another family): no step fixes it; ask the vendor: "
remedy_front reason.SelectionOfOtherContest =
    codes "reason 17 (selection of another contest): no step fixes it; ask the vendor: "
remedy_front reason.TwinSelection =
    codes "reason 18 (selection name used twice): steps that may fix it: write-in-lines, party-lines; otherwise ask the vendor: "

-- What to ask the vendor for.
abbrev pub remedy_letter : Reason → List ℕ
remedy_letter reason.WrongKind =
    codes "Write numbers and truth values without quotes, texts and codes with quotes, and a list even for one entry. Leave out what has no value."
remedy_letter (reason.MissingMember name) =
    codes "Write the member that is missing. The standard requires it."
remedy_letter reason.WrongClassText =
    codes "Write the class with its prefix, as in ElectionResults.ReportingUnit, and only one that the standard has there. Leave machines out."
remedy_letter reason.NotWhole =
    codes "Write whole numbers. Leave coordinates out, or write them as texts."
remedy_letter reason.OutsideProfile =
    codes "Leave out counts, registered voters, groups of offices, and who runs the election."
remedy_letter reason.UnknownReference =
    codes "Only the standard's references end in Id or Ids. Make a number of your database one more ExternalIdentifier, or give the member another name."
remedy_letter reason.CarriedIdentity =
    codes "Leave out an @id where the standard has none. Give a member of your own a name that does not end in Id or Ids."
remedy_letter reason.NotPreElection =
    codes "Send the definition from before the election, with the Status pre-election. This is another report."
remedy_letter reason.ElectionCount =
    codes "Send the report with its election."
remedy_letter reason.EmptyArray =
    codes "Write what belongs into the list. The standard requires an entry. If the object is not used, leave it out."
remedy_letter reason.Repeated =
    codes "Write each entry of a set once. If another one was meant, write that."
remedy_letter reason.NoIdentifier =
    codes "Give each unit, party, person, office, header, candidate, contest and ballot style an ExternalIdentifier."
remedy_letter reason.TwinIdentifier =
    codes "Give each object an identifier that no other object of its sort has. Put the county, party or election in front of numbers that begin again."
remedy_letter reason.DuplicateId =
    codes "Give each object an @id that no other object has."
remedy_letter reason.Unresolved =
    codes "Write the object that is named, or leave it out of every list that names it."
remedy_letter reason.WrongFamily =
    codes "Let each reference name an object of the sort that the standard asks for."
remedy_letter reason.SelectionOfOtherContest =
    codes "Let each contest on a ballot list its own lines, and none of another contest."
remedy_letter reason.TwinSelection =
    codes "Number the write-in lines of a contest with SequenceOrder. Give the lines of one candidate for several parties an ExternalIdentifier each."

-- The lines about the reasons of these faults but for those of some numbers, one for each, in the order of their first faults.
abbrev pub remedies_beyond : List ℕ → List Fault → List (List ℕ)
remedies_beyond told [] = []
remedies_beyond told (fault ∷ faults) =
    cond (list_any (λ number. number == reason_number fault.reason) told) (remedies_beyond told faults)
    ((remedy_front fault.reason ++ remedy_letter fault.reason) ∷ remedies_beyond (told ++ reason_number fault.reason ∷ []) faults)

-- The lines about the reasons of these faults, one for each reason.
abbrev pub remedy_lines : List Fault → List (List ℕ)
remedy_lines faults = remedies_beyond [] faults
