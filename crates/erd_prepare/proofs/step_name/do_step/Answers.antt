use Rattle.std.proofs.Common.{refl}
use Rattle.serde_json.specs.View.{view}
use Rattle.erd_prepare.specs.ClassNames.{class_names}
use Rattle.erd_prepare.specs.Local.{dropping}
use Rattle.erd_prepare.specs.LocalSteps.{dropped_by}
use Rattle.erd_prepare.specs.Names.{naming}
use Rattle.erd_prepare.specs.Nulls.{nulls}
use Rattle.erd_prepare.specs.Persons.{unused_persons}
use Rattle.erd_prepare.specs.Styles.{unused_styles}
use Rattle.erd_prepare.specs.WholeNumbers.{whole_numbers}
use Rattle.erd_prepare.specs.declared.local.Local.TheVariants as local
use Rattle.erd_prepare.specs.declared.step_name.StepName.TheVariants as step
use Rattle.erd_prepare.proofs.NamedSteps.{by_own_rule, by_some_rule}
use Rattle.erd_prepare.proofs.step_name.do_step.Goals as goal

pub returns-in-ClassNames : goal.returns-in-ClassNames
returns-in-ClassNames c =
    record {
      done = by_own_rule _ step.ClassNames (view c.args.report.now) _ class_names c.in-ClassNames.is refl c.write_class_names.ensures.tree
          c.write_class_names.ensures.changes;
    }

pub returns-in-Nulls : goal.returns-in-Nulls
returns-in-Nulls c =
    record {
      done = by_own_rule _ step.Nulls (view c.args.report.now) _ nulls c.in-Nulls.is refl c.take_out_nulls.ensures.tree
          c.take_out_nulls.ensures.changes;
    }

pub returns-in-Outside : goal.returns-in-Outside
returns-in-Outside c =
    record {
      done = by_own_rule _ step.Outside (view c.args.report.now) _ (dropping (dropped_by local.Outside)) c.in-Outside.is refl c.take_out.ensures.tree
          c.take_out.ensures.changes;
    }

pub returns-in-Counts : goal.returns-in-Counts
returns-in-Counts c =
    record {
      done = by_own_rule _ step.Counts (view c.args.report.now) _ (dropping (dropped_by local.Counts)) c.in-Counts.is refl c.take_out_counts.ensures.tree
          c.take_out_counts.ensures.changes;
    }

pub returns-in-Coordinates : goal.returns-in-Coordinates
returns-in-Coordinates c =
    record {
      done = by_own_rule _ step.Coordinates (view c.args.report.now) _ (dropping (dropped_by local.Coordinates)) c.in-Coordinates.is refl
          c.take_out-in-Coordinates.ensures.tree c.take_out-in-Coordinates.ensures.changes;
    }

pub returns-in-WholeNumbers : goal.returns-in-WholeNumbers
returns-in-WholeNumbers c =
    record {
      done = by_own_rule _ step.WholeNumbers (view c.args.report.now) _ whole_numbers c.in-WholeNumbers.is refl c.write_whole_numbers.ensures.tree
          c.write_whole_numbers.ensures.changes;
    }

pub returns-in-StrayIds : goal.returns-in-StrayIds
returns-in-StrayIds c =
    record {
      done = by_own_rule _ step.StrayIds (view c.args.report.now) _ (dropping (dropped_by local.StrayIds)) c.in-StrayIds.is refl
          c.take_out-in-StrayIds.ensures.tree c.take_out-in-StrayIds.ensures.changes;
    }

pub returns-in-Unseen : goal.returns-in-Unseen
returns-in-Unseen c =
    record {
      done = by_own_rule _ step.Unseen (view c.args.report.now) _ (dropping (dropped_by local.Unseen)) c.in-Unseen.is refl
          c.take_out-in-Unseen.ensures.tree c.take_out-in-Unseen.ensures.changes;
    }

pub returns-in-FalseFlags : goal.returns-in-FalseFlags
returns-in-FalseFlags c =
    record {
      done = by_own_rule _ step.FalseFlags (view c.args.report.now) _ (dropping (dropped_by local.FalseFlags)) c.in-FalseFlags.is refl
          c.take_out-in-FalseFlags.ensures.tree c.take_out-in-FalseFlags.ensures.changes;
    }

pub returns-in-UnusedStyles : goal.returns-in-UnusedStyles
returns-in-UnusedStyles c =
    record {
      done = by_own_rule _ step.UnusedStyles (view c.args.report.now) _ unused_styles c.in-UnusedStyles.is refl c.take_out_unused_styles.ensures.tree
          c.take_out_unused_styles.ensures.changes;
    }

pub returns-in-UnusedPersons : goal.returns-in-UnusedPersons
returns-in-UnusedPersons c =
    record {
      done = by_own_rule _ step.UnusedPersons (view c.args.report.now) _ (unused_persons (view c.args.report.now)) c.in-UnusedPersons.is refl
          c.take_out_unused_persons.ensures.tree c.take_out_unused_persons.ensures.changes;
    }

pub returns-in-EmptyLists : goal.returns-in-EmptyLists
returns-in-EmptyLists c =
    record {
      done = by_own_rule _ step.EmptyLists (view c.args.report.now) _ (dropping (dropped_by local.EmptyLists)) c.in-EmptyLists.is refl
          c.take_out-in-EmptyLists.ensures.tree c.take_out-in-EmptyLists.ensures.changes;
    }

pub returns-in-EmptyTexts : goal.returns-in-EmptyTexts
returns-in-EmptyTexts c =
    record {
      done = by_own_rule _ step.EmptyTexts (view c.args.report.now) _ (dropping (dropped_by local.EmptyTexts)) c.in-EmptyTexts.is refl
          c.take_out_empty_texts.ensures.tree c.take_out_empty_texts.ensures.changes;
    }

pub returns-in-Names : goal.returns-in-Names
returns-in-Names c =
    record {
      done = by_own_rule _ step.Names (view c.args.report.now) _ (naming (view c.args.report.now)) c.in-Names.is refl c.name_all.ensures.tree
          c.name_all.ensures.changes;
    }

pub returns-in-Kinds : goal.returns-in-Kinds
returns-in-Kinds c = record { done = by_some_rule _ step.Kinds (view c.args.report.now) c.write_kinds.result c.in-Kinds.is refl c.write_kinds.ensures.done }

pub returns-in-UnusedIds : goal.returns-in-UnusedIds
returns-in-UnusedIds c =
    record {
      done = by_some_rule _ step.UnusedIds (view c.args.report.now) c.take_out_unused_ids.result c.in-UnusedIds.is refl
          c.take_out_unused_ids.ensures.done;
    }

pub returns-in-TwinIds : goal.returns-in-TwinIds
returns-in-TwinIds c =
    record { done = by_some_rule _ step.TwinIds (view c.args.report.now) c.tell_ids_apart.result c.in-TwinIds.is refl c.tell_ids_apart.ensures.done }

pub returns-in-Devices : goal.returns-in-Devices
returns-in-Devices c =
    record { done = by_some_rule _ step.Devices (view c.args.report.now) c.take_out_devices.result c.in-Devices.is refl c.take_out_devices.ensures.done }

pub returns-in-VendorIdentifiers : goal.returns-in-VendorIdentifiers
returns-in-VendorIdentifiers c =
    record {
      done = by_some_rule _ step.VendorIdentifiers (view c.args.report.now) c.take_vendor_identifiers.result c.in-VendorIdentifiers.is refl
          c.take_vendor_identifiers.ensures.done;
    }

pub returns-in-VendorTexts : goal.returns-in-VendorTexts
returns-in-VendorTexts c =
    record {
      done = by_some_rule _ step.VendorTexts (view c.args.report.now) c.rename_vendor_members.result c.in-VendorTexts.is refl
          c.rename_vendor_members.ensures.done;
    }

pub returns-in-Repeated : goal.returns-in-Repeated
returns-in-Repeated c =
    record { done = by_some_rule _ step.Repeated (view c.args.report.now) c.take_out_repeated.result c.in-Repeated.is refl c.take_out_repeated.ensures.done }

pub returns-in-OtherCodes : goal.returns-in-OtherCodes
returns-in-OtherCodes c =
    record {
      done = by_some_rule _ step.OtherCodes (view c.args.report.now) c.take_out_other_codes.result c.in-OtherCodes.is refl
          c.take_out_other_codes.ensures.done;
    }

pub returns-in-GoneCandidates : goal.returns-in-GoneCandidates
returns-in-GoneCandidates c =
    record {
      done = by_some_rule _ step.GoneCandidates (view c.args.report.now) c.take_out_gone_candidates.result c.in-GoneCandidates.is refl
          c.take_out_gone_candidates.ensures.done;
    }

pub returns-in-TownCodes : goal.returns-in-TownCodes
returns-in-TownCodes c =
    record {
      done = by_some_rule _ step.TownCodes (view c.args.report.now) c.put_towns_in_front.result c.in-TownCodes.is refl
          c.put_towns_in_front.ensures.done;
    }

pub returns-in-CountyCodes : goal.returns-in-CountyCodes
returns-in-CountyCodes c =
    record {
      done = by_some_rule _ step.CountyCodes (view c.args.report.now) c.put_counties_in_front.result c.in-CountyCodes.is refl
          c.put_counties_in_front.ensures.done;
    }

pub returns-in-SharedCodes : goal.returns-in-SharedCodes
returns-in-SharedCodes c =
    record {
      done = by_some_rule _ step.SharedCodes (view c.args.report.now) c.take_out_shared_codes.result c.in-SharedCodes.is refl
          c.take_out_shared_codes.ensures.done;
    }

pub returns-in-WriteInCandidates : goal.returns-in-WriteInCandidates
returns-in-WriteInCandidates c =
    record {
      done = by_some_rule _ step.WriteInCandidates (view c.args.report.now) c.number_write_in_candidates.result c.in-WriteInCandidates.is refl
          c.number_write_in_candidates.ensures.done;
    }

pub returns-in-Codes : goal.returns-in-Codes
returns-in-Codes c =
    record { done = by_some_rule _ step.Codes (view c.args.report.now) c.tell_codes_apart.result c.in-Codes.is refl c.tell_codes_apart.ensures.done }

pub returns-in-WriteInLines : goal.returns-in-WriteInLines
returns-in-WriteInLines c =
    record {
      done = by_some_rule _ step.WriteInLines (view c.args.report.now) c.number_write_in_lines.result c.in-WriteInLines.is refl
          c.number_write_in_lines.ensures.done;
    }

pub returns-in-PartyLines : goal.returns-in-PartyLines
returns-in-PartyLines c =
    record { done = by_some_rule _ step.PartyLines (view c.args.report.now) c.name_party_lines.result c.in-PartyLines.is refl c.name_party_lines.ensures.done }
