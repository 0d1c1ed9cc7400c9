-- The answers as data on worked rows, by computation.
use Rattle.erd_canon.proofs.Common.{◌≡◌, ℕ, List, [], ◌∷◌, ◌++◌, Some, None, codes, refl, inl, inr, digits, serde_json_on_literals, Data, string, read}
use Rattle.erd_canon.proofs.Common.{compact_text, Fault, reason, IsAcceptedReport, faults_data, refused_data, comparison_data, text_of_lines}
use Rattle.erd_canon.proofs.Common.{Bad, Good, NotJson}
use Rattle.erd_tables.specs.declared.place.Step.TheVariants.{Name, At}
use Rattle.erd_canon.specs.Answering.{IsCheckLine, listing_lines}
use Rattle.erd_canon.specs.DataAnswers.{IsCheckedData, IsComparedData, IsDataText}
use Rattle.erd_canon.proofs.examples.EngineExamples.{no_bytes, null_refused, root_kind}

-- ---- faults

-- a reference, a missing member of the report itself, and a name with a slash, a quotation mark and a line feed
abbrev three_faults : List Fault
three_faults = record { place = Name (codes "Election") ∷ At 0 ∷ Name (codes "Contest") ∷ At 12 ∷ []; reason = reason.Unresolved }
    ∷ record { place = []; reason = reason.MissingMember (codes "Status") }
    ∷ record { place = Name (codes "a/b\"\n: accepted") ∷ []; reason = reason.NotWhole } ∷ []

fault_texts : compact_text (faults_data three_faults)
    ≡ codes "[{\"place\":[\"Election\",0,\"Contest\",12],\"reason\":15},{\"name\":\"Status\",\"place\":[],\"reason\":2}"
    ++ codes ",{\"place\":[\"a/b\\\"\\n: accepted\"],\"reason\":4}]"
unfolding serde_json_on_literals digits
fault_texts = refl

faults_read : read (compact_text (faults_data three_faults)) ≡ Some (faults_data three_faults)
unfolding serde_json_on_literals digits
faults_read = refl

-- ---- what checking answers

no_faults_text : IsDataText (codes "[]") (faults_data [])
unfolding serde_json_on_literals
no_faults_text = record { written = refl; reads_back = ((codes "[]", (refl, refl)), refl) }

accepted_checked : (b : List ℕ) (t : Data) → IsAcceptedReport None b t → IsCheckedData None b Good (codes "[]")
accepted_checked b t accepted = record { value = faults_data []; checked = ((t, accepted), refl); is_text = no_faults_text }

-- and as the program writes it
accepted_line : (b : List ℕ) (t : Data) → IsAcceptedReport None b t → IsCheckLine None b Good (codes "[]\n")
accepted_line b t accepted = (codes "[]", accepted_checked b t accepted, refl)

-- where nothing differs, one line says so
no_differences : text_of_lines (listing_lines []) ≡ codes "same\n"
no_differences = refl

-- no bytes are no JSON
bytes_checked : IsCheckedData None [] NotJson (codes "\"not JSON\"")
unfolding serde_json_on_literals
bytes_checked = record {
  value = string (codes "not JSON");
  checked = (no_bytes, refl);
  is_text = record { written = refl; reads_back = ((codes "\"not JSON\"", (refl, refl)), refl) };
}

-- `null` is of a wrong kind
pub null_checked : IsCheckedData None (codes "null") Bad (codes "[{\"place\":[],\"reason\":1}]")
unfolding serde_json_on_literals digits root_kind
null_checked = record {
  value = faults_data (root_kind ∷ []);
  checked = (root_kind ∷ [], null_refused, refl);
  is_text = record { written = refl; reads_back = ((codes "[{\"place\":[],\"reason\":1}]", (refl, refl)), refl) };
}

-- ---- what comparing answers

-- the left report is judged first, whatever the right one is
null_compared : (right : List ℕ) → IsComparedData None (codes "null") right Bad (codes "{\"faults\":[{\"place\":[],\"reason\":1}],\"refused\":\"left\"}")
unfolding serde_json_on_literals digits root_kind
null_compared right = record {
  value = refused_data (codes "left") (faults_data (root_kind ∷ []));
  compared = inl (faults_data (root_kind ∷ []), (root_kind ∷ [], null_refused, refl), refl);
  is_text = record { written = refl; reads_back = ((codes "{\"faults\":[{\"place\":[],\"reason\":1}],\"refused\":\"left\"}", (refl, refl)), refl) };
}

-- the right report is judged where the left one is accepted
bytes_compared : (left : List ℕ) (t : Data) → IsAcceptedReport None left t → IsComparedData None left [] NotJson
    (codes "{\"faults\":\"not JSON\",\"refused\":\"right\"}")
unfolding serde_json_on_literals
bytes_compared left t accepted = record {
  value = refused_data (codes "right") (string (codes "not JSON"));
  compared = inr (inl ((t, accepted), (string (codes "not JSON"), (no_bytes, refl), refl)));
  is_text = record { written = refl; reads_back = ((codes "{\"faults\":\"not JSON\",\"refused\":\"right\"}", (refl, refl)), refl) };
}

-- an accepted report means the same as itself
same_compared : (b : List ℕ) (t : Data) → IsAcceptedReport None b t → IsComparedData None b b Good (codes "null")
unfolding serde_json_on_literals
same_compared b t accepted = record {
  value = comparison_data None;
  compared = inr (inr (None, record { left_tree = t; right_tree = t; left_accepted = accepted; right_accepted = accepted; difference = refl }, refl, refl));
  is_text = record { written = refl; reads_back = ((codes "null", (refl, refl)), refl) };
}
