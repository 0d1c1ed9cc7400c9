-- What a writer holds after a write that may have failed.
use Rattle.std.specs.Prelude.{ℕ, List, Option, take}
use Rattle.std.specs.Io.KnownBytes.{Appends}
use Rattle.erd_canon.specs.declared.engines.outcome.Outcome.{Outcome}
use Rattle.erd_canon.specs.Reading.{IsReadWhole}
use Rattle.erd_canon.specs.Run.{IsAnswered, IsChecked, IsCompared}
use Rattle.erd_meaning.specs.Keys.{Preference}

-- If the bytes of the writer are known: a first part of the text was written, and nothing else.
pub record IsPartWritten (before after : Option (List ℕ)) (text : List ℕ) : Type 0 where
  pub count : ℕ
  pub wrote : Appends before after (take count text)

-- Checking the input has this text for its writer. If the bytes of the writer are known, a first part of the text was
-- written, and nothing else.
pub record IsCheckPartWritten (π : Preference) (bytes : List ℕ) (before after : Option (List ℕ)) : Type 0 where
  pub outcome : Outcome
  pub text : List ℕ
  pub checked : IsChecked π bytes outcome text
  pub part : IsPartWritten before after text

-- Comparing the two inputs has this text for its writer. If the bytes of the writer are known, a first part of the text was
-- written, and nothing else.
pub record IsComparePartWritten (π : Preference) (left right : List ℕ) (before after : Option (List ℕ)) : Type 0 where
  pub outcome : Outcome
  pub text : List ℕ
  pub compared : IsCompared π left right outcome text
  pub part : IsPartWritten before after text

-- Canonicalising the input has these texts for its writers. If their bytes are known, a first part of its text was
-- written to each, and nothing else.
pub record IsAnswerPartWritten (π : Preference) (bytes : List ℕ) (out_before out_after err_before err_after : Option (List ℕ)) : Type 0 where
  pub outcome : Outcome
  pub out_text : List ℕ
  pub err_text : List ℕ
  pub answered : IsAnswered π bytes outcome out_text err_text
  pub part_out : IsPartWritten out_before out_after out_text
  pub part_err : IsPartWritten err_before err_after err_text

-- What is known of canonicalising that failed to write. If the bytes of the devices are known: the reader was read to its end
-- within the limit, and a first part of each text of canonicalising its bytes was written, and nothing else.
pub record IsBrokenRun (π : Preference) (limit : ℕ) (before after out_before out_after err_before err_after : Option (List ℕ)) : Type 0 where
  pub input : List ℕ
  pub whole : IsReadWhole limit before after input
  pub written : IsAnswerPartWritten π input out_before out_after err_before err_after

-- What is known of a check that failed to write. If the bytes of the devices are known: the reader was read to its end within
-- the limit, and a first part of the text of checking its bytes was written, and nothing else.
pub record IsBrokenCheck (π : Preference) (limit : ℕ) (before after out_before out_after : Option (List ℕ)) : Type 0 where
  pub input : List ℕ
  pub whole : IsReadWhole limit before after input
  pub written : IsCheckPartWritten π input out_before out_after

-- What is known of a comparison that failed to write. If the bytes of the devices are known: both readers were read to their
-- ends within the limit, and a first part of the text of comparing their bytes was written, and nothing else.
pub record IsBrokenCompare (π : Preference) (limit : ℕ) (left_before left_after right_before right_after out_before out_after : Option (List ℕ)) : Type 0 where
  pub left : List ℕ
  pub right : List ℕ
  pub left_whole : IsReadWhole limit left_before left_after left
  pub right_whole : IsReadWhole limit right_before right_after right
  pub written : IsComparePartWritten π left right out_before out_after
