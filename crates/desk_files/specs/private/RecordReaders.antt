-- Which records a reader of bytes still gives.
use Rattle.std.specs.Prelude.{◌≡◌, ◌<◌, ℕ, Bool, true, false, List, [], ◌∷◌, length, Option, Some}
use Rattle.std.specs.Borrow.{Bor}
use Rattle.csv.specs.Machine.{ends_at_end}
use Rattle.csv.specs.Reading.{Ready, default_config, reader_config, reader_state, reader_trim, records_from, source_of}
use Rattle.csv.specs.declared.reader.Reader.{Reader}
use Rattle.csv.specs.declared.reader.Trim.TheVariants as trim
use Rattle.desk_files.specs.TargetRecords.{Record}

abbrev pub known : Bor (List ℕ) → Option (List ℕ)
known s = Some s.now

-- these are the records that the reader has left
pub record GivesRecords (reader : Reader (Bor (List ℕ))) (records : List Record) : Type 0 where
  pub trim : reader_trim reader ≡ trim.None
  pub ready : Ready reader
  pub config : reader_config reader ≡ default_config
  -- the bytes behind the last record
  pub rest : List ℕ
  pub source : source_of known reader ≡ Some rest
  pub between : ends_at_end (reader_state reader) ≡ false
  -- a number above that of the records that these bytes can have
  pub turns : ℕ
  pub enough : length rest < turns
  pub left : records ≡ records_from default_config turns (reader_state reader) rest

-- of the records left, the next one, if there is one, and the others after it
abbrev pub GivesNext : List Record → Reader (Bor (List ℕ)) → Bool → Record → Type 0
GivesNext [] reader found r = found ≡ false
GivesNext (first ∷ rest) reader found r = (found ≡ true) × (r ≡ first) × GivesRecords reader rest
