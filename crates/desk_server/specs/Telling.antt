-- What is told of an order's outcome, and how it is written.
use Rattle.std.specs.Prelude.{◌≡◌, ◌≢◌, ℕ, Bool, true, List, [], ◌++◌, Option, Result, Ok, Err, OnOk, IfErr, codes}
use Rattle.std.specs.Fmt.{decimal}
use Rattle.std.specs.Io.KnownBytes.{Appends}
use Rattle.rollout_model.specs.Refusals.{refusal_row}
use Rattle.rollout_model.specs.declared.refusal.Refusal.{Refusal}
use Rattle.rollout_model.specs.declared.refusal.Refusal.TheVariants.{BadImportLine, Stopped, StoreFailed}
use Rattle.rollout_machine.specs.Replies.{Reply, Refused, ReportShown, TargetsPut}
use Rattle.rollout_machine.specs.Requests.{Asked}
use Rattle.rollout_machine.specs.Standing.{DeskState, Applies, StaysStopped}
use Rattle.desk_files.specs.Reports.{report_lines}
use Rattle.stream_server.specs.declared.served.ServeFault.{ServeFault}
use Rattle.stream_server.specs.declared.served.ServeFault.TheVariants.{Read, Store, Write}
use Rattle.stream_server.specs.Headline.{FailsBy}
use Rattle.desk_server.specs.Program.{Reports, Tells, WritesPart, status_of}

-- the faulty line of a file
abbrev pub line_part : Refusal → List ℕ
line_part (BadImportLine line) = codes " line " ++ decimal line
line_part refusal = []

-- the line of a refusal, by its row of the table
abbrev pub refusal_line : Refusal → List ℕ
refusal_line refusal = codes "error " ++ decimal (refusal_row refusal).number ++ codes " " ++ (refusal_row refusal).name ++ line_part refusal ++ codes "\n"

abbrev pub imported_line : ℕ → List ℕ
imported_line accepted = codes "imported " ++ decimal accepted ++ codes "\n"

-- what an order's answer says: how many targets were put, or the text of a report; or why it was refused. No order gets an answer of another kind
abbrev pub outcome_of : Reply → Result (List ℕ) Refusal
outcome_of (TargetsPut accepted) = Ok (imported_line accepted)
outcome_of (ReportShown report) = Ok (report_lines report.rollout report.groups)
outcome_of (Refused refusal) = Err refusal
outcome_of reply = Err StoreFailed

-- It was done: the text went out whole, or a fault is told.
pub record Prints (text : List ℕ) (out out_new told told_new : Option (List ℕ)) (telling_fails failed_write writing_fails : Bool) (status : ℕ) : Type 0 where
  pub outcome : Result (Unit {0}) ServeFault
  pub whole : OnOk outcome (Appends out out_new text)
  pub part : IfErr outcome (λ fault. WritesPart out out_new text)
  -- a write failed, or memory was wanted: nothing is read for it, and no store is asked
  pub named : IfErr outcome (λ fault. (fault ≢ Read) × (fault ≢ Store))
  pub status_is : status ≡ status_of outcome
  pub reports : Reports told told_new telling_fails outcome
  pub write_failed : FailsBy outcome Write failed_write writing_fails

-- It was refused, and that is told.
pub record Refuses (refusal : Refusal) (out out_new told told_new : Option (List ℕ)) (telling_fails failed_write writing_fails : Bool)
    (status : ℕ) : Type 0 where
  pub status_is : status ≡ 1
  pub unwritten : Appends out out_new []
  pub tells : Tells told told_new telling_fails (refusal_line refusal)
  pub unfailed : writing_fails ≡ failed_write

-- the text of what was done, or why it was refused
abbrev pub TellsOutcome : Result (List ℕ) Refusal → Option (List ℕ) → Option (List ℕ) → Option (List ℕ) → Option (List ℕ) → Bool → Bool → Bool → ℕ → Type 0
TellsOutcome (Ok text) = Prints text
TellsOutcome (Err refusal) = Refuses refusal

-- ---- an order that asks the desk

-- The desk gave this reply: the machine's answer at whatever list it stands for. After a failed store it is stopped, whatever it stood for. A
-- stopped one refuses whatever is asked as stopped, and stays as it is.
pub record RepliesTo {File : Type 0} (asked : Asked) (old new : DeskState File) (reply : Reply) : Type 0 where
  pub clean : new.is_clean → old.is_clean
  pub applies : Applies old new asked reply
  pub fails : reply ≡ Refused StoreFailed → new.is_stopped ≡ true
  pub stopped : old.is_stopped ≡ true → (reply ≡ Refused Stopped) × StaysStopped old new

-- The desk gave its reply to what the order asks, and that reply is told.
pub record TellsReply {File : Type 0} (asked : Asked) (old new : DeskState File) (out out_new told told_new : Option (List ℕ))
    (telling_fails failed_write writing_fails : Bool) (status : ℕ) : Type 0 where
  pub reply : Reply
  pub replies : RepliesTo asked old new reply
  pub tells : TellsOutcome (outcome_of reply) out out_new told told_new telling_fails failed_write writing_fails status
