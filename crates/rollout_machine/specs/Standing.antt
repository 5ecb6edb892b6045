-- What a desk stands for, and what a crash may leave of it.
use Rattle.std.specs.Prelude.{◌≡◌, ◌≢◌, ◌⊎◌, Bool, true, false, Option, option_to_list}
use Rattle.rollout_machine.specs.Answers.{MayAnswer}
use Rattle.rollout_machine.specs.CommandList.{CommandList, followed_by}
use Rattle.rollout_machine.specs.Commands.{Command}
use Rattle.rollout_model.specs.declared.refusal.Refusal.TheVariants.{StoreFailed}
use Rattle.rollout_machine.specs.Replies.{Reply, Refused}
use Rattle.rollout_machine.specs.Requests.{Asked}
use Rattle.rollout_machine.specs.Validity.{IsValid}

-- what a contract sees of a desk whose store keeps files of this type
pub record DeskState (File : Type 0) : Type 1 where
  pub is_stopped : Bool
  -- so far the disk has returned what was written, and nobody else wrote
  pub is_clean : Type 0
  -- the tables hold exactly the records of the list
  pub shows : CommandList → Type 0
  -- what a crash at this moment may leave
  pub may_leave : File → Type 0
  -- the list is of accepted commands, and opening the file finds tables that hold its records
  pub holds : File → CommandList → Type 0

-- each command of the list was accepted, and the desk and whatever a crash leaves of it hold the list's records
pub record StandsFor {File : Type 0} (s : DeskState File) (h : CommandList) : Type 0 where
  pub runs : s.is_stopped ≡ false
  pub valid : IsValid h
  pub shows : s.shows h
  pub crash : (file : File) → s.may_leave file → s.holds file h

-- stopped; a crash leaves the list, or the list with what was accepted
pub record IsInDoubt {File : Type 0} (s : DeskState File) (h : CommandList) (accepted : Option Command) : Type 0 where
  pub stopped : s.is_stopped ≡ true
  pub crash : (file : File) → s.may_leave file → s.holds file h ⊎ s.holds file (followed_by h (option_to_list accepted))

-- what the desk is after a reply
pub record Becomes {File : Type 0} (s : DeskState File) (h : CommandList) (reply : Reply) (accepted : Option Command) : Type 0 where
  pub in_doubt : reply ≡ Refused StoreFailed → IsInDoubt s h accepted
  pub stands : reply ≢ Refused StoreFailed → StandsFor s (followed_by h (option_to_list accepted))

-- one request at the list h: the machine's answer, and a desk that becomes what the answer says
pub record AppliesAt {File : Type 0} (h : CommandList) (new : DeskState File) (asked : Asked) (reply : Reply) : Type 0 where
  pub accepted : Option Command
  pub answers : MayAnswer h asked reply accepted
  pub becomes : Becomes new h reply accepted

-- one request, on a desk that stands for any list
abbrev pub Applies : {File : Type 0} → DeskState File → DeskState File → Asked → Reply → Type 0
Applies old new asked reply = (h : CommandList) → new.is_clean → StandsFor old h → AppliesAt h new asked reply

-- a stopped desk stays as it is
pub record StaysStopped {File : Type 0} (old new : DeskState File) : Type 0 where
  pub stopped : new.is_stopped ≡ true
  pub crash : (file : File) → new.may_leave file → old.may_leave file
  pub holds : (file : File) (h : CommandList) → old.holds file h → new.holds file h
