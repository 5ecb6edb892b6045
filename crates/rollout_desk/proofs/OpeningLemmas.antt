-- From a connection that was opened to a desk over it.
use Rattle.rollout_desk.proofs.Common.{◌≡◌, Bool, false, None, Ok, Err, Result, IfOk, IfErr, refl, sym, subst, Files, Trees, AreClean, IsClosed}
use Rattle.rollout_desk.proofs.Common.{file_state}
use Rattle.rollout_desk.proofs.Common.{recovers, Held, FileStore, Rests, Image, State, HasCleanDisk, HoldsRecords, Reopens, CommandList, Make, records}
use Rattle.rollout_desk.proofs.Common.{StandsFor, IsValid, Global, ReopensDesk, GivesBack}
use Rattle.sqlite_disk.specs.declared.Disk as disk
use Rattle.sqlite.specs.Closing.{IsCopied}
use Rattle.sql_calls.specs.Calls.{no_work}
use Rattle.sqlite_store.specs.Laws.{stays_at}
use Rattle.sqlite_wal.proofs.LogLemmas.{SeenMayStay}
use Rattle.sqlite.specs.Steps.{IsEmpty}
use Rattle.desk_opening.specs.Opening.{OpensDesk, IsSettled}
use Rattle.rollout_desk.specs.Desks.{Known, desk_state_knowing}
use Rattle.rollout_desk.specs.declared.desk.Desk.{Desk}
use Rattle.desk_store.specs.declared.store.DeskStore.{DeskStore}
use Rattle.rollout_desk.proofs.ApplyLemmas.{readable}
use Rattle.desk_opening.proofs.EmptyLemmas.{empty_at_rest}

-- a desk that was opened knows of no number of targets yet
stands : (s : State) (h : CommandList) → IsValid h → Rests HoldsRecords s (records h) → HasCleanDisk s
    → StandsFor (desk_state_knowing HoldsRecords None false s) h
stands s h valid rests clean =
    record { runs = refl; valid = valid; shows = (rests clean, tt); crash = λ db left. (valid, readable db (records h) ((rests clean).held.crash db left)) }

pub reopened_desk : (image : Image) (approval : Bool) (s : State) → Reopens image s approval
    → ReopensDesk image (desk_state_knowing HoldsRecords None false s) approval
reopened_desk image approval s h = record {
  finds = h.finds;
  holds = λ db list held it clean. stands s list it.0 (h.holds (records list) (db, held, it.1)) clean;
  makes = λ none clean. stands s (Make approval) tt (h.makes none) clean;
}

-- the desk is over the connection
module _ {S : Type 0} (alloc : Global) (store : DeskStore S) (conn : Held S) (same : store.calls.conn ≡ conn) (desk : Desk S)
    (is : desk ≡ record { store = store; stopped = false; targets = None; work = no_work; alloc = alloc }) where
  pub over_it : (P : Known → Bool → Held S → Type 0) → P None false conn → P desk.targets desk.stopped desk.store.calls.conn
  over_it P holds = subst (λ (d : Desk S). P d.targets d.stopped d.store.calls.conn) (sym is) (subst (P None false) (sym same) holds)

-- ---- the files that a desk gives back

module _ {D : Type 0} {g : disk.Ghosts D} (given old : Held (FileStore D g)) (same : given ≡ old) (known : Known) (stopped : Bool) where
  pub gives_back : {E : Type 0} → SeenMayStay g → (out : Result (Files D) E) → IfOk out (λ files. AreClean g files.log files.db → IsCopied given files)
      → IfOk out (λ files. AreClean g files.log files.db → GivesBack g (desk_state_knowing HoldsRecords known stopped (file_state old)) files)
  gives_back stays (Err e) h = tt
  gives_back stays (Ok files) h = λ clean.
      let it = subst (λ c. IsCopied c files) same (h clean) in
      record { file = (file_state old).committed.trees; kept = stays_at old.store stays it.was_open; seen = it.seen; left = it.left }

  pub gives_store : {A E : Type 0} (out : Result A (E × FileStore D g)) (Other : E × FileStore D g → Type 0) → IfErr out (λ e. IsClosed given e.1 × Other e)
      → IfErr out (λ e. (db : Trees) → recovers e.1 db → (file_state old).may_leave db)
  gives_store (Ok files) Other h = tt
  gives_store (Err e) Other h = λ db left. (subst (λ c. IsClosed c e.1) same h.0).quiet.outcomes db left

-- ---- in memory

pub made_desk : {A : Type 0} (old new : State) (approval : Bool) (x : A) → IsSettled old → IsEmpty old → OpensDesk old new approval (Ok x) → HasCleanDisk new
    → StandsFor (desk_state_knowing HoldsRecords None false new) (Make approval)
made_desk old new approval x settled e h clean = stands new (Make approval) tt (h.makes (λ _. e.0.is_open) (λ _. empty_at_rest old settled e)) clean
