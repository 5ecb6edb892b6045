-- From the tables of a version to those of the newest, from BEGIN to COMMIT.
use Rattle.desk_opening.proofs.Common.{inl, inr, [], Ok, Err, Result, refl, arith, Update, State, Fault, RunsText, Sees, commit_is, runs_plain}
use Rattle.desk_opening.proofs.Common.{Commit, IsKnownOpen, Records, HoldsLedger, HoldsRecords, Rests, Ledger, ledger_of, HoldsAt, Desk, later_than}
use Rattle.desk_opening.proofs.Common.{SET_VERSION}
use Rattle.desk_opening.proofs.Common.{Version, set_version_is, set_version_query, codes, true, OpenFault, FillsLater, bare_ledger, At}
use Rattle.desk_opening.proofs.Common.{HoldsStage, MakesTables, Older, Partly, Whole, Migrates, changed_at, first_records}
use Rattle.desk_records.proofs.HeldTables.{are_tables, rows_of}
use Rattle.sql_calls.specs.Standing.{Advances, Makes}
use Rattle.sql_calls.proofs.Stepping.{ran}
use Rattle.desk_store.specs.Sharing.{HasTables}
use Rattle.desk_opening.proofs.Steps.{Turns, Within, begun, goes, rests_as, within_as}
use Rattle.desk_opening.proofs.VersionSet.{desk_renewed, spot_in, stands_in}

pub version_set : (v : Version) (r : Records) {c d : State} (out : Result (Unit {0}) Fault) → RunsText c d SET_VERSION.now [] out
    → Advances HoldsStage (Partly (Older v r) (later_than v) []) (Whole (bare_ledger v r)) c d out
version_set v r {c} {d} = ran HoldsStage SET_VERSION.now [] c d (Partly (Older v r) (later_than v) []) (Whole (bare_ledger v r)) (λ h. record {
  command = Update (spot_in v r c.now h Desk).at (record { lets = []; body = set_version_query (spot_in v r c.now h Desk).tree });
  means = (changed_at set_version_is).at c.now.schema _ (spot_in v r c.now h Desk).tree (stands_in v r c.now h Desk);
}) (λ holds. refl) (λ holds count w. (w, desk_renewed v r c d _ count holds w))

module _ (v : Version) (r : Records) {a b : State} (first : RunsText a b (codes "BEGIN") [] (Ok tt)) where
  pub began : Within HoldsStage (At v r) a b (Partly (Older v r) [] (later_than v))
  began = within_as (λ db h. grind arith) (begun (At v r) first)

  module _ {c : State} (second : MakesTables {A = Unit {0}} {E = OpenFault} (later_than v) b c (Ok tt)) where
    pub made : Within HoldsStage (At v r) a c (Partly (Older v r) (later_than v) [])
    made = goes began (second (Older v r))

    module _ {d : State} (third : RunsText c d SET_VERSION.now [] (Ok tt)) where
      pub named : Within HoldsStage (At v r) a d (Whole (bare_ledger v r))
      named = goes made (version_set v r (Ok tt) third)

      pub standing : Within HasTables (At v r) a d tt
      standing = within_as (λ db h. (rows_of db (bare_ledger v r) h, are_tables db (bare_ledger v r) h)) named

      -- what the change sees is the ledger
      pub sees_bare : Rests HoldsStage a (At v r) → Sees HoldsLedger d (bare_ledger v r)
      sees_bare = (within_as {Kept = HoldsLedger} (λ db h. h) named).sees

      pub filled : {e : State} → Advances HasTables {A = Unit {0}} {E = Fault} tt tt d e (Ok tt)
          → Makes HoldsLedger (λ (l : Ledger). l) {A = Unit {0}} {E = Fault} d e (Ok tt) (FillsLater v)
          → Within HoldsStage (At v r) a e (Whole (ledger_of r))
      filled {e} fourth filling =
          let still = goes standing fourth in
          record {
            wears = still.wears;
            crash = still.crash;
            sees = λ was. record {
              sees = λ clean.
                  let before = (began.sees was).sees (omega (arith, (second (Older v r)).wears, third.survives.clean, fourth.wears, clean)) in
                  let seen = filling.makes (bare_ledger v r) (ledger_of r) (sees_bare was)
                  (λ known. record { records = r; tellable = before.now_holds.kept.tellable; bare = refl; next_is = refl }) in
                  let it = seen.sees clean in
                  record { mode = it.mode; is_open = it.is_open; now_holds = it.now_holds };
            };
          }

pub stood : (v : Version) (r : Records) {a : State} → Rests (HoldsAt v) a r → Rests HoldsStage a (At v r)
stood v r {a} = rests_as (HoldsAt v) HoldsStage r (At v r) (λ db h. h) a

pub migrates_by : {A E : Type 0} {v : Version} {a z : State} (out : Result A E) → ((r : Records) → Turns (At v r) (Whole (ledger_of r)) a z out)
    → Migrates v a z out
migrates_by {v = v} {z = z} (Ok x) h = record {
  wears = (h (first_records true)).wears;
  migrates = λ r was. rests_as HoldsStage HoldsRecords (Whole (ledger_of r)) r (λ db held. held) z ((h r).turns (stood v r was));
}
migrates_by {v = v} (Err e) h = record {
  wears = (h (first_records true)).wears;
  migrates = λ r was clean db left. elim ((h r).turns (stood v r was) clean db left) [
    | inl kept ↦ (kept.0, inl kept.1)
    | inr tried ↦ (tried.0, inr tried.1)
  ];
}

-- a commit leaves the connection open
pub stays_open : (e z : State) → RunsText e z (codes "COMMIT") [] (Ok tt) → IsKnownOpen z
stays_open e z h clean = let done = h.runs clean in (runs_plain (codes "COMMIT") Commit [] e z (commit_is e.now.schema) done.0 done.1).1.is_open
