-- How a change begins and ends, by what it sees and what giving it up leaves.
use Rattle.sql_calls.proofs.Common.{◌≡◌, inl, inr, ℕ, List, [], true, false, Result, Ok, Err, IsTrue, refl, ap, sym, subst, ◌∙◌, arith, both_ways, Trees}
use Rattle.sql_calls.proofs.Common.{Begin, Commit, Rollback, Database, State, HasCleanDisk, Fault, RunsText, Means, HoldIn, IsAtRest, IsInDoubt}
use Rattle.sql_calls.proofs.Common.{Rests, Sees, Shows, Spoiled, Begins, Keeps, Commits, GivesUp}
use Rattle.sqlite.specs.State.{CommitsBy}
use Rattle.sql_calls.proofs.Framing.{schema_of, undone}
use Rattle.sql_calls.proofs.Leavings.{refused, crash_kept, never_commits_idle, runs_plain, IsSettled}

module _ {R : Type 0} (Holds : Database → R → Type 0) (s : State) where
  -- outside a change, what is seen is what was committed
  pub still_holds : (r : R) → IsAtRest Holds s r → IsTrue s.is_open → Holds s.now r
  still_holds r it on = subst (λ d. Holds d r) (sym (it.held.ended it.mode on)) (it.held.kept_holds on)

  -- what stands is shown
  pub rest_shows : (r : R) → Rests Holds s r → Shows Holds s r
  rest_shows r was clean = let it = was clean in record { mode = it.mode; ended = it.held.ended it.mode; holds = it.held.kept_holds }

  -- the transaction had ended by itself
  pub ended : (kept : R) → Spoiled Holds s kept → s.in_transaction ≡ false → Rests Holds s kept
  ended kept was out clean = record { mode = out; held = was.spoiled clean }

module _ {R : Type 0} (Holds : Database → R → Type 0) (sql : List ℕ) (old new : State) where
  -- ---- a change begins

  module _ (means : Means old.now.schema sql Begin) where
    started : RunsText old new sql [] (Ok tt) → HasCleanDisk new
        → (new.in_transaction ≡ true) × IsTrue new.is_open × IsTrue old.is_open × (new.now ≡ old.now) × (new.committed ≡ old.committed)
    started h clean =
        let done = h.runs clean in
        let shown = (runs_plain sql Begin [] old new means done.0 done.1).1 in
        (shown.mode, shown.is_open, shown.was_open, shown.now_is, shown.committed_is)

    begun_crash : {result : Result (Unit {0}) Fault} → RunsText old new sql [] result → HasCleanDisk new → (db : Trees) → new.may_leave db → old.may_leave db
    begun_crash h clean = crash_kept old new _ clean (λ db. never_commits_idle sql Begin old new means db refl) h.survives

    pub begins : RunsText old new sql [] (Ok tt) → Begins Holds old new
    begins h = record {
      wears = h.survives.clean;
      opens = λ r was. record {
        spoiled = record {
          spoiled = λ clean.
              let first = was (omega (arith, h.survives.clean, clean)) in
              let it = started h clean in
              record {
                ended = λ out. absurd (both_ways _ out it.0);
                kept_holds = λ _. subst (λ d. Holds d r) (sym it.4) (first.held.kept_holds it.2);
                crash = λ db left. first.held.crash db (begun_crash h clean db left);
              };
        };
        inside = λ clean.
            let first = was (omega (arith, h.survives.clean, clean)) in
            let it = started h clean in
            record {
              mode = it.0;
              is_open = it.1;
              fits = ap schema_of (it.3 ∙ first.held.ended first.mode it.2) ∙ sym (ap schema_of it.4);
            };
      };
      sees = λ r was. record {
        sees = λ clean.
            let first = was (omega (arith, h.survives.clean, clean)) in
            let it = started h clean in
            record { mode = it.0; is_open = it.1; now_holds = subst (λ d. Holds d r) (sym (it.3 ∙ first.ended it.2)) (first.holds it.2) };
      };
    }

    pub fails_to_begin : (fault : Fault) → RunsText old new sql [] (Err fault) → Keeps Holds old new
    fails_to_begin fault h = record {
      wears = h.survives.clean;
      rests = λ r was clean.
          let first = was (omega (arith, h.survives.clean, clean)) in
          let failed = h.runs clean in
          elim (refused sql [] old new failed.0 failed.2) [
            | inl same ↦ record {
              mode = same.0.mode ∙ first.mode;
              held = record {
                ended = λ _ _. same.0.now_is ∙ first.held.ended first.mode same.0.was_open ∙ sym same.0.committed_is;
                kept_holds = λ _. subst (λ d. Holds d r) (sym same.0.committed_is) (first.held.kept_holds same.0.was_open);
                crash = λ db left. first.held.crash db (begun_crash h clean db left);
              };
            }
            | inr back ↦ undone Holds old new r first.held (begun_crash h clean) back
          ];
    }

  -- ---- it is committed

  module _ (means : Means old.now.schema sql Commit) where
    pub committed_rests : (now : R) → Sees Holds old now → RunsText old new sql [] (Ok tt) → IsSettled new → Rests Holds new now
    committed_rests now was h settled clean =
        let first = was.sees (omega (arith, h.survives.clean, clean)) in
        let done = h.runs clean in
        let shown = (runs_plain sql Commit [] old new means done.0 done.1).1 in
        record {
          mode = shown.mode;
          held = record {
            ended = λ _ _. shown.now_is ∙ sym shown.committed_is;
            kept_holds = λ _. subst (λ d. Holds d now) (sym shown.committed_is) first.now_holds;
            crash = λ db left. subst (λ t. HoldIn Holds t now) (sym (settled db shown.is_open left ∙ ap (λ (d : Database). d.trees) shown.committed_is))
                (old.now.schema, first.now_holds);
          };
        }

    commits_now : (db : Trees) → old.in_transaction ≡ true → CommitsBy sql [] old db → db ≡ old.now.trees
    unfolding CommitsBy
    commits_now db inside h = grind (arith, both_ways)

    pub not_committed : (now kept : R) → Sees Holds old now → (HasCleanDisk old → (db : Trees) → old.may_leave db → HoldIn Holds db kept) → (fault : Fault)
        → RunsText old new sql [] (Err fault) → HasCleanDisk new → IsInDoubt Holds new kept now
    not_committed now kept was left fault h clean =
        let before : HasCleanDisk old = omega (arith, h.survives.clean, clean) in
        let first = was.sees before in record {
          crash = λ db at. elim (h.survives.crash clean db at) [
            | inl stood ↦ inl (left before db stood)
            | inr made ↦ inr (subst (λ t. HoldIn Holds t now) (sym (commits_now db first.mode made)) (old.now.schema, first.now_holds))
          ];
        }

    pub commits : (out : Result (Unit {0}) Fault) → RunsText old new sql [] out → IsSettled new → Commits Holds old new out
    commits (Ok _) h settled = record { wears = h.survives.clean; commits = λ now was. committed_rests now was h settled }
    commits (Err fault) h settled =
        record { wears = h.survives.clean; commits = λ now kept was held. not_committed now kept was (λ clean. (held.spoiled clean).crash) fault h }

  -- ---- it is given up

  module _ (means : Means old.now.schema sql Rollback) where
    rolled_crash : {result : Result (Unit {0}) Fault} → RunsText old new sql [] result → HasCleanDisk new → (db : Trees) → new.may_leave db → old.may_leave db
    rolled_crash h clean = crash_kept old new _ clean (λ db. never_commits_idle sql Rollback old new means db refl) h.survives

    pub gives_up : (out : Result (Unit {0}) Fault) → RunsText old new sql [] out → GivesUp Holds old new out
    gives_up (Ok _) h = record {
      wears = h.survives.clean;
      gives_up = λ kept was clean.
          let done = h.runs clean in
          undone Holds old new kept (was.spoiled (omega (arith, h.survives.clean, clean))) (rolled_crash h clean)
          (runs_plain sql Rollback [] old new means done.0 done.1).1;
    }
    gives_up (Err fault) h = record {
      wears = h.survives.clean;
      gives_up = λ kept was clean.
          record { crash = λ db left. inl ((was.spoiled (omega (arith, h.survives.clean, clean))).crash db (rolled_crash h clean db left)) };
    }
