-- What is said of a rollout as a whole.
use Rattle.std.proofs.lemmas.Bool.Decides.{nat_tests}
use Rattle.desk_commands.proofs.Common.{◌≡◌, ℕ, true, Option, Some, None, Result, refl, sym, ap, ◌∙◌, MatchResult, option_map, command_reply}
use Rattle.desk_commands.proofs.Common.{item_numbered, CommandList, IsWellFormed, Bytes, Command, offer, Records, records, change_rollout, step_records, Done}
use Rattle.desk_commands.proofs.Common.{RolloutWord, rollout_word, IsValid, check, RolloutRecord, is_number, Refusal, NotFound, AreSound, BothOrNone, Decides}
use Rattle.desk_commands.proofs.Common.{IsStandingView, IsViewOf, RolloutChange, RolloutCommandView, offers_before_start, ledger_of, turned, IsSeenOf}
use Rattle.desk_commands.proofs.Common.{SeenRollout, IsSeenAt, WritesSaid, approval_after, paused_after, command_said, AreOfList, limits_hold, arith}
use Rattle.campaign_core.proofs.ItemLemmas.{found}
use Rattle.desk_commands.specs.declared.standing.Said.{Said}
use Rattle.desk_commands.proofs.Common.{GroupRecord, StartsAndOffers, set_numbered, with_rollouts, false}
use Rattle.desk_records.proofs.HeldCounts.{place_within}
use Rattle.desk_records.proofs.NumberColumns.{is_in_range}
use Rattle.desk_commands.proofs.LedgerEnds.{as_listed, changed_at, sets_alone, starts_last, starts_of, then_started}

-- ---- verdicts

-- what a verdict refuses with is what the command is refused with
pub judged : (v : RolloutCommandView) (c : Command) (verdict : Result RolloutChange Refusal) (result : Option Refusal)
    → MatchResult verdict (λ change. result ≡ None) (λ refusal. result ≡ Some refusal) → Decides v c verdict
    → (rs : Records) → AreSound rs → IsViewOf v c rs → check rs c ≡ result
judged v c verdict result is decides rs sound view = grind arith

pub standing_view : (h : CommandList) (r : ℕ) (seen : SeenRollout) (x : RolloutRecord) (word : RolloutWord)
    → ((x : RolloutRecord) → IsSeenOf seen x → word ≡ rollout_word x) → IsSeenAt h r seen x → IsStandingView (record { word = Some word }) r (records h)
standing_view h r seen x word is at = record { word = ap (λ w. Some w) (is x at.is_seen) ∙ sym (ap (option_map rollout_word) at.is_there) }

-- ---- what was seen at a list

abbrev Sees : Records → ℕ → Option SeenRollout → Type 0
Sees rs r found = AreOfList rs → BothOrNone IsSeenOf found (item_numbered rs.rollouts r)

pub of_list : (h : CommandList) → IsValid h → AreOfList (records h)
of_list h valid = record { list = h; valid = valid; are = refl }

-- the rollout is there
pub record Found (h : CommandList) (r : ℕ) (seen : SeenRollout) : Type 0 where
  pub rollout : RolloutRecord
  pub at : IsSeenAt h r seen rollout

pub seen_there : (h : CommandList) → IsValid h → (r : ℕ) (seen : SeenRollout) → Sees (records h) r (Some seen) → Found h r seen
seen_there h valid r seen sees = grind (arith, of_list)

-- so its number is one
pub is_numbered : (h : CommandList) (r : ℕ) (seen : SeenRollout) → Found h r seen → is_number r ≡ true
is_numbered h r seen found = grind (arith, place_within, limits_hold, is_in_range)

pub none_there : (h : CommandList) → IsValid h → (r : ℕ) → Sees (records h) r None → item_numbered (records h).rollouts r ≡ None
none_there h valid r sees = grind (arith, of_list)

-- ---- commands on one rollout

-- what all have in common that do this to it
pub record IsOnRollout (command : ℕ → Command) (f : RolloutRecord → RolloutRecord) : Type 0 where
  pub lacks : (rs : Records) (r : ℕ) → item_numbered rs.rollouts r ≡ None → check rs (command r) ≡ Some NotFound
  pub reply : (rs : Records) (r : ℕ) → Done ≡ command_reply (command r) rs
  pub step : (rs : Records) (r : ℕ) → step_records rs (command r) ≡ record rs { rollouts = change_rollout r f rs.rollouts }
  pub formed : (r : ℕ) → is_number r ≡ true → IsWellFormed (command r)
  pub calm : (h : CommandList) (r : ℕ) (t : Bytes) → offer (records h) t ≡ offers_before_start h (command r) t

-- it makes y of the rollout that was seen
module _ {command : ℕ → Command} {f : RolloutRecord → RolloutRecord} (on : IsOnRollout command f) (h : CommandList) (r : ℕ) (seen : SeenRollout)
    (found : Found h r seen) (accepted : check (records h) (command r) ≡ None) (y : RolloutRecord) (is : f found.rollout ≡ y)
    (planned : y.plan ≡ found.rollout.plan) where
  steps : step_records (records h) (command r) ≡ record (records h) { rollouts = set_numbered (records h).rollouts r y }
  steps = grind (arith, nat_tests, changed_at)

  -- and starts no group
  pub set_so : starts_of y ≡ starts_of found.rollout → ledger_of (step_records (records h) (command r))
      ≡ with_rollouts (ledger_of (records h)) (set_numbered (records h).rollouts r y)
  set_so = sets_alone h (command r) found.at.valid (on.formed r (is_numbered h r seen found)) accepted (ledger_of (records h)) (as_listed (records h))
      (on.calm h r) refl r found.rollout y found.at.is_there steps planned

  -- or makes z of it, and starts a group
  pub started_so : (z : RolloutRecord) (g : GroupRecord) → item_numbered found.rollout.groups g.number ≡ Some g → g.started ≡ false
      → item_numbered z.groups g.number ≡ Some g → y ≡ then_started z g
      → StartsAndOffers r g (with_rollouts (ledger_of (records h)) (set_numbered (records h).rollouts r z)) (ledger_of (step_records (records h) (command r)))
  started_so = starts_last h (command r) found.at.valid (on.formed r (is_numbered h r seen found)) accepted (ledger_of (records h)) (as_listed (records h))
      (on.calm h r) refl r found.rollout y found.at.is_there steps planned

-- ---- what is said

abbrev said_of : Said → RolloutRecord → RolloutRecord
said_of said x = record x { approval = approval_after said x.approval; paused = paused_after said x.paused }

pub is_said : (said : Said) → IsOnRollout (command_said said) (said_of said)
is_said said = grind arith

-- what is written is the step
pub said_written : (said : Said) (h : CommandList) (r : ℕ) (seen : SeenRollout) → Found h r seen → check (records h) (command_said said r)
    ≡ None → WritesSaid said r seen (ledger_of (records h)) (ledger_of (step_records (records h) (command_said said r)))
said_written said h r seen found accepted =
    let x = found.rollout in
    let s = found.at.is_seen in
    record {
      rollout = x;
      is_there = found.at.is_there;
      next_is =
          set_so (is_said said) h r seen found accepted (turned (approval_after said seen.approval) seen.started (paused_after said seen.paused) x)
          (λ i. turned (approval_after said (sym s.approval i)) (sym s.started i) (paused_after said (sym s.paused i)) x) refl refl;
    }
