use Rattle.std.proofs.Common.{◌≡◌, ℕ, Err, refl}
use Rattle.rollout_model.specs.declared.refusal.Refusal.{Refusal}
use Rattle.rollout_model.specs.declared.refusal.Refusal.TheVariants.{StoreFailed}
use Rattle.rollout_model.specs.declared.request.Reply.{Reply}
use Rattle.rollout_model.specs.declared.request.Reply.TheVariants as told
use Rattle.rollout_model.specs.declared.rollout.RolloutReport.{RolloutReport}
use Rattle.rollout_machine.specs.Views.{reply_of}
use Rattle.desk_server.specs.Telling.{outcome_of}
use Rattle.desk_server.proofs.telling.tell_reply.Goals as goal

-- no order gets an answer of another kind
other : (r : Reply) → ((n : ℕ) → r ≡ told.TargetsPut n → ⊥) → ((report : RolloutReport) → r ≡ told.Report report → ⊥)
    → ((refusal : Refusal) → r ≡ told.Refused refusal → ⊥)
    → outcome_of (reply_of r) ≡ Err StoreFailed
other (told.TargetsPut n) put shown refused = absurd (put n refl)
other (told.Report report) put shown refused = absurd (shown report refl)
other (told.Refused refusal) put shown refused = absurd (refused refusal refl)
other _ put shown refused = refl

pub returns-in-TargetsPut : goal.returns-in-TargetsPut
returns-in-TargetsPut g c = rw c.in-TargetsPut.is (rw (c.as_bytes.ensures, c.imported_line.ensures) at c.print_or_tell.ensures)

pub returns-in-Report : goal.returns-in-Report
returns-in-Report g c = rw c.in-Report.is c.tell_report.ensures

pub returns-in-Refused : goal.returns-in-Refused
returns-in-Refused g c = rw c.in-Refused.is (c.refuse.ensures _ _)

pub returns-in_default : goal.returns-in_default
returns-in_default g c = rw (other c.args.reply.now c.in_default.not-TargetsPut c.in_default.not-Report c.in_default.not-Refused)
    (c.refuse-in_default.ensures _ _)
