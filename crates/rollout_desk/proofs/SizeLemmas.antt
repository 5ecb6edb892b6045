-- From what a call inside a change says of the tables to what a query is answered.
use Rattle.rollout_desk.proofs.Common.{◌≡◌, ℕ, Result, Ok, IfOk, arith, Ghosts, Fault, Refused, Query, Download, reply_of, Refusal, Tables}
use Rattle.rollout_desk.proofs.Common.{Calls, AnswersIn, KeepsOffer, KeepsOffers, KeepsSizes, state}
use Rattle.rollout_machine.specs.Commands.{Bytes, Credential}
use Rattle.rollout_model.specs.declared.artifact.Artifact.{Artifact}
use Rattle.rollout_machine.specs.Replies as shown
use Rattle.rollout_model.specs.declared.request.Reply.{Reply}
use Rattle.desk_views.specs.Showing.{ShowsIn}
use Rattle.desk_views.specs.Sizes.{AgreesIn, KeepsSize}
use Rattle.rollout_desk.specs.Looks.{Looked, ReadsDownload}
use Rattle.rollout_desk.specs.Sizes.{ReadsAnswer}

-- what is so of any tables
pub always : {S : Type 0} {g : Ghosts S} {old new : Calls S} {out : Result Reply Fault} {Is : Tables → Reply → Type 0}
    → ((t : Tables) (reply : Reply) → Is t reply) → AgreesIn g old new out Is
always is = record { agrees = grind (arith, is) }

-- a query that asks for no contents and no offer
pub other_answered : {S : Type 0} {g : Ghosts S} {old new : Calls S} {query : Query} {out : Result Reply Fault} → ShowsIn g old new query out
    → ((t : Tables) (reply : shown.Reply) → KeepsSize t query reply × KeepsOffer t query reply)
    → AnswersIn g old new query out
other_answered shows none = grind (arith, always)

-- a refusal shows no contents

pub refused_sized : (t : Tables) (query : Query) (reply : shown.Reply) (refusal : Refusal) → reply ≡ Refused refusal → KeepsSize t query reply
refused_sized t query reply refusal is = grind arith

-- .. and tells no offer
pub refused_kept : (t : Tables) (query : Query) (reply : shown.Reply) (refusal : Refusal) → reply ≡ Refused refusal → KeepsOffer t query reply
refused_kept t query reply refusal is = grind arith

-- ---- what was found in a look

module _ {S : Type 0} (g : Ghosts S) {old new : Calls S} where
  -- a query was answered
  pub shown_sized : (query : Query) (reply : Reply) → Looked g (ReadsAnswer g query) old new (Ok reply)
      → KeepsSizes (state g old.conn) (state g new.conn) query (reply_of reply)
  shown_sized query reply it t clean shown = let at = it.to.0 in at.finds.answers.sized.agrees t (at.tables.sees t shown) (omega (arith, clean, at.wears))

  pub shown_kept : (query : Query) (reply : Reply) → Looked g (ReadsAnswer g query) old new (Ok reply)
      → KeepsOffers (state g old.conn) (state g new.conn) query (reply_of reply)
  shown_kept query reply it t clean shown = let at = it.to.0 in at.finds.answers.kept.agrees t (at.tables.sees t shown) (omega (arith, clean, at.wears))

  -- a device's download was found
  pub found_kept : (device : Credential) (m : ℕ) (filename : Bytes) (found : Result Artifact Refusal)
      → Looked g (ReadsDownload g device m filename) old new (Ok found)
      → IfOk found (λ x. (contents : Bytes) → KeepsOffers (state g old.conn) (state g new.conn) (Download device m filename) (shown.ContentsShown contents))
  found_kept device m filename found it = grind arith
