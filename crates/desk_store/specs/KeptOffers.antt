-- What the table of offers keeps of a target, whatever rows it has.
use Rattle.std.specs.Prelude.{ℕ, false, Option, Some}
use Rattle.rollout_model.specs.declared.rollout.Offer.{Offer}
use Rattle.rollout_machine.specs.Commands.{Bytes}
use Rattle.desk_records.specs.Listings.{has_text_at}
use Rattle.desk_records.specs.Schema.{Offers}
use Rattle.desk_records.specs.Tables.{Tables}
use Rattle.desk_store.specs.RawLists.{FindsFirst, SaysOfferOf}

-- a row keeps this offer of this id, or none keeps one
abbrev pub IsKept : Tables → Bytes → Option Offer → Type 0
IsKept t id offer = FindsFirst (t Offers) (has_text_at 1 id) (SaysOfferOf id) offer

-- a row keeps this action of this id, as a deployment
abbrev pub IsKeptAs : Tables → Bytes → ℕ → Type 0
IsKeptAs t id action = IsKept t id (Some (record { action = action; canceling = false }))
