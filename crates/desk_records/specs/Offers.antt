-- Offers in rows.
use Rattle.std.specs.Prelude.{◌≡◌, Bool, List, [], ◌∷◌, map, filter, Option, pos}
use Rattle.sqlite_value.specs.declared.value.Value.TheVariants.{Int, Text}
use Rattle.sqlite_value.specs.Order.{Row}
use Rattle.sql_calls.specs.Keyed.{IsHeldBy}
use Rattle.rollout_machine.specs.ByteStrings.{same_bytes}
use Rattle.rollout_machine.specs.Commands.{Bytes}
use Rattle.rollout_machine.specs.Kinds.{TargetOffer, offer_to}
use Rattle.rollout_model.specs.declared.rollout.Offer.{Offer}
use Rattle.desk_records.specs.Codes.{flag}

-- of what a target is offered: an action, to deploy or to cancel
abbrev pub offer_row : TargetOffer → Row
offer_row o = Text o.target ∷ Int (pos o.offer.action) ∷ Int (pos (flag o.offer.canceling)) ∷ []

abbrev pub is_to : Bytes → TargetOffer → Bool
is_to id o = same_bytes o.target id

-- the rows of each id are that of its offer, where it has one, in any order
pub record HoldsOffers (rows : List Row) (offers : Bytes → Option Offer) : Type 0 where
  pub listed : List TargetOffer
  pub held : IsHeldBy rows (map offer_row listed)
  pub its : (id : Bytes) → filter (is_to id) listed ≡ offer_to id (offers id)
