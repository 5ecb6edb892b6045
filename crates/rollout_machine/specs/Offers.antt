-- What a target is offered.
use Rattle.std.specs.Prelude.{ℕ, suc, ◌&&◌, cond, List, [], ◌∷◌, Option, Some, None, is_none}
use Rattle.rollout_machine.specs.Commands.{Bytes}
use Rattle.rollout_machine.specs.Records.{ActionRecord, Records}
use Rattle.rollout_machine.specs.StateWords.{is_for, has_started}
pub use Rattle.rollout_model.specs.declared.rollout.Offer.{Offer}

-- the first among these actions, numbered from k, that is the target's, started and open
abbrev pub first_offer : Records → Bytes → ℕ → List ActionRecord → Option Offer
first_offer rs t k [] = None
first_offer rs t k (a ∷ as') =
    let rest = first_offer rs t (suc k) as' in
    cond (is_none a.outcome && (is_for rs t a && has_started rs a)) (Some (record { action = k; canceling = a.canceling })) rest

abbrev pub offer : Records → Bytes → Option Offer
offer rs t = first_offer rs t 1 rs.actions
