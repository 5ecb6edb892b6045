-- What a target is offered next, by the rows of actions and groups.
use Rattle.std.specs.Prelude.{ℕ, suc, Bool, ◌&&◌, cond, nat_le, List, [], ◌∷◌, Option, Some, None}
use Rattle.std.specs.List.{list_any}
use Rattle.std.specs.Option.{is_none}
use Rattle.rollout_machine.specs.ByteStrings.{item_numbered, same_bytes}
use Rattle.rollout_machine.specs.Commands.{Bytes}
use Rattle.rollout_machine.specs.Groups.{holds_position}
use Rattle.rollout_machine.specs.Records.{Records}
use Rattle.rollout_machine.specs.declared.records.ActionRecord.{ActionRecord}
use Rattle.rollout_machine.specs.declared.records.GroupRecord.{GroupRecord}
use Rattle.rollout_machine.specs.declared.records.RolloutRecord.{RolloutRecord}
use Rattle.rollout_model.specs.declared.rollout.Offer.{Offer}
use Rattle.desk_records.specs.Actions.{actor_of}
use Rattle.desk_records.specs.Parts.{parts_of}

-- a started group that holds the place
abbrev pub starts_at : ℕ → GroupRecord → Bool
starts_at place g = holds_position place g.bounds && g.started

-- its rollout has one
abbrev pub any_starts : List RolloutRecord → ActionRecord → Bool
any_starts rollouts a = list_any (starts_at a.position) (parts_of (λ (x : RolloutRecord). x.groups) (item_numbered rollouts a.rollout))

-- the target's action, if it is open and such a group is there
abbrev pub is_next : List RolloutRecord → Bytes → ActionRecord → Bool
is_next rollouts id a = same_bytes (actor_of rollouts a) id && (is_none a.outcome && any_starts rollouts a)

-- the first of these, numbered from n, whose number is k or more, to be canceled where it is canceling
abbrev pub next_offer_from : List RolloutRecord → Bytes → ℕ → ℕ → List ActionRecord → Option Offer
next_offer_from rollouts id k n [] = None
next_offer_from rollouts id k n (a ∷ more) = cond (nat_le k n && is_next rollouts id a) (Some (record { action = n; canceling = a.canceling }))
    (next_offer_from rollouts id k (suc n) more)

abbrev pub next_offer : Records → Bytes → ℕ → Option Offer
next_offer r id k = next_offer_from r.rollouts id k 1 r.actions
