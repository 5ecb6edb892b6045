-- What says that the store failed, after which a desk is stopped.
use Rattle.std.specs.Prelude.{Bool, true, false}
use Rattle.rollout_machine.specs.Replies.{Reply, Refused}
use Rattle.rollout_model.specs.declared.refusal.Refusal.{Refusal}
use Rattle.rollout_model.specs.declared.refusal.Refusal.TheVariants.{StoreFailed}

abbrev pub is_store : Refusal → Bool
is_store StoreFailed = true
is_store _ = false

abbrev pub is_failed_store : Reply → Bool
is_failed_store (Refused refusal) = is_store refusal
is_failed_store _ = false
