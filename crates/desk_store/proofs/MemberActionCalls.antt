-- The write of a rollout's actions.
use Rattle.desk_store.proofs.Common.{refl, KnowsWrite, PUT_ACTIONS, HoldsLedger, Actions, Members}
use Rattle.desk_records.proofs.MemberActionsMeaning.{put_actions_command, put_actions_is}

abbrev pub knows_put_actions : KnowsWrite HoldsLedger PUT_ACTIONS.now
knows_put_actions = record {
  knows = λ db l holds. record {
    command = put_actions_command (holds.spot Actions).at (holds.spot Members).tree;
    means = put_actions_is db.schema (holds.spot Actions).at (holds.spot Actions).tree (holds.spot Members).at (holds.spot Members).tree
        (holds.stands Actions) (holds.stands Members);
  };
  rows = λ db l holds. refl;
}
