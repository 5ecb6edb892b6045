use Rattle.rollout_desk.proofs.Common.{◌≡◌, ◌≤◌, length, map, take, vec_len, vec_capacity, request_of, reply_of, desk_state}
use Rattle.rollout_desk.proofs.RunLemmas.{NoneFailed, Ran}
use Rattle.rollout_desk.proofs.desk.Desk.run.Given as goal

-- the requests before this index were answered, and there is room for the replies to all
abbrev pub invariant-loop-request : goal.invariant-loop-request
invariant-loop-request g l = record {
  room : length l.requests ≤ vec_capacity l.replies;
  count : vec_len l.replies ≡ l.request-index;
  clean : (desk_state g.S.Store l.self).is_clean → (desk_state g.S.Store l.initial.self).is_clean;
  ran : Ran (desk_state g.S.Store l.initial.self) (desk_state g.S.Store l.self) (map request_of (take l.request-index l.requests))
      (map reply_of l.replies.items);
  none : NoneFailed l.replies.items;
}
