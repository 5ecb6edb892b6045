use Rattle.http_wire.proofs.Common.{◌≡◌, ℕ, ◌+◌, ◌<◌, ◌≤◌, List, [], ◌∷◌, ◌++◌, length, arith, rules, length-append, WireMessage, IsMessage, Begins, message_of}
use Rattle.http_wire.proofs.MessageLemmas.{begins_push, message_shorter, undecided_yet}
use Rattle.http_wire.proofs.stream.reading_of.Goals as goal

-- one more message, and how many there are
record Step (stream after : List ℕ) (count total : ℕ) : Type 0 where
  pub so_far : (ms : List WireMessage) × Begins stream ms after × (count ≡ length ms)
  pub few : count + length after ≤ total

step : (stream rest after : List ℕ) (m : WireMessage) (count total : ℕ) → Step stream rest count total → IsMessage rest m after
    → Step stream after (count + 1) total
step stream rest after m count total before message =
    let ms = before.so_far.0 in record {
      so_far = (ms ++ m ∷ [], begins_push stream ms rest after m before.so_far.1 message, omega (arith, before.so_far.2, length-append ms (m ∷ [])));
      few = omega (arith, before.few, message_shorter rest m after message);
    }

pub loop-rest-preserved : goal.loop-rest-preserved
loop-rest-preserved c =
    let at : IsMessage c.loop-rest.rest.now (message_of c.in-Ok.field-0-0) c.split_at.result.1.now = rw (← c.split_at.ensures.back) at c.in-Ok.ensures.1 in
    let before : Step c.args.stream.now c.loop-rest.rest.now c.loop-rest.messages (length c.args.stream.now) =
    record { so_far = c.loop-rest.invariant.so_far; few = c.loop-rest.invariant.few } in
    let after = step _ _ _ _ _ _ before at in
    record { so_far = after.so_far; few = after.few }

pub returns-in-Err-Wants : goal.returns-in-Err-Wants
returns-in-Err-Wants c =
    let is_left : 0 < length c.loop-rest.rest.now = search rules in
    let first = rw c.in-Err-Wants.field-0-is at c.in-Err-Wants.ensures in
    let undecided = undecided_yet _ _ first.1 first.0 in
    (c.loop-rest.invariant.so_far.0, (c.loop-rest.rest.now, c.loop-rest.invariant.so_far.1, (is_left, undecided)), c.loop-rest.invariant.so_far.2)
