-- Reasons, names and statuses of replies are short, and every refusal has a status code.
use Rattle.http_wire.proofs.Common.{ℕ, ◌≤◌, ◌<◌, Bool, List, [], Option, Some, None, length, arith, if◌then◌else◌, unwrap_or}
use Rattle.http.specs.StatusCode.{IsStatusCode, reason_phrase}
use Rattle.rollout_model.specs.declared.Refusal.{Refusal}
use Rattle.rollout_model.specs.Refusals.{refusal_row}
use Rattle.http_wire.specs.Replies.{reason}

IsShort : Option (List ℕ) → Type 0
IsShort phrase = length (unwrap_or phrase []) ≤ 31

short_text : (text : List ℕ) → length text ≤ 31 → IsShort (Some text)
unfolding IsShort
short_text text h = h

short_none : IsShort None
unfolding IsShort
short_none = omega arith

short_if : (b : Bool) (one other : Option (List ℕ)) → IsShort one → IsShort other → IsShort (if b then one else other)
short_if b one other h g = grind arith

all_short : (status : ℕ) → IsShort (reason_phrase status)
all_short status = grind (arith, short_if, short_text, short_none)

-- each reason phrase of the table
pub reason_short : (status : ℕ) → length (reason status) ≤ 31
unfolding reason IsShort
reason_short status = all_short status

abbrev HasGoodRow : Refusal → Type 0
HasGoodRow refusal = (length (refusal_row refusal).name ≤ 15) × IsStatusCode (refusal_row refusal).status × ((refusal_row refusal).number < 100)

-- each row of the table of refusals
pub good_row : (refusal : Refusal) → HasGoodRow refusal
good_row refusal = grind arith
