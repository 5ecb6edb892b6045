use Rattle.desk_commands.proofs.Answering.{◌≡◌, ◌≤◌, ◌+◌, true, length, take, in_byte_order, keys_of, keys_after}
use Rattle.desk_commands.proofs.attributes.count_new.Given as goal

-- of the attributes before this index so many have a new key
abbrev pub invariant-loop-i : goal.invariant-loop-i
invariant-loop-i l = record {
  few : l.added ≤ l.i;
  all : in_byte_order (keys_of l.had) ≡ true → length l.had + l.added ≡ length (keys_after (take l.i l.given) l.had);
}
