-- The command list of a desk.
use Rattle.std.specs.Prelude.{Bool, List, [], ◌∷◌}
use Rattle.rollout_machine.specs.Commands.{Command}

-- How the desk was made, and then its commands, the newest outermost. So each prefix of a list is a part of it,
-- `p` of `p ▸ c` is the list without its last command, and `h ▸ c` is `h` followed by `c`.
infixl 12 ◌▸◌
pub data CommandList : Type 0 where
  Make : (approval : Bool) → CommandList
  ◌▸◌ : CommandList → Command → CommandList

-- h followed by these commands, the oldest first
abbrev pub followed_by : CommandList → List Command → CommandList
followed_by h [] = h
followed_by h (c ∷ cs) = followed_by (h ▸ c) cs
