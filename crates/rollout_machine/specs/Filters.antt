-- Which targets a filter takes, by the words of target_filter.
use Rattle.std.specs.Prelude.{Bool}
use Rattle.rollout_machine.specs.Targets.{Target}
use Rattle.target_filter.specs.Grammar.{Tree}
use Rattle.target_filter.specs.Meaning.{holds}

-- a filter sees all of a target but its token's digest
abbrev pub matches : Tree → Target → Bool
matches tree t = holds tree (record { id = t.id; name = t.name; tags = t.tags; attributes = t.attributes })
