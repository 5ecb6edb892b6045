-- Targets as they are read, matched and shown.
use Rattle.std.specs.Prelude.{◌≡◌, ◌-◌, List, filter, length, map, slice_get}
use Rattle.std.specs.Option.{IsSomeAnd}
use Rattle.rollout_machine.specs.Commands.{Bytes}
use Rattle.rollout_machine.specs.Filters.{matches}
use Rattle.rollout_machine.specs.Objects.{page_of, target_shown}
use Rattle.rollout_machine.specs.Records.{Records}
use Rattle.rollout_machine.specs.Replies.{ShownTarget as TargetShown}
use Rattle.rollout_machine.specs.Requests.{Page}
use Rattle.rollout_machine.specs.StateWords.{target_word}
use Rattle.rollout_machine.specs.Views.{shown_target}
use Rattle.rollout_model.specs.declared.shown_target.ShownTarget.{ShownTarget}
use Rattle.rollout_model.specs.declared.target.Target.{Target}
use Rattle.target_filter.specs.Grammar.{Tree}

-- as it is shown, with the word that its actions say
abbrev pub worded : Records → Target → ShownTarget
worded r t = record { id = t.id; name = t.name; tags = t.tags; attributes = t.attributes; word = target_word r t.id }

-- the targets that match, as they are shown
abbrev pub matching_shown : Records → Tree → List TargetShown
matching_shown r f = map (target_shown r) (filter (matches f) r.targets)

-- these targets are those on the page of all
abbrev pub IsContentOf : Page → Records → List ShownTarget → Type 0
IsContentOf page r items = map shown_target items ≡ (page_of page (map (target_shown r) r.targets)).content

-- the first and the last of these ids
pub record AreEnds (ids : List Bytes) (first last : Bytes) : Type 0 where
  pub starts : IsSomeAnd (slice_get ids 0) (λ id. first ≡ id)
  pub ends : IsSomeAnd (slice_get ids (length ids - 1)) (λ id. last ≡ id)
