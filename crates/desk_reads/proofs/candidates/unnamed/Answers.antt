use Rattle.desk_reads.proofs.Common.{◌≡◌, [], ◌∷◌, true, refl, ◌∙◌}
use Rattle.std.proofs.lemmas.Str.{is_utf8-from_IsUtf8}
use Rattle.std.specs.Str.{is_utf8}
use Rattle.rollout_model.proofs.RuleLemmas.{spelled_is_utf8}
use Rattle.desk_reads.proofs.ListedTargets.{all_given}
use Rattle.desk_reads.proofs.candidates.unnamed.Goals as goal

-- a hyphen is a text
pub unwrap-requires : goal.unwrap-requires
unwrap-requires c =
    let hyphen : is_utf8 (45 ∷ []) ≡ true = is_utf8-from_IsUtf8 (45 ∷ []) (spelled_is_utf8 1 64 (45 ∷ []) refl) in
    rw (c.in_ok-name.ensures, hyphen) refl

pub returns-clause-ok : goal.returns-clause-ok
returns-clause-ok c =
    c.loop-id.invariant
    ∙ all_given c.into_iter-id-iterator.result _ c.next.new.self _ _ c.into_iter-id-iterator.ensures.into_iter_gives.0 c.loop-id.yielded_by
    c.in-None.ensures.steps
