use Rattle.desk_commands.proofs.Answering.{sym, ◌∙◌, refl, makes_as, makes_nothing, makes_then, any_word, none_left, untagged, with_changed}
use Rattle.desk_commands.proofs.Answering.{change_twice, no_change}
use Rattle.desk_commands.proofs.TagLemmas.{front}
use Rattle.desk_commands.proofs.targets.+drop_tags.Goals as goal

pub returns-in-empty-clause-writes : goal.returns-in-empty-clause-writes
returns-in-empty-clause-writes g t c = makes_nothing (λ r next h. rw (none_left c.args.had.now c.in-empty.len_below) at h ∙ no_change r c.args.id.now)

pub returns-then-contains-clause-writes : goal.returns-then-contains-clause-writes
returns-then-contains-clause-writes g t c =
    let is = sym (any_word c.first-item.result c.args.wanted.now) ∙ sym c.contains.ensures.value ∙ c.if-contains.true in
    makes_as (λ r next h. rw (front c.args.had.now c.first-item.result c.in-len1-up.len_at_least c.first-item.is, is) at h) _ c.drop_tags.ensures.writes

pub returns-in_ok-drop_target_tag-in-len1-up-clause-writes : goal.returns-in_ok-drop_target_tag-in-len1-up-clause-writes
returns-in_ok-drop_target_tag-in-len1-up-clause-writes g t c =
    let id = c.args.id.now in
    let w = c.first-item.result in
    let is = sym (any_word w c.args.wanted.now) ∙ sym c.contains.ensures.value ∙ c.if-contains.false in
    makes_then c.in_ok-drop_target_tag-in-len1-up.ensures.writes
    (λ r next h. (
      with_changed r id (untagged w),
      refl,
      rw (front c.args.had.now w c.in-len1-up.len_at_least c.first-item.is, is) at h ∙ sym (change_twice r id (untagged w) (λ t. refl) _),
    )) _ c.drop_tags-in-len1-up.ensures.writes
