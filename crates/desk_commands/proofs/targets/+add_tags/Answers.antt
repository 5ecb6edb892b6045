use Rattle.desk_commands.proofs.Answering.{sym, ◌∙◌, makes_as, makes_nothing, makes_then, any_word, none_left}
use Rattle.desk_commands.proofs.TagLemmas.{adds_first, adds_none, front, has_first}
use Rattle.desk_commands.proofs.targets.+add_tags.Goals as goal

pub returns-in-empty-clause-writes : goal.returns-in-empty-clause-writes
returns-in-empty-clause-writes g t c =
    makes_nothing (λ r next h. adds_none c.args.id.now c.args.had.now r next (rw (none_left c.args.tags.now c.in-empty.len_below) at h))

pub returns-then-contains-clause-writes : goal.returns-then-contains-clause-writes
returns-then-contains-clause-writes g t c =
    makes_as (λ r next h. has_first _ _ _ _ (sym (any_word c.first-item.result c.args.had.now) ∙ sym c.contains.ensures.value ∙ c.if-contains.true) r next
    (rw (front c.args.tags.now c.first-item.result c.in-len1-up.len_at_least c.first-item.is) at h)) _ c.add_tags.ensures.writes

pub returns-in_ok-write_target_tag-in-len1-up-clause-writes : goal.returns-in_ok-write_target_tag-in-len1-up-clause-writes
returns-in_ok-write_target_tag-in-len1-up-clause-writes g t c =
    makes_then c.in_ok-write_target_tag-in-len1-up.ensures.writes
    (λ r next h. adds_first _ _ _ _ (sym (any_word c.first-item.result c.args.had.now) ∙ sym c.contains.ensures.value ∙ c.if-contains.false) r next
    (rw (front c.args.tags.now c.first-item.result c.in-len1-up.len_at_least c.first-item.is) at h)) _ c.add_tags-in-len1-up.ensures.writes
