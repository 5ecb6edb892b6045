use Rattle.desk_files.proofs.Common.{[]}
use Rattle.desk_files.proofs.FieldFacts.{more_words, no_words}
use Rattle.desk_files.proofs.tags_field.read_words.Goals as goal

pub returns-in_default : goal.returns-in_default
returns-in_default c = no_words c.args.parts.now c.loop-part.part-index (record { ref_ptr = (0, 0); now = [] }) c.read_word.result c.loop-part-test.true
    c.read_word.ensures c.in_default.is

pub loop-part-preserved : goal.loop-part-preserved
loop-part-preserved c =
    rw c.in_ok-push.ensures.items (more_words c.args.parts.now c.loop-part.part-index (record { ref_ptr = (0, 0); now = [] }) c.loop-part.words.items
    c.in-Some.word c.loop-part-test.true c.in-Some.ensures c.loop-part.invariant)
