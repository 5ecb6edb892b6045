use Rattle.desk_files.proofs.Common.{◌≡◌, map, take}
use Rattle.desk_files.proofs.tags_field.read_words.Given as goal

abbrev pub invariant-loop-part : goal.invariant-loop-part
invariant-loop-part l = l.words.items ≡ map (λ part. part.now) (take l.part-index l.parts)
