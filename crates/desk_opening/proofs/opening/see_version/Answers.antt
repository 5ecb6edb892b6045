use Rattle.desk_opening.proofs.RowLemmas.{tells_none, tells_other, tells_seen}
use Rattle.desk_opening.proofs.opening.see_version.Goals as goal

pub returns-in-Ok-Some-clause-tells : goal.returns-in-Ok-Some-clause-tells
returns-in-Ok-Some-clause-tells g c = λ clean table. tells_seen _ _ _ _ _ c.judge_whole.result c.in-Ok-Some.field-0-is c.in-Ok-Some.ensures.takes
    c.schema.ensures c.judge_whole.ensures.tells clean table

pub returns-in-Ok-None-clause-tells : goal.returns-in-Ok-None-clause-tells
returns-in-Ok-None-clause-tells g c = λ clean table. tells_none _ _ _ c.in-Ok-None.field-0-is c.in-Ok-None.ensures.takes clean table

pub returns-in-Err-Broken-clause-tells : goal.returns-in-Err-Broken-clause-tells
returns-in-Err-Broken-clause-tells g c = λ clean table. tells_other _ _ _ c.in-Err-Broken.field-0-is c.in-Err-Broken.ensures.takes clean table
