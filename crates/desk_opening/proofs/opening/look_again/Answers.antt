use Rattle.desk_opening.proofs.opening.look_again.Goals as goal

pub returns-then-branch-clause-found : goal.returns-then-branch-clause-found
returns-then-branch-clause-found c = c.in_ok-has_tables_of.ensures.found c.if-branch.true
