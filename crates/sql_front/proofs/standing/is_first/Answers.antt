use Rattle.sql_front.proofs.Common.{◌≡◌, ◌==◌, Some, find, sym, subst}
use Rattle.sql_front.proofs.standing.is_first.Goals as goal

pub returns-clause-first : goal.returns-clause-first
returns-clause-first c = λ yes. (
  c.in-Some.first.now,
  subst (λ ts. find (λ t. t.tree == c.args.named.now.tree) ts ≡ Some c.in-Some.first.now) c.as_slice.ensures (sym c.in-Some.ensures),
  c.same_table-2.ensures.same yes,
)
