use Rattle.sql_front.proofs.Common.{◌≡◌, Some, sym, subst, table_named}
use Rattle.sql_front.proofs.Found.{stands_by, stands_first}
use Rattle.sql_front.proofs.standing.stands.Goals as goal

pub returns-clause-found : goal.returns-clause-found
returns-clause-found c = λ yes.
    let first = c.is_first.ensures.first yes in
    let named = subst (λ n. table_named c.args.schema.now n ≡ Some c.in-Some.at) c.as_slice.ensures (sym c.in-Some.ensures) in
    stands_by c.args.schema.now c.args.table.now c.in-Some-get.named.now first.0 c.in-Some.at named (sym c.in-Some-get.ensures.value) first.1
    (c.is_first.ensures.same yes) first.2 (c.is_first.ensures.stored yes) (c.is_first.ensures.keyless yes)

pub returns-clause-missing : goal.returns-clause-missing
returns-clause-missing c = λ no bare it.
    let named = subst (λ n. table_named c.args.schema.now n ≡ Some c.in-Some.at) c.as_slice.ensures (sym c.in-Some.ensures) in
    let first = stands_first c.args.schema.now c.args.table.now c.in-Some-get.named.now c.in-Some.at named (sym c.in-Some-get.ensures.value) it in
    c.is_first.ensures.missing no bare first.0 first.1 first.2 first.3
