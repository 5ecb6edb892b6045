use Rattle.desk_opening.proofs.Common.{◌≢◌, Store, table_at, ◌∙◌, ap, sym, subst, IsBareTable, StandsSomewhere, place_of}
use Rattle.sqlite.specs.Compile.{table_defined_by}
use Rattle.desk_opening.proofs.CountLemmas.{passed_on}
use Rattle.desk_opening.proofs.Places.{is_place}
use Rattle.desk_opening.proofs.Tables.{defined_as}
use Rattle.desk_opening.proofs.opening.has_table.Goals as goal

pub returns-clause-found : goal.returns-clause-found
returns-clause-found c = λ yes. subst (StandsSomewhere c.args.schema.now) (defined_as (place_of c.args.table) c.in_ok-wanted.wanted
    (ap table_defined_by (sym c.create_text.ensures) ∙ c.in_ok-wanted.ensures.defined)) (c.stands.ensures.found yes)

pub returns-clause-missing : goal.returns-clause-missing
returns-clause-missing c = λ no it.
    let same = defined_as (place_of c.args.table) c.in_ok-wanted.wanted (ap table_defined_by (sym c.create_text.ensures) ∙ c.in_ok-wanted.ensures.defined) in
    c.stands.ensures.missing no (subst IsBareTable (sym same) (is_place (place_of c.args.table)).bare) (subst (StandsSomewhere c.args.schema.now) (sym same) it)

pub returns-in_err-wanted-clause-memory : goal.returns-in_err-wanted-clause-memory
returns-in_err-wanted-clause-memory c = passed_on (λ e. e ≢ Store) c.in_err-wanted.field-0.0
    (c.in_err-wanted.ensures.memory (table_at (place_of c.args.table) 0)
    (ap table_defined_by c.create_text.ensures ∙ (is_place (place_of c.args.table)).defined)) c.from_residual.result c.from_residual.ensures.1
