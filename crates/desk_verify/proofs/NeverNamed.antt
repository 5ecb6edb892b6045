-- A desk that holds the records of accepted commands is never told of a table.
use Rattle.desk_verify.proofs.Common.{Option, Some, None, Result, Ok, Err, refl, arith, AllByRecursion, State, all_has, has_right, Fault, Finds, records}
use Rattle.desk_verify.proofs.Common.{ledger_of, HoldsTables, Tables, are_tables, held_rows, rows_of, Agrees, IsDamage, NamesFirst, checked}
use Rattle.desk_verify.specs.Promises.{NamesNone, RecordsAgree}
use Rattle.desk_verify.specs.declared.damage.CheckedTable.{CheckedTable}
use Rattle.desk_verify.proofs.ActionLaw.{actions_agree}
use Rattle.desk_verify.proofs.ArtifactLaw.{artifacts_agree}
use Rattle.desk_verify.proofs.GroupLaw.{groups_agree}
use Rattle.desk_verify.proofs.MemberLaw.{members_agree}
use Rattle.desk_verify.proofs.OfferLaw.{offers_agree}

-- each table that has a rule, in the order of the tables
pub all_agree : RecordsAgree
all_agree h valid db t held holds = let rows = held_rows db (ledger_of (records h)) held t holds in (
  artifacts_agree h valid db t held holds,
  (members_agree h valid t rows, (groups_agree h valid t rows, (actions_agree h valid t rows, (offers_agree h valid t rows, tt)))),
)

named_agrees : (t : Tables) (table : CheckedTable) → NamesFirst t table → AllByRecursion (Agrees t) checked → ⊥
named_agrees t table named agree = grind (arith, all_has, has_right)

pub never_named : (old new : State) (result : Result (Option CheckedTable) Fault) → Finds HoldsTables (λ (t : Tables). t) old new result IsDamage
    → NamesNone old new result
never_named old new (Err e) read h valid sees clean = tt
never_named old new (Ok None) read h valid sees clean = refl
never_named old new (Ok (Some table)) read h valid sees clean =
    let it = sees.sees (omega (arith, clean, read.wears)) in
    let t = rows_of old.now (ledger_of (records h)) it.now_holds in
    let tables = are_tables old.now (ledger_of (records h)) it.now_holds in
    let answer : IsDamage t (Some table) = (read.finds t (record { sees = λ was. record { mode = it.mode; is_open = it.is_open; now_holds = tables } })).1
    clean in
    absurd (named_agrees t table answer (all_agree h valid old.now t it.now_holds tables))
