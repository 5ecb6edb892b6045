-- What the order `verify` comes to, and what is told of it.
use Rattle.std.specs.Prelude.{◌≡◌, ℕ, Bool, List, ◌++◌, Option, Result, Ok, Err, IfErr, codes}
use Rattle.sqlite.specs.Store.{Ghosts}
use Rattle.desk_verify.specs.Names.{table_name}
use Rattle.desk_verify.specs.declared.damage.CheckedTable.{CheckedTable}
use Rattle.desk_verify.specs.declared.damage.Damage.{Damage}
use Rattle.desk_verify.specs.declared.damage.Damage.TheVariants.{Refused, Table}
use Rattle.rollout_desk.specs.Conduct.{BehavesVerifying}
use Rattle.rollout_desk.specs.DeskStates.{desk_state}
use Rattle.rollout_desk.specs.Verifying.{Judges, KeepsDesk, MayTell}
use Rattle.rollout_desk.specs.declared.desk.Desk.{Desk}
use Rattle.desk_server.specs.Telling.{Prints, Refuses}

-- the line of a table that doesn't agree
abbrev pub damage_line : CheckedTable → List ℕ
damage_line table = codes "damage " ++ table_name table ++ codes "\n"

-- the line of the table, and then the status is 1 however it is written; or why it wasn't found out
abbrev pub TellsDamage : Damage → Option (List ℕ) → Option (List ℕ) → Option (List ℕ) → Option (List ℕ) → Bool → Bool → Bool → ℕ → Type 0
TellsDamage (Table table) out out_new told told_new telling_fails failed_write writing_fails status =
    (printed : ℕ) × Prints (damage_line table) out out_new told told_new telling_fails failed_write writing_fails printed × (status ≡ 1)
TellsDamage (Refused refusal) out out_new told told_new telling_fails failed_write writing_fails status =
    Refuses refusal out out_new told told_new telling_fails failed_write writing_fails status

-- `ok`, or the damage
abbrev pub TellsFound : Result (Unit {0}) Damage → Option (List ℕ) → Option (List ℕ) → Option (List ℕ) → Option (List ℕ) → Bool → Bool → Bool → ℕ → Type 0
TellsFound (Ok done) out out_new told told_new telling_fails failed_write writing_fails status =
    Prints (codes "ok\n") out out_new told told_new telling_fails failed_write writing_fails status
TellsFound (Err damage) out out_new told told_new telling_fails failed_write writing_fails status =
    TellsDamage damage out out_new told told_new telling_fails failed_write writing_fails status

-- The desk looked whether its tables agree, and that is told. Nothing else keeps it from it than want of memory and a failed store, which has a
-- cause, and after which the desk is stopped, whatever it stood for. A stopped one refuses to look as stopped, and stays as it is.
pub record Verifies {S : Type 0} (g : Ghosts S) (old new : Desk S) (out out_new told told_new : Option (List ℕ))
    (telling_fails failed_write writing_fails : Bool) (status : ℕ) : Type 0 where
  pub found : Result (Unit {0}) Damage
  pub conduct : BehavesVerifying g old new found
  pub judges : Judges g old new found
  pub keeps : KeepsDesk g old new found
  pub refuses : IfErr found (MayTell (desk_state g old).is_stopped)
  pub tells : TellsFound found out out_new told told_new telling_fails failed_write writing_fails status
