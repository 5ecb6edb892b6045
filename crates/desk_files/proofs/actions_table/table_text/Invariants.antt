use Rattle.desk_files.proofs.Common.{◌≡◌, string_bytes, take}
use Rattle.desk_files.specs.ActionTables.{table_text}
use Rattle.desk_files.proofs.actions_table.table_text.Given as goal

abbrev pub invariant-loop-action : goal.invariant-loop-action
invariant-loop-action l = string_bytes l.text ≡ table_text (take l.action-index l.actions)
