-- The report of a rollout, letter by letter.
use Rattle.std.specs.Prelude.{ℕ, List, ◌++◌, codes, decimal}
use Rattle.std.specs.List.{flat_map}
use Rattle.rollout_model.specs.StateTexts.{group_text, rollout_text}
use Rattle.rollout_model.specs.declared.rollout.Group.{Group}
use Rattle.rollout_model.specs.declared.rollout.Rollout.{Rollout}
use Rattle.rollout_model.specs.declared.rollout.RolloutReport.{RolloutReport}
use Rattle.desk_files.specs.Columns.{right}
use Rattle.desk_files.specs.Counts.{counts_of, counts_text, total_counts}

-- the first three lines
abbrev pub heading : Rollout → List ℕ
heading r = codes "rollout " ++ decimal r.number ++ codes " " ++ r.name ++ codes "\nstate " ++ rollout_text r.word
    ++ codes "\ngroup  size    ok   bad  gone  open state\n"

abbrev pub group_line : Group → List ℕ
group_line g = right 5 g.number ++ counts_text (counts_of g) ++ codes " " ++ group_text g.word ++ codes "\n"

abbrev pub report_lines : Rollout → List Group → List ℕ
report_lines r gs =
    heading r ++ flat_map group_line gs ++ codes "total" ++ counts_text (total_counts gs) ++ codes " " ++ rollout_text r.word ++ codes "\n"

abbrev pub report_text : RolloutReport → List ℕ
report_text report = report_lines report.rollout report.groups.items
