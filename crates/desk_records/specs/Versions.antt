-- The versions of a desk's schema: the number of each, and its tables.
use Rattle.std.specs.Prelude.{◌≡◌, ℕ, List, [], take, drop}
use Rattle.std.specs.List.{AllByRecursion}
use Rattle.rollout_machine.specs.GroupRules.{even_rules, rules_of}
use Rattle.rollout_machine.specs.Records.{Records}
use Rattle.rollout_machine.specs.declared.records.ActionRecord.{ActionRecord}
use Rattle.rollout_machine.specs.declared.records.RolloutRecord.{RolloutRecord}
use Rattle.desk_records.specs.FeedbackNumbers.{numbers_of}
use Rattle.desk_records.specs.Schema.{Place, places}
use Rattle.desk_records.specs.declared.version.Version.{Version}
use Rattle.desk_records.specs.declared.version.Version.TheVariants.{One, Two, Three}

-- the number in the row of `desk`
abbrev pub version_number : Version → ℕ
version_number One = 1
version_number Two = 2
version_number Three = 3

-- the one that the program writes
abbrev pub newest : Version
newest = Three

-- how many tables it has
abbrev pub table_count_of : Version → ℕ
table_count_of One = 15
table_count_of Two = 16
table_count_of Three = 17

-- its tables, in the order in which they are made
abbrev pub places_at : Version → List Place
places_at v = take (table_count_of v) places

-- those of later versions
abbrev pub later_than : Version → List Place
later_than v = drop (table_count_of v) places

-- the rollout's plan says nothing of single groups
abbrev pub IsEven : RolloutRecord → Type 0
IsEven x = rules_of x.plan ≡ even_rules x.plan

-- no feedback on the action bears a number
abbrev pub IsUnnumbered : ActionRecord → Type 0
IsUnnumbered a = numbers_of a ≡ []

-- the records have nothing that the version has no table or column for
abbrev pub IsTellable : Version → Records → Type 0
IsTellable One r = AllByRecursion IsEven r.rollouts × AllByRecursion IsUnnumbered r.actions
IsTellable Two r = AllByRecursion IsUnnumbered r.actions
IsTellable Three r = Unit {0}
