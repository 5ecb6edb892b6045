-- The counts of a line of a report.
use Rattle.std.specs.Prelude.{ℕ, ◌+◌, ◌-◌, ◌≤◌, List, ◌++◌, sum_by}
use Rattle.rollout_model.specs.declared.rollout.Group.{Group}
use Rattle.desk_files.specs.declared.counts.Counts.{Counts}
use Rattle.desk_files.specs.Columns.{right}

-- the members that have no outcome
abbrev pub undecided_in : Group → ℕ
undecided_in g = g.size - g.ok - g.bad - g.gone

abbrev pub counts_of : Group → Counts
counts_of g = record { size = g.size; ok = g.ok; bad = g.bad; gone = g.gone; undecided = undecided_in g }

-- the sums of the columns
abbrev pub total_counts : List Group → Counts
total_counts gs = record {
  size = sum_by (λ (g : Group). g.size) gs;
  ok = sum_by (λ (g : Group). g.ok) gs;
  bad = sum_by (λ (g : Group). g.bad) gs;
  gone = sum_by (λ (g : Group). g.gone) gs;
  undecided = sum_by undecided_in gs;
}

-- each on the right of 6 places
abbrev pub counts_text : Counts → List ℕ
counts_text c = right 6 c.size ++ right 6 c.ok ++ right 6 c.bad ++ right 6 c.gone ++ right 6 c.undecided

-- ---- how the sums are taken

abbrev pub counts_together : Counts → Counts → Counts
counts_together a b = record { size = a.size + b.size; ok = a.ok + b.ok; bad = a.bad + b.bad; gone = a.gone + b.gone; undecided = a.undecided + b.undecided }

-- no count is above the limit
pub record AreUpTo (limit : ℕ) (c : Counts) : Type 0 where
  pub size : c.size ≤ limit
  pub ok : c.ok ≤ limit
  pub bad : c.bad ≤ limit
  pub gone : c.gone ≤ limit
  pub undecided : c.undecided ≤ limit
