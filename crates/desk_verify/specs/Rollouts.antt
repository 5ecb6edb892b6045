-- Rollouts that are there.
use Rattle.std.specs.Prelude.{ℕ}
use Rattle.desk_records.specs.Listings.{HasNumber}
use Rattle.desk_records.specs.Schema.{Rollouts}
use Rattle.desk_records.specs.Tables.{Tables}

abbrev pub IsThere : Tables → ℕ → Type 0
IsThere t rollout = HasNumber (t Rollouts) rollout
