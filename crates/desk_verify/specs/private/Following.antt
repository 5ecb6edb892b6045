-- Places without a gap.
use Rattle.std.specs.Prelude.{ℕ, ◌+◌, Bool, true, ◌&&◌, nat_le, nat_lt, List, [], ◌∷◌}
use Rattle.desk_records.specs.declared.member_row.PlacedMember.{PlacedMember}

-- each place is from 1 on and at most one more than the one before
abbrev pub follow : ℕ → List PlacedMember → Bool
follow last [] = true
follow last (m ∷ members) = nat_lt 0 m.place && (nat_le m.place (last + 1) && follow m.place members)
