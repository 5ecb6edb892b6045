-- The table of members agrees where records of accepted commands are held.
use Rattle.desk_verify.proofs.Common.{◌≡◌, ◌⊎◌, inl, inr, ◌<◌, ℕ, zero, suc, ◌+◌, length, slice_get, Some, refl, arith, Null, ◌∷◌}
use Rattle.desk_verify.proofs.Common.{CommandList, records, IsValid, RolloutRecord, ledger_of, member_row, rollout_row, told_rollout, IsHeld, Members, Place}
use Rattle.desk_verify.proofs.Common.{Rollouts, Tables, at_place, place_within, has_own_number, AgreesMembers, HasPlace, Bytes, List}
use Rattle.desk_verify.proofs.HeldRows.{item_lies, part_lies, part_of}
use Rattle.desk_verify.proofs.RecordRows.{is_member}

abbrev pub members_in : RolloutRecord → List Bytes
members_in x = x.members

module _ (h : CommandList) (valid : IsValid h) (t : Tables) (held : (p : Place) → IsHeld (ledger_of (records h)) p (t p)) where
  follows : (d : ℕ) {x : RolloutRecord} → slice_get (records h).rollouts d ≡ Some x → (k : ℕ) → k < length x.members
      → (suc k ≡ 1) ⊎ ((before : ℕ) × (suc k ≡ before + 1) × HasPlace t (suc d) before)
  follows d got zero few = inl refl
  follows d {x} got (suc k) few =
      let other = at_place x.members k (omega (arith, few)) in
      let row = part_lies member_row members_in (records h).rollouts (held Members) d k x other.0 got other.1 in
      inr (suc k, omega arith, grind (arith, row.1, is_member h valid d got row.0 k other.1))

  pub members_agree : AgreesMembers t
  members_agree row among = let it = part_of member_row members_in (records h).rollouts (held Members) row among in
      let lies = item_lies rollout_row (records h).rollouts (held Rollouts) it.d it.whole it.got in
      let own = has_own_number (suc it.d) (Null ∷ told_rollout it.whole) in
      let follow = follows it.d it.got it.k (place_within it.whole.members it.k it.one it.lies) in
      grind (arith, is_member h valid it.d it.got it.n it.k it.lies, lies, own, follow)
