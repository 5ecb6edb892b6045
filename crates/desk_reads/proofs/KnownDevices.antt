-- Whether a device is known, by the target of its id.
use Rattle.desk_reads.proofs.Common.{arith, ◌≡◌, Bool, true, false, ◌&&◌, nat_eq, List, [], ◌∷◌, find, Some, None, refl, ◌∙◌, or_parts}
use Rattle.desk_reads.proofs.Common.{and_parts, option_map, sorted_from, has_id, are_sorted, ids_of, in_byte_order, IsSorted, not_above, contains_word}
use Rattle.desk_reads.proofs.Common.{same_bytes, Records, Target, is_known, target_of, pointwise, list_any, same_pointwise, same_sym, same_true, Credential}
use Rattle.desk_records.specs.TargetRow.{stored_target}
use Rattle.desk_records.specs.declared.target_row.StoredTarget.{StoredTarget}

-- ---- the device

-- its id and its token's digest are those of the target
abbrev is_of : Credential → Target → Bool
is_of device x = same_bytes x.id device.id && same_bytes x.digest device.digest

module _ (device : Credential) where
  none_known : (ts : List Target) → contains_word device.id (ids_of ts) ≡ false → list_any (is_of device) ts ≡ false
  none_known [] none = refl
  none_known (t ∷ ts) none = grind (arith, none_known ts, or_parts, same_sym)

  pub known_by : (stored : StoredTarget) (r : Records) → are_sorted r.targets ≡ true → Some stored ≡ option_map stored_target (target_of r device.id)
      → pointwise nat_eq stored.digest device.digest ≡ is_known r device
  known_by stored r sorted read = same_pointwise stored.digest device.digest
      ∙ go r.targets (sorted_from (ids_of r.targets) (and_parts (in_byte_order (ids_of r.targets)) _ sorted).0) read where
        go : (ts : List Target) → IsSorted (ids_of ts) → Some stored ≡ option_map stored_target (find (has_id device.id) ts)
            → same_bytes stored.digest device.digest ≡ list_any (is_of device) ts
        go [] order is = absurd cc
        go (t ∷ ts) order is = grind (arith, go ts order.1, option_map, none_known ts, same_true t.id device.id, not_above t.id (ids_of ts) order.0)

  none_there : (ts : List Target) → None ≡ option_map stored_target (find (has_id device.id) ts) → false ≡ list_any (is_of device) ts
  none_there [] is = refl
  none_there (t ∷ ts) is = grind (arith, none_there ts, option_map)

  pub unknown : (r : Records) → None ≡ option_map stored_target (target_of r device.id) → false ≡ is_known r device
  unknown r read = none_there r.targets read
