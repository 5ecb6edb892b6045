-- Files that hold nothing are opened to empty trees.
use Rattle.desk_opening.proofs.Common.{◌≡◌, ◌≤◌, ◌<◌, ◌-◌, ◌*◌, ℕ, List, [], ◌∷◌, ◌++◌, codes, min, true, false, length, take, slice_index, Option, Some}
use Rattle.desk_opening.proofs.Common.{unwrap_or, inl, inr, refl, sym, ap, ◌∙◌, zero-add, arith, get_or-take, length-take, ∥∥₁_elim, Schema, Trees}
use Rattle.desk_opening.proofs.Common.{Image, AreFoundIn, IsNothing, stored_size, used_size, LeavesFree, is_used, UsesNoName}
use Rattle.sqlite_trees.specs.Objects.{catalog_tree}
use Rattle.sqlite_wal.specs.Format.{part}
use Rattle.sqlite_wal.specs.Recovery.{Pages, pages_after}
use Rattle.sqlite_wal.proofs.PartLemmas.{slice_index-part, part_within}
use Rattle.sqlite_wal.proofs.RecoveryLemmas.{replays_once}
use Rattle.sqlite_wal.proofs.AppendLemmas.{some_value, page_from_pages}
use Rattle.sqlite_pool.specs.Stored.{Adopts}
use Rattle.sqlite_pool.specs.StoredLaws.{trimmed_some}
use Rattle.sqlite_pool.specs.File.{header_in, IsSoundFile}
use Rattle.sqlite_pool.specs.Opening.{IsBlankFile}
use Rattle.sqlite_pool.proofs.ProbeLemmas.{first_byte}
use Rattle.sqlite_keyed.proofs.ListLemmas.{all_of}

shorter : (n m size : ℕ) (xs wanted : List ℕ) → take n (take m (take size xs)) ≡ wanted → length wanted ≡ n → n ≤ size
shorter n m size xs wanted is len = grind (arith, min, length-take)

-- ---- files that recover to a sound file are not blank

module _ (size : ℕ) (image : Image) (pages : Pages) (found : Adopts size image pages) (sound : IsSoundFile size pages) where
  -- with no frame to replay, the first byte of the file is the one that names a database
  first_is : found.found.frames ≡ 0 → (stored_size size ≤ length image.db) × (16 ≤ size) × (slice_index image.db 0 ≡ 83)
  first_is none =
      let whole = stored_size size in
      let raw = found.found in
      let (page, is) = some_value (found.stored 1) found.whole.first in
      let alone : pages_after whole image.log image.db 0 1 ≡ Some page =
      ap (λ (p : Pages). p 1) (ap (pages_after whole image.log image.db) (sym none) ∙ raw.gives) ∙ is in
      let start : (1 - 1) * whole ≡ 0 = omega arith in
      let front : part image.db 0 whole ≡ page = ap (λ (at : ℕ). part image.db at whole) (sym start)
      ∙ (page_from_pages whole image.log image.db 0 1 page alone).0 in
      let used : pages 1 ≡ Some (take size page) = ap (λ (p : Pages). p 1) (sym found.shows) ∙ trimmed_some size _ 1 page is in
      let head : header_in pages ≡ take 100 (take size (part image.db 0 whole)) = ap (λ (o : Option (List ℕ)). take 100 (unwrap_or o [])) used
      ∙ ap (λ (b : List ℕ). take 100 (take size b)) (sym front) in
      let named : take 16 (take 100 (take size (part image.db 0 whole))) ≡ codes "SQLite format 3" ++ 0 ∷ [] = ap (take 16) (sym head) ∙ sound.header.0.magic in
      let long : 16 ≤ size = shorter 16 100 size (part image.db 0 whole) (codes "SQLite format 3" ++ 0 ∷ []) named (omega arith) in
      let long' = part_within image.db 0 whole (omega (arith, long)) (ap length front ∙ found.whole.sized 1 page is) in (
        omega (arith, long'),
        long,
        sym (ap (slice_index image.db) (zero-add 0)) ∙ sym (slice_index-part image.db 0 whole 0 (omega (arith, long)))
            ∙ sym (get_or-take size (part image.db 0 whole) 0 0 (omega (arith, long)))
            ∙ sym (get_or-take 100 (take size (part image.db 0 whole)) 0 0 (omega arith))
            ∙ sym (get_or-take 16 (take 100 (take size (part image.db 0 whole))) 0 0 (omega arith)) ∙ ap (λ (b : List ℕ). slice_index b 0) named,
      )

  never_blank : (other : ℕ) → 0 < other → ¬ IsBlankFile other image
  never_blank other some (inl none) = omega (arith, found.found.present)
  never_blank other some (inr blank) =
      let raw = found.found in
      let none : raw.frames ≡ 0 = elim blank.0 [
        | inl ignored ↦ replays_once (stored_size size) image.log raw.frames 0 raw.replays (inl (ignored.0, refl))
        | inr taken ↦ elim raw.replays [
          | inl ignored ↦ ignored.1
          | inr ours ↦ replays_once (stored_size size) image.log raw.frames 0 raw.replays (rw (sym ours.0.head.size ∙ taken.0.head.size) blank.0)
        ]
      ] in
      let (long, large, magic) = first_is none in
      elim blank.1.0 [
        | inl short ↦ omega (arith, short, long, large)
        | inr more ↦ elim more [ inl zero' ↦ omega (arith, zero'.1, magic) | inr rest ↦ rest.1 (magic ∙ sym (first_byte other some)) ]
      ]

  pub not_nothing : ¬ IsNothing image
  not_nothing (inl plain) = never_blank (used_size 4096 false) (omega arith) plain
  not_nothing (inr summed) = never_blank (used_size 4096 true) (omega arith) summed

-- ---- empty trees list no table

-- a schema of nothing leaves all names free
pub nothing_is_used : (s : Schema) → s.tables ≡ [] → s.indexes ≡ [] → s.views ≡ [] → (names : List (List ℕ)) → LeavesFree s names
nothing_is_used s tables indexes views = all_of (λ name. is_used s name ≡ false) (λ name. rw (tables, indexes, views) refl)

pub empty_is_unused : (db : Trees) → db catalog_tree ≡ [] → UsesNoName db
empty_is_unused db none s sound = grind (arith, nothing_is_used)

pub nothing_is_unused : (image : Image) (db : Trees) → IsNothing image → AreFoundIn image db → UsesNoName db
nothing_is_unused image db nothing (inl found) =
    absurd (∥∥₁_elim found.4 (λ x. absurd x) (λ ours. not_nothing found.0 image found.1 found.3 ours.file.sound nothing))
nothing_is_unused image db nothing (inr found) = empty_is_unused db found.1.1
