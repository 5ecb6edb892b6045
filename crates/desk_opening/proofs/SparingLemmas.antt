-- What files keep that were not opened.
use Rattle.desk_opening.proofs.Common.{◌≡◌, ◌≢◌, ◌⊎◌, ◌≤◌, inl, inr, ℕ, Bool, false, List, [], ◌∷◌, if◌then◌else◌, sym}
use Rattle.desk_opening.proofs.Common.{subst, ◌∙◌, IsTrue, arith, cases_eq, cases_Bool, ∥∥₁_map, ∥∥₁_elim, Image, Trees, is_summed, reserved, stored_size}
use Rattle.desk_opening.proofs.Common.{StandsAs, store_error, outcomes, Leftover, HoldsDatabase, FailsToOpenFiles, NamesSize, SaysSums}
use Rattle.desk_opening.proofs.Common.{LeavesFiles, image_of, HoldIn, HoldsAt, OpenFault, NotDesk, NewerVersion, Store, IsFailure}
use Rattle.desk_opening.proofs.Common.{HoldsPlain, HoldsNone, HoldsDeskAt, HoldsWhatWas, UsesNoName, EachAfter, IsForeign, Spares}
use Rattle.sqlite_disk.specs.declared.Disk as disk
use Rattle.sqlite_disk.specs.Disk.{MoreFaults}
use Rattle.sqlite_disk.specs.declared.Files.{Files}
use Rattle.sqlite_disk.specs.declared.modelled.Modelled.{Modelled}
use Rattle.sqlite_disk.specs.declared.calls.Calls as calls
use Rattle.sqlite_disk.specs.declared.start.Start as start_ghosts
use Rattle.sqlite_disk.specs.Events.{settled, replay}
use Rattle.sqlite_disk.specs.History.{MayLeave}
use Rattle.sqlite_disk.specs.Modelled.{start_of}
use Rattle.sqlite_pool.proofs.ProbeLemmas.{size_by_log, size_by_file, reserved_word}
use Rattle.sqlite_trees.specs.declared.error.StoreError.{StoreError}
use Rattle.sqlite_wal.specs.Recovery.{IsIgnored, Recovers}
use Rattle.sqlite.specs.declared.error.Error.{Error}
use Rattle.sqlite.specs.declared.error.Error.TheVariants.{SqliteFailure}
use Rattle.sqlite.specs.declared.error.ErrorCode.TheVariants as code
use Rattle.sqlite.specs.declared.file.Leftover.TheVariants as left
use Rattle.sqlite.specs.Files.{IsFullLeft, faults_left}
use Rattle.sqlite.proofs.FileLemmas.{is_something}
use Rattle.desk_opening.proofs.BlankLemmas.{nothing_is_unused, empty_is_unused}
use Rattle.desk_opening.proofs.ReopenLemmas.{found_records, found_none}

-- the size that the files name is the one that the database has
module _ (image : Image) (db : Trees) (it : HoldsPlain image db) where
  whole : HoldsDatabase image db
  whole = (it.size, it.valid, it.held)

  none : reserved it.size ≡ 0
  none = grind (arith, it.plain)

  large : 504 ≤ it.size
  large = omega (arith, it.valid.0, none)

  module _ (n : ℕ) (names : NamesSize image (stored_size n)) (says : IsTrue (is_summed n) → SaysSums (stored_size n) image) where
    same_stored : stored_size it.size ≡ stored_size n
    same_stored = elim (cases_eq (stored_size it.size) (stored_size n)) [
      | inl same ↦ same
      | inr other ↦
          let by_log = λ (seen : ¬ IsIgnored image.log). other (sym (size_by_log it.size image it.held.pages it.held.found seen) ∙ sym (names.0 seen)) in
          absurd (by_log (λ ignored. other (sym (size_by_file it.size image it.held.pages it.held.found large it.held.ours.file.sound ignored)
          ∙ sym (names.1 ignored))))
    ]

    unsummed : is_summed n ≡ false
    unsummed = elim (cases_Bool (is_summed n)) [
      | inl summed ↦
          let (first, is, len, word, magic) = reserved_word it.size image it.held.pages it.held.found large it.held.ours.file.sound in
          let found = subst (λ (m : ℕ). Recovers m image it.held.found.stored) same_stored it.held.found.found in
          let sums = says summed it.held.found.stored first found is (len ∙ same_stored) in
          absurd (omega (arith, sums, word, none))
      | inr plain ↦ plain
    ]

    same_size : n ≡ it.size
    same_size = grind (arith, same_stored, none, unsummed)

    pub stands_still : (after : Image) → StandsAs n image after → HoldsPlain after db
    stands_still after stands =
        let kept = (subst (λ (m : ℕ). StandsAs m image after) same_size stands).1 in
        let held = it.held in
        record {
          size = it.size;
          plain = it.plain;
          valid = it.valid;
          held = record {
            pages = held.pages;
            wanted = held.wanted;
            schema = held.schema;
            found = kept held.pages held.found;
            ours = held.ours;
            reads = held.reads;
            sound = held.sound;
          };
        }

plainly : (image : Image) → HoldsNone HoldsPlain image → HoldsNone HoldsDatabase image
plainly image (inl nothing) = inl nothing
plainly image (inr has) = inr (∥∥₁_map has (λ it. (it.0, whole image it.0 it.1, it.2)))

not_stored : (kind : StoreError) → store_error kind ≢ SqliteFailure code.NotADatabase
not_stored kind is = grind arith

-- what is told of files of which a crash may have left no more than is named here
module _ {D : Type 0} (g : disk.Ghosts D) (stays : (file : D) → g.may_leave file (g.seen file)) (files : Files D) (before : Image → Type 0)
    (all : (image : Image) → outcomes g files.log files.db image → before image) where
  -- what the files read as is one of them
  seen_is : before (image_of g files)
  seen_is = all (image_of g files) (stays files.log, stays files.db)

  holds_on : (rest : Leftover D g) → LeavesFiles files rest
      → EachAfter g (HoldsWhatWas before (HoldsDeskAt HoldsPlain)) (HoldsWhatWas before (λ v db r. HoldIn (HoldsAt v) db r)) rest
  holds_on (left.Files now) leaves = λ image out. (image, all image (leaves image out), λ v r h. h)
  holds_on (left.Unopened now) (inl blank) =
      λ image may. (image_of g files, seen_is, λ v r seen. absurd (∥∥₁_elim seen.1 (λ x. absurd x) (λ it. is_something _ _ (whole _ _ it) blank.0)))
  holds_on (left.Unopened now) (inr kept) = λ image may. elim ((kept.4 image may).same) [
    | inl out ↦ (image, all image out, λ v r h. h)
    | inr stands ↦ (image_of g files, seen_is, λ v r seen. (seen.0, ∥∥₁_map seen.1 (λ it. stands_still _ _ it _ kept.1 kept.3 image stands), seen.2))
  ]
  holds_on (left.Store now) leaves =
      λ db found. (
        image_of g files,
        seen_is,
        λ v r seen. found_records (image_of g files) db (leaves db found).1 (λ t. HoldIn (HoldsAt v) t r)
            (seen.0, ∥∥₁_map seen.1 (whole _ _), seen.2),
      )

  makes_none : (rest : Leftover D g) → LeavesFiles files rest → ((image : Image) → before image → HoldsNone HoldsPlain image)
      → EachAfter g (HoldsNone HoldsDatabase) UsesNoName rest
  makes_none (left.Files now) leaves none = λ image out. plainly image (none image (all image (leaves image out)))
  makes_none (left.Unopened now) (inl blank) none = λ image may. elim (blank.1 image may) [
    | inl out ↦ plainly image (none image (all image out))
    | inr other ↦ elim other [ inl nothing ↦ inl nothing | inr empty ↦ inr (∥∥₁_map empty (λ it. (it.0, it.1, empty_is_unused it.0 it.2.1))) ]
  ]
  makes_none (left.Unopened now) (inr kept) none = λ image may. elim ((kept.4 image may).same) [
    | inl out ↦ plainly image (none image (all image out))
    | inr stands ↦ elim (none (image_of g files) seen_is) [
      | inl nothing ↦ absurd (kept.0 nothing)
      | inr has ↦ inr (∥∥₁_map has (λ it. (it.0, whole image it.0 (stands_still _ _ it.1 _ kept.1 kept.3 image stands), it.2)))
    ]
  ]
  makes_none (left.Store now) leaves none = λ db found. let it = leaves db found in
      found_none (image_of g files) db it.1 (λ nothing. nothing_is_unused (image_of g files) db nothing it.0) (plainly _ (none (image_of g files) seen_is))

  -- what is refused as no database is none, and not empty
  foreign : (error : Error) (rest : Leftover D g) (e : OpenFault) → (error ≢ SqliteFailure code.NotADatabase → IsFailure e)
      → FailsToOpenFiles files rest error → e ≡ NotDesk → (image : Image) × before image × IsForeign image
  foreign error rest e opened fails is = grind (arith, seen_is, not_stored)

  -- a failed store has a cause
  caused : (error : Error) (rest : Leftover D g) (e : OpenFault) → (e ≡ Store → error ≢ SqliteFailure code.OutOfMemory) → FailsToOpenFiles files rest error
      → e ≡ Store
      → ((image : Image) × before image × IsForeign image) ⊎ (MoreFaults 0 (faults_left rest) ⊎ IsFullLeft rest)
  caused error rest e memory (inl wanting) is = absurd (memory is wanting)
  caused error rest e memory (inr (inl refused)) is = inl (image_of g files, seen_is, (λ nothing. refused.1 (inr nothing), λ held. refused.1 (inl held)))
  caused error rest e memory (inr (inr (inl fault))) is = let more = fault.1 in inr (inl (grind (arith, more)))
  caused error rest e memory (inr (inr (inr full))) is = inr (inr full.1)

  pub spares : (error : Error) (rest : Leftover D g) (e : OpenFault) → (error ≢ SqliteFailure code.NotADatabase → IsFailure e) → e ≢ NewerVersion
      → (e ≡ Store → error ≢ SqliteFailure code.OutOfMemory) → FailsToOpenFiles files rest error × LeavesFiles files rest → Spares g before rest e
  spares error rest e opened named memory why =
      record {
        named = named;
        foreign = foreign error rest e opened (why.0);
        causes = caused error rest e memory (why.0);
        holds = holds_on rest (why.1);
        makes = makes_none rest (why.1);
      }

-- ---- the file at a path

module _ {C S : Type 0} {g : calls.Ghosts C} {start : start_ghosts.Ghosts S} (it : Modelled C S g start) (is_log : Bool) (key : ℕ) (is : it.is_log ≡ is_log)
    (fresh : g.history it.calls ≡ settled key ∷ []) where
  pub left_alone : (c : List ℕ) → (let m = replay (start_of start it) (g.history it.calls) in MayLeave start.is_mixing m.seen m.synced m.steps c)
      → c ≡ (if is_log then start.log else start.db)
  left_alone c left = grind arith

-- a crash leaves one image alone of files that nothing else wrote
pub one_image : {D : Type 0} {g : disk.Ghosts D} → Leftover D g → (files : Files D) (at : Image) → ((c : List ℕ) → g.may_leave files.log c → c ≡ at.log)
    → ((c : List ℕ) → g.may_leave files.db c → c ≡ at.db) → (image : Image) → outcomes g files.log files.db image → image ≡ at
one_image rest files at logs dbs image out = grind arith
