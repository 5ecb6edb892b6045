-- What accepted commands keep: few modules and sets, the rule of the modules of each set, and that of the contents of each artifact.
use Rattle.desk_views.proofs.Common.{◌≡◌, ◌≤◌, ◌+◌, ◌-◌, ◌*◌, ℕ, zero, suc, true, List, length, All, Option, Some, None, sym, subst, arith, nat_le, and_parts}
use Rattle.desk_views.proofs.Common.{leb-true, list_all, length-map, pieces_of_artifact, item_numbered, ArtifactRecord, Records, added_artifacts, artifacts}
use Rattle.desk_views.proofs.Common.{SetLabel, AreOfList, contents_found, div_ceil_times, piece_at, piece_bytes, piece_count, pieces_of, limits}
use Rattle.desk_views.proofs.Common.{is_byte, is_contents, is_module_list, CommandList, Make, ◌▸◌, IsValid, limits_hold}
use Rattle.rollout_machine.specs.Records.{records}
use Rattle.std.proofs.lemmas.List.Elements.{All-append, All-get_or, All-nil}
use Rattle.std.proofs.lemmas.List.FromFn.{length-map-range_with_len}
use Rattle.std.proofs.lemmas.Option.{get_or_from_slice_get, slice_get_within}
use Rattle.sqlite_rules.proofs.ListLemmas.{has_got}
use Rattle.desk_records.proofs.WholeArtifacts.{IsWhole, all_whole}
use Rattle.desk_reads.proofs.LabelRules.{sets_keep}

-- what is so of the records of each list of accepted commands
pub at_list : (P : Records → Type 0) → ((h : CommandList) → IsValid h → P (records h)) → (r : Records) → AreOfList r → P r
at_list P so r of = subst P (sym of.are) (so of.list of.valid)

-- what is so of all is so of the one of a number
each_numbered : {X : Type 0} (P : X → Type 0) (xs : List X) → All P xs → (k : ℕ) (x : X) → item_numbered xs k ≡ Some x → P x
each_numbered P xs all zero x is = absurd cc
each_numbered P xs all (suc i) x is = subst P (get_or_from_slice_get xs i x x is) (All-get_or P xs i x (slice_get_within xs i x is) all)

-- ---- how many

pub few_artifacts : (r : Records) → AreOfList r → length r.artifacts ≤ 256
few_artifacts = at_list (λ r. length r.artifacts ≤ 256) (λ h valid. (limits_hold h valid).artifacts)

pub few_targets : (r : Records) → AreOfList r → length r.targets ≤ 10000
few_targets = at_list (λ r. length r.targets ≤ 10000) (λ h valid. (limits_hold h valid).targets)

-- ---- the modules of a set

pub keeps_list : (r : Records) → AreOfList r → (k : ℕ) (s : SetLabel) → item_numbered r.sets k ≡ Some s → is_module_list s.modules ≡ true
keeps_list = at_list (λ r. (k : ℕ) (s : SetLabel) → item_numbered r.sets k ≡ Some s → is_module_list s.modules ≡ true)
    (λ h valid k s is. grind (arith, and_parts, sets_keep h valid s, has_got (records h).sets))

-- ---- the contents of an artifact

abbrev KeepsContents : ArtifactRecord → Type 0
KeepsContents a = is_contents a.contents ≡ true

contents_keep : (h : CommandList) → IsValid h → All KeepsContents (artifacts h)
contents_keep (Make approval) valid = All-nil KeepsContents
contents_keep (h ▸ c) valid = All-append KeepsContents (artifacts h) (added_artifacts c) (contents_keep h valid.0) (grind (arith, and_parts))

pub keeps_contents : (r : Records) → AreOfList r → (k : ℕ) → is_contents (contents_found (item_numbered r.artifacts k)) ≡ true
unfolding records
keeps_contents = at_list (λ r. (k : ℕ) → is_contents (contents_found (item_numbered r.artifacts k)) ≡ true)
    (λ h valid k. grind (arith, each_numbered KeepsContents (artifacts h) (contents_keep h valid) k))

pub keeps_size : (r : Records) → AreOfList r → (k : ℕ) (a : ArtifactRecord) → item_numbered r.artifacts k ≡ Some a → a.size ≡ length a.contents
keeps_size = at_list (λ r. (k : ℕ) (a : ArtifactRecord) → item_numbered r.artifacts k ≡ Some a → a.size ≡ length a.contents)
    (λ h valid k a is. (each_numbered IsWhole (records h).artifacts (all_whole h) k a is).0)

-- so it has no piece behind as many as contents may have
pieces_few : (found : Option ArtifactRecord) → is_contents (contents_found found) ≡ true → length (pieces_of_artifact found) ≤ 64
pieces_few None kept = omega arith
pieces_few (Some a) kept = grind (
  arith,
  and_parts (nat_le (length a.contents) limits.artifact_size) (list_all is_byte a.contents),
  leb-true,
  div_ceil_times (length a.contents) limits.piece_length,
  length-map (pieces_of (length a.contents)) (piece_bytes a.contents),
  length-map-range_with_len (piece_at (length a.contents)) 0 (piece_count (length a.contents) - 0),
)

pub no_piece : (r : Records) → AreOfList r → (k before : ℕ) (piece : List ℕ) → Some piece ≡ item_numbered (pieces_of_artifact (item_numbered r.artifacts k))
    (before + 1) → limits.artifact_size ≤ before * limits.piece_length → ⊥
no_piece r of k before piece found full = grind (arith, slice_get_within, pieces_few, keeps_contents)
