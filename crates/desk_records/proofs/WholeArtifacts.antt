-- What the artifacts of a list of accepted commands have: the size and the digest of their contents, and columns that keep their rules.
use Rattle.desk_records.proofs.Common.{◌≡◌, ◌≤◌, ◌++◌, ℕ, zero, suc, ◌*◌, ◌/◌, ◌%◌, ◌^◌, true, List, [], ◌∷◌, length, All, refl, ap, arith, length-append}
use Rattle.desk_records.proofs.Common.{slice_index, list_all, le-leb, nat_tests, All-append, All-nil, limits, is_byte, is_digest, is_filename}
use Rattle.desk_records.proofs.Common.{is_number, ArtifactRecord, added_artifacts, artifacts}
use Rattle.std.specs.Int.{bytes_high_first}
use Rattle.sha2.specs.Sha256.{digest_bytes, sha256}
use Rattle.rollout_machine.specs.CommandList.{CommandList, Make, ◌▸◌}
use Rattle.rollout_machine.specs.CommandRules.{IsWellFormed}
use Rattle.rollout_machine.specs.Commands.{Command}
use Rattle.rollout_machine.specs.Digests.{digest_of}
use Rattle.rollout_machine.specs.Records.{records}
use Rattle.rollout_machine.specs.Validity.{IsValid}

-- ---- size and digest

abbrev pub IsWhole : ArtifactRecord → Type 0
IsWhole a = (a.size ≡ length a.contents) × (a.digest ≡ digest_of a.contents)

added_are_whole : (c : Command) → All IsWhole (added_artifacts c)
added_are_whole c = grind arith

are_whole : (h : CommandList) → All IsWhole (artifacts h)
are_whole (Make approval) = All-nil IsWhole
are_whole (h ▸ c) = All-append IsWhole (artifacts h) (added_artifacts c) (are_whole h) (added_are_whole c)

pub all_whole : (h : CommandList) → All IsWhole (records h).artifacts
unfolding records
all_whole h = are_whole h

-- ---- the other columns

pub record KeepsRules (a : ArtifactRecord) : Type 0 where
  pub module_number : is_number a.module_number ≡ true
  pub filename : is_filename a.filename ≡ true
  pub few : length a.contents ≤ limits.artifact_size

added_keep : (c : Command) → IsWellFormed c → All KeepsRules (added_artifacts c)
added_keep c good = grind (arith, nat_tests)

keep : (h : CommandList) → IsValid h → All KeepsRules (artifacts h)
keep (Make approval) valid = All-nil KeepsRules
keep (h ▸ c) valid = All-append KeepsRules (artifacts h) (added_artifacts c) (keep h valid.0) (added_keep c valid.1)

pub all_keep : (h : CommandList) → IsValid h → All KeepsRules (records h).artifacts
unfolding records
all_keep h valid = keep h valid

-- ---- digests

remainder : (n : ℕ) → is_byte (n % 256) ≡ true
remainder n = le-leb (n % 256) 255 (omega arith)

low_bytes : (k n : ℕ) → list_all is_byte (bytes_high_first k n) ≡ true
low_bytes zero n = refl
low_bytes (suc zero) n = rw (remainder n) refl
low_bytes (suc (suc k)) n = rw (remainder (n / 256 ^ suc k), low_bytes (suc k) n) refl

so_many : (k n : ℕ) → length (bytes_high_first k n) ≡ k
so_many zero n = refl
so_many (suc k) n = ap suc (so_many k n)

all_bytes : (xs ys : List ℕ) → list_all is_byte xs ≡ true → list_all is_byte ys ≡ true → list_all is_byte (xs ++ ys) ≡ true
all_bytes [] ys first second = second
all_bytes (x ∷ xs) ys first second = grind (arith, all_bytes xs ys)

are_bytes : (h : List ℕ) (n : ℕ) → list_all is_byte (digest_bytes h n) ≡ true
unfolding digest_bytes
are_bytes h zero = refl
are_bytes h (suc n) = all_bytes (digest_bytes h n) _ (are_bytes h n) (low_bytes 4 (slice_index h n))

are_long : (h : List ℕ) (n : ℕ) → length (digest_bytes h n) ≡ n * 4
unfolding digest_bytes
are_long h zero = refl
are_long h (suc n) = grind (arith, are_long h n, length-append, so_many)

pub digest_is_one : (contents : List ℕ) → is_digest (digest_of contents) ≡ true
unfolding sha256
digest_is_one contents = rw (are_long _ 8, are_bytes _ 8) refl
