-- The head region: the bytes of a stream up to and with the first CR LF CR LF.
use Rattle.std.specs.Prelude.{◌≡◌, ℕ, ◌+◌, ◌-◌, ◌<◌, ◌≤◌, ◌&&◌, ◌==◌, if◌then◌else◌, List, [], ◌∷◌, ◌++◌, length, slice_index, ⊤}
use Rattle.std.specs.List.{flat_map}
use Rattle.httparse.specs.Ascii.{line_feed, carriage_return, crlf_bytes}
use Rattle.rollout_model.specs.Limits.{limits}

-- CR LF CR LF stands at place k
abbrev pub IsHeadEndAt : List ℕ → ℕ → Type 0
IsHeadEndAt bytes k =
    (slice_index bytes k ≡ carriage_return) × (slice_index bytes (k + 1) ≡ line_feed)
    × (slice_index bytes (k + 2) ≡ carriage_return) × (slice_index bytes (k + 3) ≡ line_feed)

-- the bytes up to and with the first CR LF CR LF, and those after it
pub record HasRegion (bytes region after : List ℕ) : Type 0 where
  pub split : bytes ≡ region ++ after
  pub limit : length region ≤ limits.head_length
  pub size : 4 ≤ length region
  pub ends : IsHeadEndAt region (length region - 4)
  pub first : (k : ℕ) → k + 4 < length region → IsHeadEndAt region k → ⊥

-- no head region ends within the limit
abbrev pub HasNoRegion : List ℕ → Type 0
HasNoRegion bytes = (region after : List ℕ) → HasRegion bytes region after → ⊥

-- how often CR LF stands in the bytes
abbrev pub line_ends : List ℕ → ℕ
line_ends [] = 0
line_ends (b ∷ bytes) = (if (b == carriage_return) && (slice_index bytes 0 == line_feed) then 1 else 0) + line_ends bytes

-- the lines are the request line, at most as many fields as the limit, and the empty line
abbrev pub HasFewFields : List ℕ → Type 0
HasFewFields region = line_ends region ≤ limits.fields + 2

-- ---- what `line_ends` counts

-- no CR LF stands in these lines
abbrev pub AreLines : List (List ℕ) → Type 0
AreLines [] = ⊤
AreLines (line ∷ lines) = (line_ends line ≡ 0) × AreLines lines

-- the region is these lines, each ended by CR LF
pub record HasLines (region : List ℕ) (lines : List (List ℕ)) : Type 0 where
  pub whole : region ≡ flat_map (λ (line : List ℕ). line ++ crlf_bytes) lines
  pub each_line : AreLines lines
