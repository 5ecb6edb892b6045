-- The head region by places, and that more bytes leave it as it is.
use Rattle.http_wire.proofs.Common.{◌≡◌, ℕ, zero, suc, ◌+◌, ◌-◌, ◌<◌, ◌≤◌, min, List, ◌++◌, length, take, drop, get_or, codes, refl, sym, ap, ◌∙◌, subst}
use Rattle.http_wire.proofs.Common.{arith, append_assoc, inl, inr, Some, None, cases_order, cases_lt, get_or-take, get_or_append_left, length-take-le}
use Rattle.http_wire.proofs.Common.{length-append, take-append-drop, take_at, drop_at, FindsNeedle, OccursAt, limits, IsHeadEndAt, HasRegion}
use Rattle.http_wire.proofs.Common.{HasNoRegion}

-- four places of one list are those of another
same_end : (a b : List ℕ) (k : ℕ) → ((i : ℕ) → i < k + 4 → get_or a i 0 ≡ get_or b i 0) → IsHeadEndAt a k → IsHeadEndAt b k
same_end a b k same h = grind arith

pub end_in_take : (bytes : List ℕ) (n k : ℕ) → k + 4 ≤ n → IsHeadEndAt (take n bytes) k → IsHeadEndAt bytes k
end_in_take bytes n k le = same_end (take n bytes) bytes k (λ i l. get_or-take n bytes i 0 (omega arith))

pub take_of_end : (bytes : List ℕ) (n k : ℕ) → k + 4 ≤ n → IsHeadEndAt bytes k → IsHeadEndAt (take n bytes) k
take_of_end bytes n k le = same_end bytes (take n bytes) k (λ i l. sym (get_or-take n bytes i 0 (omega arith)))

pub end_in_front : (a b : List ℕ) (k : ℕ) → k + 4 ≤ length a → IsHeadEndAt (a ++ b) k → IsHeadEndAt a k
end_in_front a b k le = same_end (a ++ b) a k (λ i l. get_or_append_left a b 0 i (omega arith))

pub front_of_end : (a b : List ℕ) (k : ℕ) → k + 4 ≤ length a → IsHeadEndAt a k → IsHeadEndAt (a ++ b) k
front_of_end a b k le = same_end a (a ++ b) k (λ i l. sym (get_or_append_left a b 0 i (omega arith)))

-- the first place of CR LF CR LF gives the region
pub region_at : (bytes : List ℕ) (k : ℕ) → k + 4 ≤ length bytes → k + 4 ≤ limits.head_length → IsHeadEndAt bytes k
    → ((j : ℕ) → j < k → IsHeadEndAt bytes j → ⊥) → HasRegion bytes (take (k + 4) bytes) (drop (k + 4) bytes)
region_at bytes k fits limit here before =
    let size : length (take (k + 4) bytes) ≡ k + 4 = length-take-le (k + 4) bytes fits in
    let back : length (take (k + 4) bytes) - 4 ≡ k = omega arith in
    record {
      split = sym (take-append-drop (k + 4) bytes);
      limit = omega arith;
      size = omega arith;
      ends = subst (IsHeadEndAt (take (k + 4) bytes)) (sym back) (take_of_end bytes (k + 4) k (omega arith) here);
      first = λ j l h. before j (omega arith) (end_in_take bytes (k + 4) j (omega arith) h);
    }

-- a region has its end at a place of the bytes
pub end_of_region : (bytes region after : List ℕ) → HasRegion bytes region after
    → (k : ℕ) × (length region ≡ k + 4) × (k + 4 ≤ length bytes) × (k + 4 ≤ limits.head_length) × IsHeadEndAt bytes k
end_of_region bytes region after h =
    let k = length region - 4 in
    let size : length region ≡ k + 4 = omega (arith, h.size) in (
      k,
      size,
      omega (arith, h.size, ap length h.split, length-append region after),
      omega (arith, h.size, h.limit),
      subst (λ (b : List ℕ). IsHeadEndAt b k) (sym h.split) (front_of_end region after k (omega (arith, h.size)) h.ends),
    )

-- no place gives no region
pub no_region : (bytes : List ℕ) → ((k : ℕ) → k + 4 ≤ length bytes → k + 4 ≤ limits.head_length → IsHeadEndAt bytes k → ⊥) → HasNoRegion bytes
no_region bytes none region after h =
    let at = end_of_region bytes region after h in none at.0 at.2 at.3 at.4

-- ---- CR LF CR LF as a needle

end_of_needle : (bytes : List ℕ) (k : ℕ) → OccursAt bytes (codes "\r\n\r\n") k → IsHeadEndAt bytes k
end_of_needle bytes k o =
    let at : (j i : ℕ) → k + j ≡ i → j < 4 → get_or bytes i 0 ≡ get_or (codes "\r\n\r\n") j 0 = λ j i e l. ap (λ p. get_or bytes p 0) (sym e) ∙ o.reads j l in
    (at 0 k (omega arith) (omega arith), at 1 (k + 1) refl (omega arith), at 2 (k + 2) refl (omega arith), at 3 (k + 3) refl (omega arith))

needle_of_end : (bytes : List ℕ) (k : ℕ) → k + 4 ≤ length bytes → IsHeadEndAt bytes k → OccursAt bytes (codes "\r\n\r\n") k
needle_of_end bytes k fits h = record { fits = fits; reads = at }
  where
    at : (j : ℕ) → j < 4 → get_or bytes (k + j) 0 ≡ get_or (codes "\r\n\r\n") j 0
    at zero l = ap (λ p. get_or bytes p 0) (omega arith) ∙ h.0
    at (suc zero) l = h.1
    at (suc (suc zero)) l = h.2
    at (suc (suc (suc zero))) l = h.3
    at (suc (suc (suc (suc j)))) l = absurd (omega (arith, l))

-- within the limit it stands first at the region's end, or nowhere
pub region_found : (bytes : List ℕ) (n k : ℕ) → n ≤ length bytes → n ≤ limits.head_length → FindsNeedle (take n bytes) (codes "\r\n\r\n") 0 (Some k)
    → HasRegion bytes (take (k + 4) bytes) (drop (k + 4) bytes)
region_found bytes n k fits limit found =
    let size = length-take-le n bytes fits in
    let room : k + 4 ≤ n = omega (arith, found.1.fits) in
    region_at bytes k (omega arith) (omega arith) (end_in_take bytes n k room (end_of_needle (take n bytes) k found.1))
    (λ j l here. found.0.before j (omega arith) l (needle_of_end (take n bytes) j (omega arith) (take_of_end bytes n j (omega arith) here)))

pub no_region_found : (bytes : List ℕ) (n : ℕ) → n ≡ min (length bytes) limits.head_length → FindsNeedle (take n bytes) (codes "\r\n\r\n") 0 None
    → HasNoRegion bytes
no_region_found bytes n least found =
    let size = length-take-le n bytes (omega arith) in
    no_region bytes (λ k fits limit here. found k (omega arith) (omega arith)
    (needle_of_end (take n bytes) k (omega arith) (take_of_end bytes n k (omega arith) here)))

-- two regions of the same bytes are one
region_shorter : (bytes r s a b : List ℕ) → HasRegion bytes r a → HasRegion bytes s b → length r < length s → ⊥
region_shorter bytes r s a b h g shorter =
    let at = end_of_region bytes r a h in
    g.first at.0 (omega (arith, at.1)) (end_in_front s b at.0 (omega (arith, at.1)) (subst (λ (t : List ℕ). IsHeadEndAt t at.0) g.split at.4))

pub region_unique : (bytes r s a b : List ℕ) → HasRegion bytes r a → HasRegion bytes s b → (r ≡ s) × (a ≡ b)
region_unique bytes r s a b h g = same (elim (cases_order (length r) (length s)) as (λ _. length r ≡ length s) [
  | inl e ↦ e
  | inr (inl l) ↦ absurd (region_shorter bytes r s a b h g l)
  | inr (inr l) ↦ absurd (region_shorter bytes s r b a g h l)
])
  where
    same : length r ≡ length s → (r ≡ s) × (a ≡ b)
    same e =
        let joined : r ++ a ≡ s ++ b = sym h.split ∙ g.split in
        let one : r ≡ s = sym (take_at r a (length r) refl) ∙ ap (take (length r)) joined ∙ take_at s b (length r) (sym e) in
        let two : a ≡ b = sym (drop_at r a (length r) refl) ∙ ap (drop (length r)) joined ∙ drop_at s b (length r) (sym e) in
        (one, two)

-- more bytes after it
pub region_append : (bytes region after more : List ℕ) → HasRegion bytes region after → HasRegion (bytes ++ more) region (after ++ more)
region_append bytes region after more h = grind (arith, append_assoc)

-- without a region no place ends one
pub no_end_below : (bytes : List ℕ) → HasNoRegion bytes → (n : ℕ) → n + 3 ≤ length bytes → n + 3 ≤ limits.head_length
    → (k : ℕ) → k < n → IsHeadEndAt bytes k → ⊥
no_end_below bytes none zero fits limit k l here = absurd (omega arith)
no_end_below bytes none (suc n) fits limit k l here =
    let before : (j : ℕ) → j < n → IsHeadEndAt bytes j → ⊥ = no_end_below bytes none n (omega arith) (omega arith) in
    elim (cases_lt k n) [
      | inl below ↦ before k below here
      | inr above ↦
          let same : k ≡ n = omega arith in
          none _ _ (region_at bytes k (omega arith) (omega arith) here (λ j lt. before j (omega arith)))
    ]

pub no_end : (bytes : List ℕ) → HasNoRegion bytes → (k : ℕ) → k + 4 ≤ length bytes → k + 4 ≤ limits.head_length → IsHeadEndAt bytes k → ⊥
no_end bytes none k fits limit = no_end_below bytes none (suc k) (omega arith) (omega arith) k (omega arith)

-- with as many bytes as the limit, more bytes make no region
pub no_region_append : (bytes more : List ℕ) → limits.head_length ≤ length bytes → HasNoRegion bytes → HasNoRegion (bytes ++ more)
no_region_append bytes more long none = no_region (bytes ++ more) (λ k fits limit h.
    no_end bytes none k (omega arith) limit (end_in_front bytes more k (omega arith) h))
