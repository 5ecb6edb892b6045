-- The number of line ends is the number of lines, the parts between the CR LF pairs, and that of the LF behind a CR.
use Rattle.http_wire.proofs.Common.{◌≡◌, ℕ, ◌+◌, ◌-◌, Bool, true, false, ◌&&◌, List, [], ◌∷◌, ◌++◌, drop, get_or, refl, sym, arith, ap, ◌∙◌, length}
use Rattle.http_wire.proofs.Common.{if◌then◌else◌, ◌==◌, nat_lt, flat_map, list_all, lt-ltb, drop-drop, get_or-drop, is_byte, places, line_ends, AreLines}
use Rattle.http_wire.proofs.Common.{HasLines, lf_follows_cr}
use Rattle.httparse.specs.Ascii.{crlf_bytes}
use Rattle.memchr.specs.Find.{places_from}

one_line : (line rest : List ℕ) → line_ends line ≡ 0 → line_ends (line ++ 13 ∷ 10 ∷ rest) ≡ 1 + line_ends rest
one_line [] rest e = omega arith
one_line (b ∷ []) rest e = grind arith
one_line (b ∷ c ∷ line) rest e = let ih = one_line (c ∷ line) rest (omega (arith, e)) in omega (arith, e, ih)

regroup : (line rest : List ℕ) → (line ++ crlf_bytes) ++ rest ≡ line ++ 13 ∷ 10 ∷ rest
regroup [] rest = refl
regroup (b ∷ line) rest = ap (λ xs. b ∷ xs) (regroup line rest)

lines_counted : (lines : List (List ℕ)) → AreLines lines → line_ends (flat_map (λ (line : List ℕ). line ++ crlf_bytes) lines) ≡ length lines
lines_counted [] w = refl
lines_counted (line ∷ lines) w =
    let rest : List ℕ = flat_map (λ (l : List ℕ). l ++ crlf_bytes) lines in
    let e : line_ends (line ++ 13 ∷ 10 ∷ rest) ≡ 1 + line_ends rest = one_line line rest w.0 in
    let ih : line_ends rest ≡ length lines = lines_counted lines w.1 in
    rw (regroup line rest) (omega (arith, e, ih))

pub line_ends_are_lines : (region : List ℕ) (lines : List (List ℕ)) → HasLines region lines → line_ends region ≡ length lines
line_ends_are_lines region lines w = rw w.whole (lines_counted lines w.each_line)

-- ---- by the places of LF

-- the byte before this place is a CR
abbrev pub follows : List ℕ → ℕ → Bool
follows bytes place = nat_lt 0 place && (get_or bytes (place - 1) 0 == 13)

-- how many of the places follow a CR
abbrev pub pairs_at : List ℕ → List ℕ → ℕ
pairs_at bytes [] = 0
pairs_at bytes (place ∷ places) = (if follows bytes place then 1 else 0) + pairs_at bytes places

-- places give both readings of the bytes behind p
record Reads (bytes rest ks : List ℕ) (p : ℕ) : Type 0 where
  pub pairs : pairs_at bytes ks ≡ line_ends (p ∷ rest)
  pub strict : list_all (follows bytes) ks ≡ lf_follows_cr p rest

one_more : (bytes rest ks : List ℕ) (i p b : ℕ) (lf : Bool) → (b == 10) ≡ lf → follows bytes i ≡ (p == 13) → Reads bytes rest ks b
    → Reads bytes (b ∷ rest) (if lf then i ∷ ks else ks) p
one_more bytes rest ks i p b true e f h = record { pairs = rw (e, f, h.pairs) (go (p == 13)); strict = rw (e, f, h.strict) refl }
  where
    go : (v : Bool) → (if v then 1 else 0) + line_ends (b ∷ rest) ≡ (if v && true then 1 else 0) + line_ends (b ∷ rest)
    go true = omega arith
    go false = omega arith
one_more bytes rest ks i p b false e f h = record { pairs = rw (e, h.pairs) (go (p == 13)); strict = rw (e, h.strict) refl }
  where
    go : (v : Bool) → line_ends (b ∷ rest) ≡ (if v && false then 1 else 0) + line_ends (b ∷ rest)
    go true = omega arith
    go false = omega arith

-- the byte before the next place
follows_next : (bytes : List ℕ) (i b : ℕ) → get_or bytes i 0 ≡ b → follows bytes (i + 1) ≡ (b == 13)
follows_next bytes i b here = grind (arith, lt-ltb)

reads_from : (bytes rest : List ℕ) (i p : ℕ) → drop i bytes ≡ rest → follows bytes i ≡ (p == 13)
    → Reads bytes rest (places_from (is_byte 10) bytes i (length rest)) p
unfolding places_from
reads_from bytes [] i p same f = record { pairs = go (p == 13); strict = refl }
  where
    go : (v : Bool) → 0 ≡ (if v && false then 1 else 0) + 0
    go true = omega arith
    go false = omega arith
reads_from bytes (b ∷ rest) i p same f =
    let here : get_or bytes i 0 ≡ b = ap (λ k. get_or bytes k 0) (omega arith) ∙ sym (get_or-drop i bytes 0 0) ∙ ap (λ (xs : List ℕ). get_or xs 0 0) same in
    let next : drop (i + 1) bytes ≡ rest = sym (drop-drop 1 i bytes) ∙ ap (drop 1) same in
    one_more bytes rest _ i p b (get_or bytes i 0 == 10) (ap (λ x. x == 10) (sym here)) f
    (reads_from bytes rest (i + 1) b next (follows_next bytes i b here))

pub reads_places : (bytes : List ℕ) → (pairs_at bytes (places (is_byte 10) bytes) ≡ line_ends bytes)
    × (list_all (follows bytes) (places (is_byte 10) bytes) ≡ lf_follows_cr 0 bytes)
reads_places bytes =
    let size : length bytes - 0 ≡ length bytes = omega arith in
    let all = reads_from bytes bytes 0 0 refl refl in
    let ks : places (is_byte 10) bytes ≡ places_from (is_byte 10) bytes 0 (length bytes) = ap (places_from (is_byte 10) bytes 0) size in
    (omega (arith, ap (pairs_at bytes) ks, all.pairs), ap (list_all (follows bytes)) ks ∙ all.strict)
