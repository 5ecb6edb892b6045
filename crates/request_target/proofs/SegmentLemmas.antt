-- The first segment of a path, and the segment at a place.
use Rattle.request_target.proofs.Common.{◌≡◌, ◌<◌, ◌+◌, ℕ, suc, List, [], ◌∷◌, ◌++◌, length, take, drop, get_or, Bool, true, not, ◌==◌, refl, sym}
use Rattle.request_target.proofs.Common.{ap, ◌∙◌, arith, list_all, segments}
use Rattle.std.proofs.lemmas.List.{take-append-drop}
use Rattle.std.proofs.Math.Seq.{drop-cons}

abbrev pub no_slash : ℕ → Bool
no_slash b = not (b == 47)

in_front_one : (b : ℕ) (t : List ℕ) (c : Bool) → (b == 47) ≡ c → not c ≡ true → segments t ≡ t ∷ [] → segments (b ∷ t) ≡ (b ∷ t) ∷ []
in_front_one b t c e h k = grind arith

pub one_segment : (t : List ℕ) → list_all no_slash t ≡ true → segments t ≡ t ∷ []
one_segment [] h = refl
one_segment (b ∷ t) h = grind (arith, one_segment t, in_front_one)

in_front_more : (b : ℕ) (t p : List ℕ) (ps : List (List ℕ)) (c : Bool) → (b == 47) ≡ c → not c ≡ true → segments t ≡ p ∷ ps → segments (b ∷ t) ≡ (b ∷ p) ∷ ps
in_front_more b t p ps c e h k = grind arith

first_segment : (p rest : List ℕ) → list_all no_slash p ≡ true → segments (p ++ 47 ∷ rest) ≡ p ∷ segments rest
first_segment [] rest h = refl
first_segment (b ∷ p) rest h = grind (arith, first_segment p rest, in_front_more)

pub cut : (t : List ℕ) (k : ℕ) → k < length t → get_or t k 0 ≡ 47 → list_all no_slash (take k t) ≡ true → segments t ≡ take k t ∷ segments (drop (k + 1) t)
cut t k l e h =
    let one : k + 1 ≡ suc k = omega arith in
    let whole : t ≡ take k t ++ 47 ∷ drop (k + 1) t = sym (take-append-drop k t)
    ∙ ap (λ y. take k t ++ y) (drop-cons t k 0 l ∙ ap (λ b. b ∷ drop (suc k) t) e ∙ ap (λ n. 47 ∷ drop n t) (sym one)) in
    ap segments whole ∙ first_segment (take k t) (drop (k + 1) t) h
