-- The first place of a piece serves as well as any.
use Rattle.target_filter.proofs.Common.{◌≡◌, ℕ, suc, ◌+◌, ◌-◌, ◌≤◌, ◌<◌, List, [], ◌∷◌, ◌++◌, length, take, drop, get_or, Bool, true}
use Rattle.target_filter.proofs.Common.{false, cond, ◌&&◌, ◌||◌, ◌==◌, not, eqb, Option, Some, None, refl, sym, ◌∙◌, ap, subst, arith, append_assoc}
use Rattle.target_filter.proofs.Common.{append-nil, length-append, list_all, starts_with, ends_with, option_map_or, false≢true, nat_tests, Decides-eqb}
use Rattle.target_filter.proofs.Common.{drop_at, drop-append-le, take-append-drop, length-take-le, drop-cons, starts_is, ends_is, slice_eq-Decides, pointwise}
use Rattle.target_filter.proofs.Common.{with_first_byte, pieces, IsJoinedAfterStar, IsJoined, Matches, star_takes, byte_then, is_empty, matches, after, greedy}
use Rattle.target_filter.proofs.ScannedTrees.{both}
use Rattle.target_filter.proofs.Beginnings.{all_of}
use Rattle.target_filter.proofs.ScannerMoves.{eq_true}

-- a star takes any text
star_any : (f : List ℕ → Bool) (x t : List ℕ) → f t ≡ true → star_takes f (x ++ t) ≡ true
star_any f [] [] h = h
star_any f [] (b ∷ t) h = rw h refl
star_any f (a ∷ x) t h = or_true (f (a ∷ (x ++ t))) (star_takes f (x ++ t)) (star_any f x t h)
  where
    or_true : (a b : Bool) → b ≡ true → (a || b) ≡ true
    or_true true b h = refl
    or_true false b h = h

abbrev Some_rest : (List ℕ → Bool) → List ℕ → Type 0
Some_rest f t = (x : List ℕ) × (rest : List ℕ) × (t ≡ x ++ rest) × (f rest ≡ true)

star_by : (f : List ℕ → Bool) (b : ℕ) (t : List ℕ) (c d : Bool) → f (b ∷ t) ≡ c → (d ≡ true → Some_rest f t) → (c || d) ≡ true → Some_rest f (b ∷ t)
star_by f b t true d e g h = ([], b ∷ t, refl, e)
star_by f b t false d e g h = let (x, rest, w, k) = g h in (b ∷ x, rest, ap (λ y. b ∷ y) w, k)

star_some : (f : List ℕ → Bool) (t : List ℕ) → star_takes f t ≡ true → Some_rest f t
star_some f [] h = ([], [], refl, h)
star_some f (b ∷ t) h = star_by f b t (f (b ∷ t)) (star_takes f t) refl (star_some f t) h

-- the relation, for pieces whose first has a byte more
front_joins : (b : ℕ) (ps : List (List ℕ)) (t : List ℕ) → IsJoined ps t → IsJoined (with_first_byte b ps) (b ∷ t)
front_joins b [] t h = absurd h
front_joins b (p ∷ ps) t (rest, e, g) = (rest, ap (λ y. b ∷ y) e, g)

pieces_some : (q : List ℕ) → (r : List ℕ) × (rs : List (List ℕ)) × (pieces q ≡ r ∷ rs)
pieces_some [] = ([], [], refl)
pieces_some (b ∷ bs) = by (b == 42) (pieces bs) (pieces_some bs)
  where
    front : (ps : List (List ℕ)) → (r : List ℕ) × (rs : List (List ℕ)) × (with_first_byte b ps ≡ r ∷ rs)
    front [] = (b ∷ [], [], refl)
    front (p ∷ ps) = (b ∷ p, ps, refl)

    by : (c : Bool) (ps : List (List ℕ)) → (r : List ℕ) × (rs : List (List ℕ)) × (ps ≡ r ∷ rs) → (r : List ℕ) × (rs : List (List ℕ))
        × (cond c ([] ∷ ps) (with_first_byte b ps) ≡ r ∷ rs)
    by true ps h = ([], ps, refl)
    by false ps h = front ps

-- a star before the pieces
behind_joins : (ps : List (List ℕ)) (x t : List ℕ) → IsJoined ps t → IsJoinedAfterStar ps (x ++ t)
behind_joins [] x t h = absurd h
behind_joins (p ∷ ps) x t (rest, e, g) = (x, rest, ap (λ y. x ++ y) e, g)

empty_is : (t : List ℕ) → is_empty t ≡ true → t ≡ []
empty_is t h = grind arith

-- ---- the test and the relation
to_by : (a : ℕ) (c : Bool) (pattern t : List ℕ) → ((u : List ℕ) → matches pattern u ≡ true → IsJoined (pieces pattern) u)
    → cond c (star_takes (matches pattern) t) (byte_then a (matches pattern) t) ≡ true
    → IsJoined (cond c ([] ∷ pieces pattern) (with_first_byte a (pieces pattern))) t
to_by a true pattern t f h = let (x, rest, e, k) = star_some (matches pattern) t h in (t, refl, rw e (behind_joins (pieces pattern) x rest (f rest k)))
to_by a false pattern [] f h = absurd (false≢true h)
to_by a false pattern (b ∷ bs) f h = grind (arith, eq_true, front_joins)

pub matches_joins : (pattern t : List ℕ) → matches pattern t ≡ true → Matches pattern t
matches_joins [] t h = ([], empty_is t h, refl)
matches_joins (a ∷ pattern) t h = to_by a (a == 42) pattern t (matches_joins pattern) h

eq_self : (n : ℕ) → (n == n) ≡ true
eq_self n = grind (arith, nat_tests)

from_star : (pattern t : List ℕ) (ps : List (List ℕ)) (r : List ℕ) (rs : List (List ℕ)) → ps ≡ r ∷ rs
    → ((u : List ℕ) → IsJoined ps u → matches pattern u ≡ true) → IsJoinedAfterStar ps t → star_takes (matches pattern) t ≡ true
from_star pattern t ps r rs e f h = grind (arith, star_any)

from_byte : (a : ℕ) (pattern t : List ℕ) (ps : List (List ℕ)) (r : List ℕ) (rs : List (List ℕ)) → ps ≡ r ∷ rs
    → ((u : List ℕ) → IsJoined ps u → matches pattern u ≡ true) → IsJoined (with_first_byte a ps) t → byte_then a (matches pattern) t ≡ true
from_byte a pattern t ps r rs e f h = grind (arith, eq_self)

from_by : (a : ℕ) (c : Bool) (pattern t : List ℕ) → ((u : List ℕ) → IsJoined (pieces pattern) u → matches pattern u ≡ true)
    → IsJoined (cond c ([] ∷ pieces pattern) (with_first_byte a (pieces pattern))) t → cond c (star_takes (matches pattern) t) (byte_then a (matches pattern) t)
    ≡ true
from_by a true pattern t f (rest, e, g) =
    let (r, rs, w) = pieces_some pattern in
    from_star pattern t (pieces pattern) r rs w f (rw e g)
from_by a false pattern t f h =
    let (r, rs, w) = pieces_some pattern in
    from_byte a pattern t (pieces pattern) r rs w f h

pub joins_matches : (pattern t : List ℕ) → Matches pattern t → matches pattern t ≡ true
joins_matches [] t (rest, e, g) = rw (e, g) refl
joins_matches (a ∷ pattern) t h = from_by a (a == 42) pattern t (joins_matches pattern) h

-- ---- the first place
after_here : (p t : List ℕ) → starts_with eqb t p ≡ true → after p t ≡ Some (drop (length p) t)
after_here p [] h = rw h refl
after_here p (b ∷ t) h = rw h refl

after_later : (p : List ℕ) (b : ℕ) (t : List ℕ) → starts_with eqb (b ∷ t) p ≡ false → after p (b ∷ t) ≡ after p t
after_later p b t h = rw h refl

abbrev Found : List ℕ → List ℕ → List ℕ → Type 0
Found p t rest = (r : List ℕ) × (x : List ℕ) × (after p t ≡ Some r) × (r ≡ x ++ rest)

first_by : (p : List ℕ) (b : ℕ) (gap rest : List ℕ) (c : Bool) → starts_with eqb (b ∷ (gap ++ (p ++ rest))) p ≡ c → Found p (gap ++ (p ++ rest)) rest
    → Found p (b ∷ (gap ++ (p ++ rest))) rest
first_by p b gap rest true e f =
    let same : b ∷ (gap ++ (p ++ rest)) ≡ (b ∷ (gap ++ p)) ++ rest = ap (λ y. b ∷ y) (sym (append_assoc gap p rest)) in
    let room : length p ≤ length (b ∷ (gap ++ p)) = omega (arith, length-append gap p) in (
      drop (length p) (b ∷ (gap ++ (p ++ rest))),
      drop (length p) (b ∷ (gap ++ p)),
      after_here p (b ∷ (gap ++ (p ++ rest))) e,
      ap (drop (length p)) same
          ∙ drop-append-le (length p) (b ∷ (gap ++ p)) rest room,
    )
first_by p b gap rest false e (r, x, w, k) = (r, x, after_later p b (gap ++ (p ++ rest)) e ∙ w, k)

first : (p gap rest : List ℕ) → Found p (gap ++ (p ++ rest)) rest
first p [] rest =
    let starts : starts_with eqb (p ++ rest) p ≡ true = (starts_is Decides-eqb (p ++ rest) p (starts_with eqb (p ++ rest) p) refl).1 rest refl in
    (rest, [], after_here p (p ++ rest) starts ∙ ap Some (drop_at p rest (length p) refl), refl)
first p (b ∷ gap) rest = first_by p b gap rest (starts_with eqb (b ∷ (gap ++ (p ++ rest))) p) refl (first p gap rest)

starts_at : (p t : List ℕ) → starts_with eqb t p ≡ true → t ≡ p ++ drop (length p) t
starts_at p t h = (starts_is Decides-eqb t p (starts_with eqb t p) refl).0 h

abbrev Placed : List ℕ → List ℕ → List ℕ → Type 0
Placed p t r = (gap : List ℕ) × (t ≡ gap ++ (p ++ r))

placed_here : (p t r : List ℕ) → starts_with eqb t p ≡ true → after p t ≡ Some r → Placed p t r
placed_here p t r h e = grind (arith, after_here, starts_at)

placed_by : (p : List ℕ) (b : ℕ) (t r : List ℕ) (c : Bool) → starts_with eqb (b ∷ t) p ≡ c → (after p t ≡ Some r → Placed p t r) → after p (b ∷ t) ≡ Some r
    → Placed p (b ∷ t) r
placed_by p b t r true e f h = placed_here p (b ∷ t) r e h
placed_by p b t r false e f h = let (gap, w) = f (sym (after_later p b t e) ∙ h) in (b ∷ gap, ap (λ y. b ∷ y) w)

placed_none : (p r : List ℕ) (c : Bool) → starts_with eqb [] p ≡ c → after p [] ≡ Some r → Placed p [] r
placed_none p r c e h = grind (arith, placed_here)

placed : (p t r : List ℕ) → after p t ≡ Some r → Placed p t r
placed p [] r h = placed_none p r (starts_with eqb [] p) refl h
placed p (b ∷ t) r h = placed_by p b t r (starts_with eqb (b ∷ t) p) refl (placed p t r) h

more_behind : (q : List ℕ) (ps : List (List ℕ)) (x t : List ℕ) → IsJoinedAfterStar (q ∷ ps) t → IsJoinedAfterStar (q ∷ ps) (x ++ t)
more_behind q ps x t (gap, rest, e, g) = (x ++ gap, rest, ap (λ y. x ++ y) e ∙ sym (append_assoc x gap (q ++ rest)), g)

greedy_found : (q : List ℕ) (ps : List (List ℕ)) (o : Option (List ℕ)) → option_map_or (greedy (q ∷ ps)) o false ≡ true → (r : List ℕ) × (o ≡ Some r)
    × (greedy (q ∷ ps) r ≡ true)
greedy_found q ps o h = grind arith

pub greedy_behind : (ps : List (List ℕ)) (t : List ℕ) → greedy ps t ≡ true → IsJoinedAfterStar ps t
greedy_behind [] t h = empty_is t h
greedy_behind (p ∷ []) t h = (
  take (length t - length p) t,
  [],
  (ends_is Decides-eqb t p (ends_with eqb t p) refl).0 h
      ∙ ap (λ y. take (length t - length p) t ++ y) (sym (append-nil p)),
  refl,
)
greedy_behind (p ∷ q ∷ ps) t h =
    let (r, e, g) = greedy_found q ps (after p t) h in
    let (gap, w) = placed p t r e in
    (gap, r, w, greedy_behind (q ∷ ps) r g)

pub behind_greedy : (ps : List (List ℕ)) (t : List ℕ) → IsJoinedAfterStar ps t → greedy ps t ≡ true
behind_greedy [] t h = rw h refl
behind_greedy (p ∷ []) t (gap, rest, e, g) = (ends_is Decides-eqb t p (ends_with eqb t p) refl).1 gap
    (e ∙ ap (λ y. gap ++ (p ++ y)) g ∙ ap (λ y. gap ++ y) (append-nil p))
behind_greedy (p ∷ q ∷ ps) t (gap, rest, e, g) =
    let (r, x, w, k) = first p gap rest in
    let found : after p t ≡ Some r = ap (after p) e ∙ w in
    let more : greedy (q ∷ ps) (x ++ rest) ≡ true = behind_greedy (q ∷ ps) (x ++ rest) (more_behind q ps x rest g) in
    ap (λ o. option_map_or (greedy (q ∷ ps)) o false) found ∙ ap (greedy (q ∷ ps)) k ∙ more

-- ---- cuts at a star
abbrev pub no_star : ℕ → Bool
no_star b = not (b == 42)

pub in_front_one : (b : ℕ) (t : List ℕ) (c : Bool) → (b == 42) ≡ c → not c ≡ true → pieces t ≡ t ∷ [] → pieces (b ∷ t) ≡ (b ∷ t) ∷ []
in_front_one b t c e h k = grind arith

pub one_piece : (t : List ℕ) → list_all no_star t ≡ true → pieces t ≡ t ∷ []
one_piece [] h = refl
one_piece (b ∷ t) h = grind (arith, one_piece t, in_front_one)

in_front_more : (b : ℕ) (t p : List ℕ) (ps : List (List ℕ)) (c : Bool) → (b == 42) ≡ c → not c ≡ true → pieces t ≡ p ∷ ps → pieces (b ∷ t) ≡ (b ∷ p) ∷ ps
in_front_more b t p ps c e h k = grind arith

pub first_piece : (p rest : List ℕ) → list_all no_star p ≡ true → pieces (p ++ 42 ∷ rest) ≡ p ∷ pieces rest
first_piece [] rest h = refl
first_piece (b ∷ p) rest h = grind (arith, first_piece p rest, in_front_more)

pub cut : (t : List ℕ) (k : ℕ) → k < length t → get_or t k 0 ≡ 42 → list_all no_star (take k t) ≡ true → pieces t ≡ take k t ∷ pieces (drop (k + 1) t)
cut t k l e h =
    let one : k + 1 ≡ suc k = omega arith in
    let whole : t ≡ take k t ++ 42 ∷ drop (k + 1) t = sym (take-append-drop k t)
    ∙ ap (λ y. take k t ++ y) (drop-cons t k 0 l ∙ ap (λ b. b ∷ drop (suc k) t) e ∙ ap (λ n. 42 ∷ drop n t) (sym one)) in
    ap pieces whole ∙ first_piece (take k t) (drop (k + 1) t) h

pub greedy_cut : (p q t : List ℕ) → greedy (p ∷ pieces q) t ≡ option_map_or (greedy (pieces q)) (after p t) false
greedy_cut p q t =
    let (r, rs, e) = pieces_some q in
    rw e refl

true_both : (a b : Bool) → (a ≡ true → b ≡ true) → (b ≡ true → a ≡ true) → a ≡ b
true_both a b f g = grind arith

pub front_and_behind : (pattern t p q : List ℕ) (c : Bool) → pieces pattern ≡ p ∷ pieces q → c ≡ starts_with eqb t p → matches pattern t
    ≡ (c && greedy (pieces q) (drop (length p) t))
front_and_behind pattern t p q c e s =
    true_both (matches pattern t) (c && greedy (pieces q) (drop (length p) t))
    (λ h.
    let (rest, w, g) : IsJoined (p ∷ pieces q) t = subst (λ ps. IsJoined ps t) e (matches_joins pattern t h) in
    let starts : c ≡ true = (starts_is Decides-eqb t p c s).1 rest w in
    let tail : drop (length p) t ≡ rest = ap (drop (length p)) w ∙ drop_at p rest (length p) refl in
    all_of c (greedy (pieces q) (drop (length p) t)) starts (ap (greedy (pieces q)) tail ∙ behind_greedy (pieces q) rest g))
    (λ h.
    let both_hold = both c (greedy (pieces q) (drop (length p) t)) h in
    let w = (starts_is Decides-eqb t p c s).0 both_hold.0 in
    joins_matches pattern t (subst (λ ps. IsJoined ps t) (sym e) (drop (length p) t, w, greedy_behind (pieces q) (drop (length p) t) both_hold.1)))

pub after_is : (p t : List ℕ) (o : Option (List ℕ)) → starts_with eqb t p ≡ true → o ≡ Some (drop (length p) t) → o ≡ after p t
after_is p t o h e = e ∙ sym (after_here p t h)

pub greedy_none : (whole p q t : List ℕ) → pieces whole ≡ p ∷ pieces q → after p t ≡ None → false ≡ greedy (pieces whole) t
greedy_none whole p q t e n = sym (ap (λ ps. greedy ps t) e ∙ greedy_cut p q t ∙ ap (λ o. option_map_or (greedy (pieces q)) o false) n)

pub greedy_some : (whole p q t r : List ℕ) → pieces whole ≡ p ∷ pieces q → after p t ≡ Some r → greedy (pieces q) r ≡ greedy (pieces whole) t
greedy_some whole p q t r e n = sym (ap (λ ps. greedy ps t) e ∙ greedy_cut p q t ∙ ap (λ o. option_map_or (greedy (pieces q)) o false) n)

pub whole_is : (pattern t : List ℕ) (r : Bool) → pieces pattern ≡ pattern ∷ [] → r ≡ pointwise eqb pattern t → r ≡ matches pattern t
whole_is pattern t r e h = grind (arith, slice_eq-Decides, matches_joins, append-nil, joins_matches, true_both)

pub cut_true : (pattern t p : List ℕ) (k : ℕ) (c : Bool) → pieces pattern ≡ take k pattern ∷ pieces (drop (k + 1) pattern) → k < length pattern
    → p ≡ take k pattern → c ≡ starts_with eqb t p → matches pattern t ≡ (c && greedy (pieces (drop (k + 1) pattern)) (drop k t))
cut_true pattern t p k c e l w s = grind (arith, length-take-le, front_and_behind)
