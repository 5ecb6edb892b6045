-- A new desk, from BEGIN to COMMIT.
use Rattle.desk_opening.proofs.Common.{◌≡◌, ℕ, ◌+◌, Bool, List, [], ◌∷◌, ◌++◌, ◌<◌, ◌≤◌, length, map, take, drop, get_or, pos, Ok, Err, Result, if◌then◌else◌}
use Rattle.desk_opening.proofs.Common.{None, refl, sym, subst, arith, AllByRecursion, Int, IsAscending, CreateTable, Insert, Values, State, Writes}
use Rattle.desk_opening.proofs.Common.{Fault, RunsText, drop_all, length-map, take_all, HoldsRecords, ledger_of, PUT_DESK, put_desk_is, desk_terms}
use Rattle.desk_opening.proofs.Common.{Place, places, codes, AreApart, Before, HoldsStage, Free, Nothing, Partly, Whole, first_records}
use Rattle.desk_opening.proofs.Common.{MakesTables, Makes, Sees, DeskTable, place_of, create_text_of, put_at}
use Rattle.sql_calls.specs.Standing.{Advances}
use Rattle.sql_calls.proofs.Stepping.{ran, steps_then}
use Rattle.desk_opening.proofs.Steps.{Turns, Within, begun, rests_as, within_as}
use Rattle.desk_opening.proofs.Places.{behind_apart, create_means, next_place, places_so_far, HaveNamesApart, create_text}
use Rattle.desk_opening.proofs.Tables.{table_made, desk_filled}

-- ---- the tables

one_table : (t : Place) (before : Before) (made left : List Place) → AllByRecursion (HaveNamesApart t) left → (a b : State) (out : Result (Unit {0}) Fault)
    → RunsText a b (create_text_of t) [] out → Advances HoldsStage (Partly before made (t ∷ left)) (Partly before (made ++ t ∷ []) left) a b out
one_table t before made left apart a b = ran HoldsStage (create_text_of t) [] a b (Partly before made (t ∷ left)) (Partly before (made ++ t ∷ []) left)
    (λ holds. record { command = CreateTable; means = create_means t a.now.schema holds.free.0 }) (λ holds. refl) (λ holds count w.
    let text = create_text t a.now.schema holds.free.0 in
    (w, table_made t before made left apart a b count holds (subst (λ x. Writes a b None CreateTable x [] count) text w)))

-- the first so many tables are made
abbrev pub HasMade : List Place → State → State → ℕ → Type 0
HasMade ts old new n = (before : Before) → Advances HoldsStage {A = Unit {0}} {E = Fault} (Partly before [] ts) (Partly before (take n ts) (drop n ts)) old new
    (Ok tt)

module _ (ds : List DeskTable) (old a : State) (n : ℕ) (so_far : HasMade (map place_of ds) old a n) where
  abbrev ts : List Place
  ts = map place_of ds

  pub all_made : {F : Type 0} → length ds ≤ n → MakesTables {A = Unit {0}} {E = F} ts old a (Ok tt)
  all_made seen before =
      let past : length ts ≤ n = (let same = length-map ds place_of in omega (arith, seen, same)) in
      let it = so_far before in
      record {
        wears = it.wears;
        crash = it.crash;
        sees = λ was. subst (λ left. Sees HoldsStage a (Partly before ts left)) (drop_all n ts past)
            (subst (λ made. Sees HoldsStage a (Partly before made (drop n ts))) (take_all n ts past) (it.sees was));
      }

  -- the next one is made
  pub next_made : AreApart ts → (b : State) (d : DeskTable) → n < length ds → (text : List ℕ) → text ≡ create_text_of (place_of (get_or ds n d))
      → (out : Result (Unit {0}) Fault) → RunsText a b text [] out → (before : Before)
      → Advances HoldsStage (Partly before [] ts) (Partly before (take (n + 1) ts) (drop (n + 1) ts)) old b out
  next_made all_apart b d within text is out h before =
      let next = place_of (get_or ds n d) in
      let apart : IsAscending HaveNamesApart (next ∷ drop (n + 1) ts) = subst (IsAscending HaveNamesApart) (next_place ds n d within)
      (behind_apart n ts all_apart) in
      let one = one_table next before (take n ts) (drop (n + 1) ts) apart.0 a b out (subst (λ sql. RunsText a b sql [] out) is h) in
      steps_then (so_far before) out
      (subst (λ left. Advances HoldsStage (Partly before (take n ts) left) (Partly before (take (n + 1) ts) (drop (n + 1) ts)) a b out)
      (sym (next_place ds n d within))
      (subst (λ made. Advances HoldsStage (Partly before (take n ts) (next ∷ drop (n + 1) ts)) (Partly before made (drop (n + 1) ts)) a b out)
      (sym (places_so_far ds n d within)) one))

-- ---- the whole

pub began_new : {a b : State} → RunsText a b (codes "BEGIN") [] (Ok tt) → Within HoldsStage Free a b (Partly Nothing [] places)
began_new first = within_as (λ db free. record { sound = free.0; kept = tt; stand = tt; free = free.1 }) (begun Free first)

pub desk_put : (approval : Bool) {c d : State} (out : Result (Unit {0}) Fault)
    → RunsText c d PUT_DESK.now (Int (if approval then pos 1 else pos 0) ∷ []) out
    → Advances HoldsStage (Partly Nothing places []) (Whole (ledger_of (first_records approval))) c d out
desk_put approval {c} {d} = ran HoldsStage PUT_DESK.now (Int (if approval then pos 1 else pos 0) ∷ []) c d (Partly Nothing places [])
    (Whole (ledger_of (first_records approval))) (λ h. record {
      command = Insert h.stand.0.at (Values desk_terms 5);
      means = (put_at put_desk_is).at c.now.schema h.stand.0.at h.stand.0.tree h.stand.0.stands;
    }) (λ holds. refl) (λ holds count w. (w, desk_filled approval c d _ count holds w))

pub makes_by : {A E : Type 0} {approval : Bool} {a z : State} (out : Result A E) → Turns Free (Whole (ledger_of (first_records approval))) a z out
    → Makes a z approval out
makes_by {approval = approval} {z = z} (Ok x) h = record {
  wears = h.wears;
  makes = λ was. rests_as HoldsStage HoldsRecords (Whole (ledger_of (first_records approval))) (first_records approval) (λ db held. held) z (h.turns was);
}
makes_by (Err e) h = record { wears = h.wears; makes = h.turns }
