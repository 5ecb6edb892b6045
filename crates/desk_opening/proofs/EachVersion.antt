-- What is known of each version by its cases.
use Rattle.desk_opening.proofs.Common.{arith, ◌≡◌, ℕ, ◌+◌, List, [], ◌∷◌, map, true, None, refl, subst, AllByRecursion, take-append-drop, Row, Records}
use Rattle.desk_opening.proofs.Common.{RolloutRecord}
use Rattle.desk_opening.proofs.Common.{Content, Ordered, Unordered, Offered, content_at, ledger_of, rule_row, rules_from, Place, Offers, places, IsTellable}
use Rattle.desk_opening.proofs.Common.{IsUnnumbered, later_than, places_at, table_count_of, Version, among, is_among, of_all, bare_ledger, no_rules, all_both}
use Rattle.rollout_machine.specs.declared.records.ActionRecord.{ActionRecord}
use Rattle.desk_records.specs.Parts.{parts_from}
use Rattle.desk_records.specs.FeedbackNumbers.{number_row, number_rows, numbers_of}

-- what holds of a version's tables holds of one of them
pub has_at : (v : Version) (t : Place) → is_among (places_at v) t ≡ true → (P : Place → Type 0) → AllByRecursion P (places_at v) → P t
has_at v t there P all = among P (places_at v) t all there

pub has_offers : (v : Version) (P : Place → Type 0) → AllByRecursion P (places_at v) → P Offers
has_offers v = grind (arith, has_at, Offers)

-- its tables hold what is told of the records
pub older_held : (v : Version) (r : Records) → map (content_at v (ledger_of r)) (places_at v) ≡ map (content_at v (bare_ledger v r)) (places_at v)
older_held v r = grind arith

-- records without parts have no rows of them
no_part_rows : {X Y : Type 0} (f : ℕ → ℕ → Y → Row) (parts : X → List Y) (n : ℕ) (xs : List X) → AllByRecursion (λ x. parts x ≡ []) xs
    → parts_from f (λ (its : List Y). its) n (map parts xs) ≡ []
no_part_rows f parts n [] none = refl
no_part_rows f parts n (x ∷ xs) none = rw none.0 (no_part_rows f parts (n + 1) xs none.1)

-- the content that is of the same kind and tells of nothing
abbrev pub nothing : Content → Content
nothing (Ordered wanted) = Ordered []
nothing (Unordered wanted) = Unordered []
nothing (Offered offers) = Offered (λ id. None)

-- nothing is said of groups, and no feedback bears a number
no_rule_rows : (xs : List RolloutRecord) → rules_from (no_rules xs) ≡ []
no_rule_rows xs = no_part_rows rule_row (λ (x : RolloutRecord). []) 1 xs (of_all (λ (x : RolloutRecord). [] ≡ []) (λ x. refl) xs)

no_number_rows : (as' : List ActionRecord) → AllByRecursion IsUnnumbered as' → number_rows (map numbers_of as') ≡ []
no_number_rows = no_part_rows number_row numbers_of 1

-- later ones hold nothing
pub later_held : (v : Version) (r : Records) → IsTellable v r
    → AllByRecursion (λ t. content_at v (bare_ledger v r) t ≡ nothing (content_at v (bare_ledger v r) t)) (later_than v)
later_held v r told = grind (arith, no_rule_rows, no_number_rows)

-- ---- of all

pub at_all : (v : Version) (P : Place → Type 0) → AllByRecursion P (places_at v) → AllByRecursion P (later_than v) → AllByRecursion P places
at_all v P its later = subst (AllByRecursion P) (take-append-drop (table_count_of v) places) (all_both P (places_at v) (later_than v) its later)
