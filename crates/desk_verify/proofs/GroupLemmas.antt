-- What the reads of the tables of groups, members and actions come to.
use Rattle.desk_verify.proofs.Common.{eqb-true, ◌≡◌, ◌≤◌, ◌<◌, ℕ, zero, suc, ◌+◌, true, false, not, List, count_by, length, Option, Some, None, refl, sym}
use Rattle.desk_verify.proofs.Common.{ap, ◌∙◌, arith, nat_eq, list_all, and_from, and_parts, nat_tests, Row, column, Has, some_from, some_has, test_from}
use Rattle.desk_verify.proofs.Common.{test_has, item_numbered, bounds_by, cut_by, leaves_empty, each_there, numbered_each, Bounds, Outcome, Good, Bad, Gone}
use Rattle.desk_verify.proofs.Common.{GroupRecord, HasNumber, has_at, Actions, Groups, Rollouts, IsGroup, Tables, is_at, number_in_is, number_in_least}
use Rattle.desk_verify.proofs.Common.{number_is, one_number, ListsRows, SaysGroup, HasGroupCount, SettlesWhether, are_bounds, are_right, counts_them, has_each}
use Rattle.desk_verify.proofs.Common.{has_group_numbered, is_cut, is_right, HasEach, IsCutOnlyBy, AgreesGroups, HasGroup}
use Rattle.desk_verify.proofs.Common.{IsInRollout, IsRightGroup, ended_in, has_ended, member_count, AreAllChecked, IsChecked, length-filter, not-true}
use Rattle.desk_verify.proofs.Common.{columns_of_group, JudgesOne}
use Rattle.rollout_machine.specs.Groupings.{Grouping}
use Rattle.desk_records.proofs.RowsTold.{same_group}
use Rattle.desk_records.specs.CountedActions.{CountsAgree}
use Rattle.desk_records.specs.declared.checked_rows.CountedAction.{CountedAction}
use Rattle.std.proofs.lemmas.Bool.{false_from_ne_true}
use Rattle.std.specs.Bool.{then_some}
use Rattle.desk_verify.proofs.RolloutLemmas.{decided, judged}
use Rattle.desk_verify.proofs.RuleLemmas.{IsGroupCount, some_groups}

-- ---- a row is one group of one rollout

pub one_rollout : (row : Row) (r s : ℕ) (g h : GroupRecord) → IsGroup row r g → IsGroup row s h → r ≡ s
one_rollout row r s g h a b = one_number (column row 1) r s (number_in_is _ _ a.rollout_is) (number_in_is _ _ b.rollout_is)

pub one_group : (row : Row) (r s : ℕ) (g h : GroupRecord) → IsGroup row r g → IsGroup row s h → g ≡ h
one_group row r s g h a b = same_group (columns_of_group row) g h a.shows b.shows

of_rollout : (row : Row) (r : ℕ) (g : GroupRecord) → IsGroup row r g → has_at 1 r row ≡ true
of_rollout row r g it = is_at row 1 r (number_in_is _ _ it.rollout_is)

-- ---- rollouts that are there

is_there : (t : Tables) (r n : ℕ) → HasGroupCount t r n → HasNumber (t Rollouts) r
is_there t r n has = record { row = has.row; among = has.among; numbered = has.numbered }

-- ---- numbers

each_number : (groups : List GroupRecord) (k : ℕ) → has_each groups k ≡ true → (i : ℕ) → 1 ≤ i → i ≤ k → has_group_numbered groups i ≡ true
each_number groups zero h = λ i low high. absurd (omega (arith, low, high))
each_number groups (suc k) h = grind (arith, each_number groups k, and_parts)

numbers_each : (groups : List GroupRecord) (k : ℕ) → ((i : ℕ) → 1 ≤ i → i ≤ k → has_group_numbered groups i ≡ true) → has_each groups k ≡ true
numbers_each groups zero each = refl
numbers_each groups (suc k) each = grind (arith, numbers_each groups k, and_from)

-- one that is missing is missed
pub one_missed : (groups : List GroupRecord) (k n : ℕ) → has_group_numbered groups (k + 1) ≡ false → k < n → has_each groups n ≡ false
one_missed groups k n missed few = grind (arith, false_from_ne_true, each_number)

-- ---- one rollout

-- the bounds of a group are those of its number
record HasOwnBounds (by : Grouping) (m : ℕ) (g : GroupRecord) : Type 0 where
  low : 1 ≤ g.number
  high : g.number ≤ by.count
  bounds : g.bounds ≡ bounds_by by m g.number

own_bounds : (by : Grouping) (m : ℕ) (g : GroupRecord) (o : Option Bounds) → item_numbered (cut_by by m) g.number ≡ o → are_bounds o g.bounds ≡ true
    → HasOwnBounds by m g
own_bounds by m g o none h = grind (arith, numbered_each, and_parts)

cut_so : (by : Grouping) (m i : ℕ) (bounds : Bounds) → 1 ≤ i → i ≤ by.count → bounds ≡ bounds_by by m i → are_bounds (item_numbered (cut_by by m) i) bounds
    ≡ true
cut_so by m i bounds low high is = grind (arith, each_there, nat_tests)

module _ {t : Tables} {r m : ℕ} {by : Grouping} (cut : IsCutOnlyBy t r by) (are : m ≡ member_count t r)
    {groups : List GroupRecord} (listed : ListsRows (t Groups) (has_at 1 r) (SaysGroup r) (Some groups)) {actions : List CountedAction}
    (acted : CountsAgree (t Actions) r actions) where
  ended_are : (bounds : Bounds) (outcome : Outcome) → count_by (has_ended bounds outcome) actions ≡ ended_in t r bounds outcome
  ended_are bounds outcome = sym (length-filter (has_ended bounds outcome) actions) ∙ acted.by (has_ended bounds outcome)

  right_is : (g : GroupRecord) → is_right (cut_by by m) actions g ≡ true → IsRightGroup t r by g
  right_is g h =
      let both = and_parts (is_cut (cut_by by m) g) (counts_them actions g) h in
      let own = own_bounds by m g (item_numbered (cut_by by m) g.number) refl both.0 in
      let e = and_parts (nat_eq g.ok (count_by (has_ended g.bounds Good) actions)) _ both.1 in
      let f = and_parts (nat_eq g.bad (count_by (has_ended g.bounds Bad) actions)) _ e.1 in
      let ended = ended_are g.bounds in
      grind (arith, own.bounds, are, eqb-true g.ok _ e.0, eqb-true g.bad _ f.0, eqb-true g.gone _ f.1, ended Good, ended Bad, ended Gone)

  is_right_one : (g : GroupRecord) → IsRightGroup t r by g → is_right (cut_by by m) actions g ≡ true
  is_right_one g right = let cut = cut_so by m g.number g.bounds right.low right.high (right.bounds ∙ ap (λ k. bounds_by by k g.number) (sym are)) in
      grind (arith, nat_tests, right.ok, right.bad, right.gone, ended_are g.bounds Good, ended_are g.bounds Bad, ended_are g.bounds Gone)

  fits : (n many : ℕ) → IsGroupCount t r n → many ≡ length groups → are_right by m actions groups ≡ true
      → IsChecked Groups 1 IsInRollout HasEach t r many
  fits n many count is h =
      let parts = and_parts (not (leaves_empty by m)) _ h in
      let full = not-true (leaves_empty by m) parts.0 in
      let both = and_parts (list_all (is_right (cut_by by m) actions) groups) (has_each groups by.count) parts.1 in
      record {
        rows = record {
          each = λ row among of. let one = listed.complete row among of in
              grind (arith, right_is one.one, test_has (is_right (cut_by by m) actions) groups one.one both.0 one.among);
          all = is ∙ listed.count;
        };
        whole = λ k i has low high.
            let few : i ≤ by.count = omega (arith, high, count.only k has, count.only by.count cut.cut.there) in
            let found = some_has (λ (g : GroupRecord). nat_eq g.number i) groups (each_number groups by.count both.1 i low few) in
            grind (arith, listed.sound found.0 found.1, nat_tests, found.2);
      }

  -- what a row of the rollout is, where the table agrees
  record IsAsItIs (g : GroupRecord) : Type 0 where
    right : IsRightGroup t r by g
    full : leaves_empty by m ≡ false

  as_it_is : AgreesGroups t → (row : Row) → Has (t Groups) row → (g : GroupRecord) → IsGroup row r g → IsAsItIs g
  as_it_is agree row among g is = let it = agree.each row among in
      grind (arith, one_rollout row it.rollout r it.group g it.is is, cut.only it.groups, one_group row it.rollout r it.group g it.is is, are)

  agreeing : 1 ≤ r → AgreesGroups t → are_right by m actions groups ≡ true
  agreeing first agree = and_from _ _ (ap not full) (and_from _ _ (test_from (is_right (cut_by by m) actions) groups each) (numbers_each groups by.count all))
    where
      has : (i : ℕ) → 1 ≤ i → i ≤ by.count → HasGroup t r i
      has i low high = agree.all r by.count i first cut.cut.there low high

      full : leaves_empty by m ≡ false
      full = let one = has 1 (omega arith) (some_groups by cut.cut.rules cut.cut.make) in (as_it_is agree one.row one.among one.group one.is).full

      each : (g : GroupRecord) → Has groups g → is_right (cut_by by m) actions g ≡ true
      each g among = let said = listed.sound g among in is_right_one g (as_it_is agree said.row said.among g said.is).right

      all : (i : ℕ) → 1 ≤ i → i ≤ by.count → has_group_numbered groups i ≡ true
      all i low high = let own = has i low high in let one = listed.complete own.row own.among (of_rollout own.row r own.group own.is) in
          let group : own.group ≡ one.one = one_group own.row r r own.group one.one own.is one.is in
          some_from (λ (g : GroupRecord). nat_eq g.number i) groups one.one one.among (grind (arith, nat_tests, own.number, group))

  pub judged_groups : (n many : ℕ) → IsGroupCount t r n → many ≡ length groups → 1 ≤ r
      → JudgesOne Groups 1 IsInRollout HasEach AgreesGroups t r (then_some (are_right by m actions groups) many)
  judged_groups n many count is first = judged Groups 1 IsInRollout HasEach AgreesGroups t r many (are_right by m actions groups) (fits n many count is)
      (agreeing first)

-- a row that breaks a rule
pub fails_broken : (t : Tables) (r : ℕ) → ListsRows (t Groups) (has_at 1 r) (SaysGroup r) None → AgreesGroups t → ⊥
fails_broken t r broken agree = grind (arith, one_number, column, number_in_is, number_is)

-- ---- all of them

-- the groups of all rollouts that are there, where there are no more
pub agrees : (t : Tables) (listed all : ℕ) → AreAllChecked Groups 1 IsInRollout HasEach t listed → all ≡ length (t Groups)
    → SettlesWhether (AgreesGroups t) (nat_eq listed all)
agrees t listed all checked is = decided AgreesGroups AgreesGroups listed all checked is
    (λ each whole. record { each = each; all = λ rollout n i low has. whole rollout low (is_there t rollout n has) n i has })
    (λ agree row among. grind (arith, agree.each row among, number_in_least, is_there, of_rollout))
