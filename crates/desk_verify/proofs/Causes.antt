-- What a failed store is blamed on in the checks.
use Rattle.desk_verify.proofs.Common.{◌≡◌, ◌≤◌, ◌<◌, ◌^◌, ℕ, pos, ◌+◌, slice_index_or, take, Bool, not, false, List, [], length, filter, Option, Some, None}
use Rattle.desk_verify.proofs.Common.{refl, Ok, Err, Result, sym, ap, subst, ◌∙◌, arith, and_parts, AllByRecursion, Int, Row, column, value_cmp, State, Finds}
use Rattle.desk_verify.proofs.Common.{Wears, Fault, kept_if, is_number, number_in, AreSaid, IsLastNumber, AreMembers, OwnedOffer, PlacedMember, Members}
use Rattle.desk_verify.proofs.Common.{Offers, Place}
use Rattle.desk_verify.proofs.Common.{Rollouts, number_in_good, number_in_is, HoldsTables, Tables, BlamesGiven, FindsTables, seen_in, AreActions, AreOffers}
use Rattle.desk_verify.proofs.Common.{SaysOffer, any_row, large_number, many_rows, count_on, AgreesActions, AgreeBefore, Passes, checked, Artifact}
use Rattle.desk_verify.proofs.Common.{AgreesMembers, IsUpTo, limits, ReadsOf, SaysMember, is_of, unread, rules, leb-true, is_in_range}
use Rattle.desk_verify.proofs.Common.{err_from_is_err_and}
use Rattle.std.proofs.lemmas.List.Filters.{length-filter_both}
use Rattle.std.specs.Ordering.{is_eq}
use Rattle.std.proofs.Common.{IsErrAnd}
use Rattle.sqlite.specs.Store.{Ghosts}
use Rattle.desk_store.specs.Blaming.{HasUnreadable, Reading}
use Rattle.desk_store.specs.Unreadable.{HasTwins}
use Rattle.sql_calls.specs.declared.calls.Calls.{Calls}
use Rattle.desk_store.proofs.BlameLemmas.{found_reading, of_tables}
use Rattle.desk_verify.specs.Checking.{ChecksTable}
use Rattle.desk_verify.specs.private.RolloutChecks.{ReadsUpTo}
use Rattle.desk_verify.specs.Stopping.{StopsInOrder, is_read_for}
use Rattle.desk_verify.specs.declared.damage.CheckedTable.{CheckedTable}
use Rattle.desk_verify.specs.declared.damage.CheckedTable.TheVariants.{Member, RolloutGroup, Action, Offer}
use Rattle.desk_verify.proofs.Follow.{agreeing, counts}
use Rattle.std.proofs.lemmas.Bool.{false_from_ne_true}
use Rattle.desk_verify.proofs.GroupLaw.{one_rowid}

-- ---- what is given

-- what is given to a call is known by what was read before it
pub blamed_when : {S A B C : Type 0} {g : Ghosts S} {Given G : Reading → Type 0} {old mid new : Calls S} {x : A} {P : Tables → A → Type 0}
    → FindsTables g {E = Fault} old mid (Ok x) P
    → Wears (seen_in g mid) (seen_in g new) → (fault : Fault) → BlamesGiven g G {A = C} mid new (Err fault)
    → ((reading : Reading) → P reading.tables x → Given reading → G reading)
    → (out : Result B Fault) → IsErrAnd out (λ e. e ≡ fault) → BlamesGiven g Given old new out
blamed_when {B = B} {g = g} {Given = Given} {old = old} {new = new} read wears fault blames means out told =
    let is = err_from_is_err_and out told in
    subst (BlamesGiven g Given {A = B} old new) (sym (is.1 ∙ ap Err is.2))
    (record {
      to = λ reading sees given. record {
        reason = λ broken clean.
            let seen = (found_reading read).finds reading sees in
            (blames.to reading seen.0 (means reading (seen.1 (omega (arith, clean, wears))) given)).reason broken clean;
      };
    })

-- a list is no longer than its table
pub listed_many : (reading : Reading) (p : Place) (test : Row → Bool) (count : ℕ) → count ≡ length (filter test (reading.tables p)) → 2 ^ 32 ≤ count
    → ReadsOf p reading → HasUnreadable reading
listed_many reading p test count is large given =
    unread reading (many_rows p (omega (arith, is, large, length-filter_both test (λ row. not (test row)) (λ row. refl) (reading.tables p)))) given

-- ---- rollouts

-- up to the last
pub up_to : (t : Tables) (before last : ℕ) → IsLastNumber (t Rollouts) last → before < last → IsUpTo (before + 1) t
up_to t before last is within = grind arith

-- the number that is made of a number is that
pub same_number : (n m : ℕ) → kept_if is_number n ≡ Some m → m ≡ n
same_number n m h = grind arith

-- a number that is too large is that of no rollout, and then the last one is too
pub past_limit : (reading : Reading) (n : ℕ) → kept_if is_number n ≡ None → ReadsUpTo n reading → HasUnreadable reading
past_limit reading n none given = unread reading (large_number up.there.row up.there.among (go (number_in (column up.there.row 0)) refl)) given.rollouts
  where
    up : IsUpTo n reading.tables
    up = given.up

    go : (o : Option ℕ) → number_in (column up.there.row 0) ≡ o → o ≡ None
    go None is = refl
    go (Some m) is =
        let same : m ≡ up.last = one_rowid m up.last [] (ap (λ v. is_eq (value_cmp v (Int (pos up.last)))) (sym (number_in_is (column up.there.row 0) m is))
        ∙ up.there.numbered) in
        grind (arith, leb-true m limits.number, and_parts, number_in_good (column up.there.row 0) m is, is_in_range n up.low, none)

-- ---- members

-- in a table that agrees, two members have one place
pub twin_place : (t : Tables) (r : ℕ) (members : List PlacedMember) → AreMembers (t Members) r members → count_on 0 members ≡ false → AgreesMembers t
    → HasTwins (t Members) (is_of r) (SaysMember r) (λ (m : PlacedMember). m.place)
twin_place t r members are k agree = grind (arith, false_from_ne_true, counts 0 members, agreeing t r members are agree, are.said, are.rise)

-- ---- offers

pub all_offers : (t : Tables) (found : List OwnedOffer) → AreSaid (t Offers) any_row SaysOffer found → AreOffers t
all_offers t found said row among = let it = said.complete row among refl in (it.one.id, it.one.offer, it.is)

pub all_actions : (t : Tables) → AgreesActions t → AreActions t
all_actions t agree row among = let it = agree.each row among in (it.number, it.action, it.is)

-- two answers of one call
pub together : {A : Type 0} {a b : State} {x : A} {P W : Tables → A → Type 0} → Finds HoldsTables (λ (t : Tables). t) {E = Fault} a b (Ok x) P
    → Finds HoldsTables (λ (t : Tables). t) {E = Fault} a b (Ok x) W → Finds HoldsTables (λ (t : Tables). t) {E = Fault} a b (Ok x) (λ t y. P t y × W t y)
together one other = record { wears = one.wears; finds = λ t was. ((one.finds t was).0, λ clean. ((one.finds t was).1 clean, (other.finds t was).1 clean)) }

-- ---- the order of the checks

-- those so far are those before
pub so_far : (t : Tables) (i : ℕ) → i < 5 → AllByRecursion (Passes t) (take i checked) → AgreeBefore (slice_index_or checked i Artifact) t
so_far t i within pass = grind arith

-- what is known while the table is checked, where all is read that its check reads
checks : (table : CheckedTable) (t : Tables) → AgreeBefore table t → ChecksTable table (record { tables = t; reads = is_read_for table })
checks Artifact t agree = search rules
checks Member t agree = search rules
checks RolloutGroup t agree = search rules
checks Action t agree = search rules
checks Offer t agree = search rules

-- those before this one agree, and its check tells broken rows
pub stops_at : {S A B : Type 0} {g : Ghosts S} {old mid new : Calls S} {P : Tables → Type 0} (table : CheckedTable)
    → FindsTables g {E = Fault} old mid (Ok (tt {0})) (λ t u. P t) → Wears (seen_in g mid) (seen_in g new) → (fault : Fault)
    → BlamesGiven g (ChecksTable table) {A = A} mid new (Err fault) → ((t : Tables) → P t → AgreeBefore table t)
    → (out : Result B Fault) → IsErrAnd out (λ e. e ≡ fault) → StopsInOrder g old new out
stops_at {B = B} {g = g} {old = old} {new = new} table read wears fault blames means out told = let is = err_from_is_err_and out told in
    subst (StopsInOrder g {A = B} old new) (sym (is.1 ∙ ap Err is.2))
    (record {
      to = λ t sees always. record {
        reason = λ broken clean.
            let seen = read.finds t sees in
            let reading : Reading = record { tables = t; reads = is_read_for table } in
            let agree = means t (seen.1 (omega (arith, clean, wears))) in
            record { table = table; agree = agree; unreadable = (blames.to reading (of_tables reading seen.0) (checks table t agree)).reason broken clean };
      };
    })
