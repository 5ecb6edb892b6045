-- What the history of an action that was read comes to.
use Rattle.desk_verify.proofs.Common.{◌≡◌, ◌⊎◌, ◌≤◌, ℕ, true, List, [], ◌∷◌, map, Option, Some, None, refl, sym, ap, arith, Has, outcome_said}
use Rattle.desk_verify.proofs.Common.{is_outcome, Outcome, Gone, AreSaid, has_at, Feedbacks, Numbers, IsEntry, Tables, SequencedEntry, ListedAction, is_at}
use Rattle.desk_verify.proofs.Common.{number_is, one_number, SaysNumber, rise, FitsItsEntries, IsGiven, IsGivenFirst, PassesHistory, first_said, is_fit}
use Rattle.desk_verify.proofs.Common.{sequences_rise, FitsEntries, EntryGivesOutcome, KeepsNumbers, SettlesWhether, Settles, PlacedNumber}
use Rattle.desk_records.proofs.KeptColumns.{one_in}
use Rattle.desk_verify.proofs.Rising.{above, only_one, rest_rises}
use Rattle.desk_verify.proofs.RolloutLemmas.{settled}

abbrev sequence_of : SequencedEntry → ℕ
sequence_of e = e.sequence

-- ---- the first that gives an outcome

record IsFirst (entries : List SequencedEntry) (o : Outcome) : Type 0 where
  entry : SequencedEntry
  among : Has entries entry
  gives : outcome_said entry.entry.said ≡ Some o
  first : (other : SequencedEntry) (p : Outcome) → Has entries other → outcome_said other.entry.said ≡ Some p → entry.sequence ≤ other.sequence

first_among : (last : ℕ) (es : List SequencedEntry) (o : Outcome) → rise last (map sequence_of es) ≡ true → first_said es ≡ Some o → IsFirst es o
first_among last [] o rises is = absurd cc
first_among last (e ∷ es) o rises is = grind (arith, first_among e.sequence es o, rest_rises, above)

none_among : (es : List SequencedEntry) → first_said es ≡ None → (e : SequencedEntry) (o : Outcome) → Has es e → outcome_said e.entry.said ≡ Some o → ⊥
none_among [] is e o among said = absurd among
none_among (x ∷ es) is e o among said = grind (arith, none_among es)

-- ---- in the table

-- an entry that gives the outcome
pub record Gives (entries : List SequencedEntry) (sequence : ℕ) (o : Outcome) : Type 0 where
  pub entry : SequencedEntry
  pub among : Has entries entry
  pub at : entry.sequence ≡ sequence
  pub said : outcome_said entry.entry.said ≡ Some o

-- where these are the entries of the table
module _ (t : Tables) (k : ℕ) (entries : List SequencedEntry) (rises : sequences_rise entries ≡ true)
    (gives : (e : SequencedEntry) (o : Outcome) → Has entries e → outcome_said e.entry.said ≡ Some o → EntryGivesOutcome t k e.sequence o)
    (gave : (sequence : ℕ) (o : Outcome) → EntryGivesOutcome t k sequence o → Gives entries sequence o) where
  given_first : (o : Outcome) → IsFirst entries o → IsGivenFirst t k o
  given_first o it = record {
    sequence = it.entry.sequence;
    first = record {
      gives = gives it.entry o it.among it.gives;
      first = λ other p its. (let e = gave other p its in omega (arith, it.first e.entry p e.among e.said, e.at));
    };
    only = λ other p first. (let e = gave other p first.gives in let less = it.first e.entry p e.among e.said in
        let least = first.first it.entry.sequence o (gives it.entry o it.among it.gives) in
        grind (arith, only_one sequence_of 0 entries rises e.entry it.entry e.among it.among, e.said, e.at, it.gives));
  }

  pub given_by : (o : Option Outcome) → first_said entries ≡ o → IsGiven t k o
  given_by (Some o) is = given_first o (first_among 0 entries o rises is)
  given_by None is = λ sequence o it. (let e = gave sequence o it in none_among entries is e.entry o e.among e.said)

-- of entries that were read
pub given : (t : Tables) (k : ℕ) (entries : List SequencedEntry)
    → AreSaid (t Feedbacks) (has_at 1 k) (λ row (e : SequencedEntry). IsEntry row e.sequence e.entry) entries → sequences_rise entries ≡ true
    → IsGiven t k (first_said entries)
given t k entries are rises = given_by t k entries rises
    (λ e o among said. grind (arith, are.sound e among, is_at, said))
    (λ sequence o it. grind (arith, are.complete it.row it.among it.of, number_is, one_number, one_in))
    (first_said entries) refl

-- ---- the outcome

-- an outcome fits where it is that which is given
pub fits_given : (t : Tables) (k : ℕ) (given outcome : Option Outcome) → IsGiven t k given → ((said : Outcome) → given ≡ Some said → outcome ≡ Some said)
    → (given ≡ None → (outcome ≡ None) ⊎ (outcome ≡ Some Gone)) → FitsEntries t k outcome
fits_given t k (Some o) outcome it some none =
    record { given = λ s p first. some p (ap (λ q. Some q) (sym (it.only s p first))); not_given = λ no. absurd (no it.sequence o it.first.gives) }
fits_given t k None outcome it some none = record { given = λ s p first. absurd (it s p first.gives); not_given = λ no. none refl }

decides : (t : Tables) (k : ℕ) (given outcome : Option Outcome) → IsGiven t k given → SettlesWhether (FitsEntries t k outcome) (is_fit given outcome)
decides t k (Some o) outcome it = settled (is_outcome o outcome)
    (λ fit. fits_given t k (Some o) outcome it (λ said same. grind (arith, fit, same)) (λ none. absurd cc))
    (λ fits. grind (arith, fits.given it.sequence o it.first))
decides t k None outcome it = settled (is_fit None outcome)
    (λ fit. fits_given t k None outcome it (λ said none. absurd cc) (λ none. grind (arith, fit)))
    (λ fits. grind (arith, fits.not_given it))

-- ---- the numbers

kept : (t : Tables) (k : ℕ) (found : List PlacedNumber) → AreSaid (t Numbers) (has_at 1 k) SaysNumber found → KeepsNumbers t k
kept t k found are row among of = let it = are.complete row among of in (it.one, it.is)

pub settles : (t : Tables) (a : ListedAction) (given : Option Outcome) (found : List PlacedNumber) → IsGiven t a.number given
    → AreSaid (t Numbers) (has_at 1 a.number) SaysNumber found
    → Settles (PassesHistory t a) (FitsItsEntries t a) (is_fit given a.action.outcome)
settles t a given found is are = grind (arith, decides, given, kept)
