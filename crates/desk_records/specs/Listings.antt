-- What is read of the rows of a table, whatever rows it has. `says` is what a row says where it keeps its rules.
use Rattle.std.specs.Prelude.{◌≡◌, ◌≤◌, ◌⊎◌, ℕ, Bool, true, false, List, length, filter, pos, nat_eq, Option, Some, None}
use Rattle.std.specs.List.{AllZip, list_all}
use Rattle.sqlite_value.specs.declared.value.Value.{Value}
use Rattle.sqlite_value.specs.declared.value.Value.TheVariants.{Int, Text}
use Rattle.sqlite_value.specs.Order.{Row, column}
use Rattle.sqlite_rules.specs.Lists.{Has}
use Rattle.sqlite_trees.specs.Tree.{has_rowid}
use Rattle.rollout_machine.specs.ByteStrings.{same_bytes}
use Rattle.rollout_machine.specs.Commands.{Bytes}

-- ---- which rows

abbrev pub is_number_of : ℕ → Value → Bool
is_number_of n (Int (pos m)) = nat_eq m n
is_number_of n _ = false

-- the column at this place has this number
abbrev pub has_at : ℕ → ℕ → Row → Bool
has_at place n row = is_number_of n (column row place)

abbrev pub is_text_of : Bytes → Value → Bool
is_text_of text (Text t) = same_bytes t text
is_text_of text _ = false

-- the column at this place has this text
abbrev pub has_text_at : ℕ → Bytes → Row → Bool
has_text_at place text row = is_text_of text (column row place)

-- a row has this rowid
pub record HasNumber (rows : List Row) (n : ℕ) : Type 0 where
  pub row : Row
  pub among : Has rows row
  pub numbered : has_rowid (pos n) row ≡ true

-- ---- what they say

module _ {A : Type 0} (rows : List Row) (test : Row → Bool) (says : Row → A → Type 0) where
  -- a row that passes the test says this
  pub record IsSaid (a : A) : Type 0 where
    pub row : Row
    pub among : Has rows row
    pub passes : test row ≡ true
    pub is : says row a

  -- what the row says is among these
  pub record IsAmong (found : List A) (row : Row) : Type 0 where
    pub one : A
    pub among : Has found one
    pub is : says row one

  -- what the rows say that pass the test, each in its turn
  pub record AreSaid (found : List A) : Type 0 where
    pub sound : (a : A) → Has found a → IsSaid a
    pub complete : (row : Row) → Has rows row → test row ≡ true → IsAmong found row
    pub count : length found ≡ length (filter test rows)

  -- one of them breaks a rule
  pub record AreBroken : Type 0 where
    pub row : Row
    pub among : Has rows row
    pub passes : test row ≡ true
    pub breaks : (a : A) → says row a → ⊥

  -- a row passes the test, and each that does says this
  pub record IsOnly (a : A) : Type 0 where
    pub said : IsSaid a
    pub each : (row : Row) → Has rows row → test row ≡ true → says row a

  -- what the rows say that pass the test, or none does
  abbrev pub FindsOne : Option A → Type 0
  FindsOne (Some a) = IsOnly a
  FindsOne None = (row : Row) → Has rows row → test row ≡ true → ⊥

-- the greatest rowid that is a number, and 0 where there is no row
pub record IsLastNumber (rows : List Row) (last : ℕ) : Type 0 where
  pub greatest : (n : ℕ) → HasNumber rows n → n ≤ last
  pub there : (last ≡ 0) ⊎ HasNumber rows last

-- ---- what shown rows are read as

-- each as it is read, or one of them breaks a rule
abbrev pub AreRead : {A : Type 0} → (Row → A → Type 0) → (Row → Bool) → List Row → Option (List A) → Type 0
AreRead is keeps shown (Some found) = AllZip is shown found
AreRead is keeps shown None = list_all keeps shown ≡ false
