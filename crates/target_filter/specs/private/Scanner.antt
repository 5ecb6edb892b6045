-- What a scanner knows behind a beginning of a text, a byte at a time.
use Rattle.std.specs.Prelude.{◌≡◌, ◌⊎◌, ◌≤◌, ◌<◌, length, take, slice_index, ℕ, ◌+◌, ◌-◌, List, [], ◌∷◌, max, Bool, true, false, cond, nat_lt, ◌==◌}
use Rattle.std.specs.Prelude.{◌&&◌, codes, Option, Some, None}
use Rattle.std.specs.Option.{option_and_then}
use Rattle.rollout_model.specs.Limits.{limits}
use Rattle.rollout_model.specs.Rules.{is_word_letter}
use Rattle.target_filter.specs.Grammar.{is_bare_byte, is_quotable_byte}

-- what is wanted next
pub data Mode : Type 0 where
  AtomStart : Mode
  -- the rest of a field's name, which is `attribute.` if a key follows
  FieldName : (left : List ℕ) → (keyed : Bool) → Mode
  -- so many letters of a key stand there
  Key : (count : ℕ) → Mode
  -- the second byte of an operator
  Equals : Mode
  Value : Mode
  Bare : Mode
  Quoted : Mode
  AtomEnd : Mode

pub record State : Type 0 where
  pub depth : ℕ
  pub deepest : ℕ
  pub mode : Mode

-- what a byte does
pub data Move : Type 0 where
  Go : Mode → Move
  Open : Move
  Close : Move
  Next : Move
  Stop : Move

abbrev pub mode_of_name : List ℕ → Bool → Mode
mode_of_name [] true = Key 0
mode_of_name [] false = FieldName [] false
mode_of_name (x ∷ xs) keyed = FieldName (x ∷ xs) keyed

abbrev pub at_atom_start : ℕ → Move
at_atom_start b = cond (b == 99) (Go (FieldName (codes "ontrollerid") false))
    (cond (b == 110) (Go (FieldName (codes "ame") false)) (cond (b == 116) (Go (FieldName (codes "ag") false))
    (cond (b == 97) (Go (FieldName (codes "ttribute.") true)) (cond (b == 40) Open Stop))))

abbrev pub at_operator : ℕ → Move
at_operator b = cond (b == 61) (Go Equals) (cond (b == 33) (Go Equals) Stop)

abbrev pub at_atom_end : ℕ → Move
at_atom_end b = cond (b == 44) Next (cond (b == 59) Next (cond (b == 41) Close Stop))

abbrev pub next : Mode → ℕ → Move
next AtomStart b = at_atom_start b
next (FieldName [] keyed) b = at_operator b
next (FieldName (x ∷ xs) keyed) b = cond (b == x) (Go (mode_of_name xs keyed)) Stop
next (Key n) b = cond (is_word_letter b) (cond (nat_lt n limits.word_length) (Go (Key (n + 1))) Stop) (cond (nat_lt 0 n) (at_operator b) Stop)
next Equals b = cond (b == 61) (Go Value) Stop
next Value b = cond (is_bare_byte b) (Go Bare) (cond (b == 34) (Go Quoted) Stop)
next Bare b = cond (is_bare_byte b) (Go Bare) (at_atom_end b)
next Quoted b = cond (is_quotable_byte b) (Go Quoted) (cond (b == 34) (Go AtomEnd) Stop)
next AtomEnd b = at_atom_end b

abbrev pub state_after : State → Move → Option State
state_after s (Go m) = Some (record { depth = s.depth; deepest = s.deepest; mode = m })
state_after s Open = Some (record { depth = s.depth + 1; deepest = max s.deepest (s.depth + 1); mode = AtomStart })
state_after s Close = cond (nat_lt 0 s.depth) (Some (record { depth = s.depth - 1; deepest = s.deepest; mode = AtomEnd })) None
state_after s Next = Some (record { depth = s.depth; deepest = s.deepest; mode = AtomStart })
state_after s Stop = None

abbrev pub step : State → ℕ → Option State
step s b = state_after s (next s.mode b)

abbrev pub run : State → List ℕ → Option State
run s [] = Some s
run s (b ∷ bs) = option_and_then (λ t. run t bs) (step s b)

abbrev pub start : State
start = record { depth = 0; deepest = 0; mode = AtomStart }

abbrev pub ends_atom : Mode → Bool
ends_atom Bare = true
ends_atom AtomEnd = true
ends_atom AtomStart = false
ends_atom (FieldName left keyed) = false
ends_atom (Key n) = false
ends_atom Equals = false
ends_atom Value = false
ends_atom Quoted = false

abbrev pub accepts : State → Bool
accepts s = ends_atom s.mode && s.depth == 0

-- the scanner stops behind so many bytes: it takes no further byte, or the text ends too early
pub record StopsBehind (text : List ℕ) (n : ℕ) : Type 0 where
  pub state : State
  pub within : n ≤ length text
  pub went : run start (take n text) ≡ Some state
  pub why : ((n ≡ length text) × (accepts state ≡ false)) ⊎ ((n < length text) × (step state (slice_index text n) ≡ None))

-- the scanner takes the whole text, and this was the greatest depth
pub record Ends (text : List ℕ) (deepest : ℕ) : Type 0 where
  pub state : State
  pub went : run start text ≡ Some state
  pub accepts_it : accepts state ≡ true
  pub deepest_is : state.deepest ≡ deepest
