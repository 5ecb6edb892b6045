-- Calls in a change one after the other.
use Rattle.sql_calls.proofs.Common.{◌≡◌, Result, Ok, IfOk, arith, Database, State, Finds, Makes}

-- by what is between them
abbrev pub Then : {R : Type 0} → (R → R → Type 0) → (R → R → Type 0) → R → R → Type 0
Then {R = R} C D r next = (mid : R) × C r mid × D mid next

module _ {R Q : Type 0} {Holds : Database → R → Type 0} {of : Q → R} where
  -- ---- reads

  -- what is known without a read
  pub known : {A E : Type 0} {a : State} {x : A} {P : Q → A → Type 0} → ((r : Q) → P r x) → Finds Holds of {E = E} a a (Ok x) P
  known means = record { wears = omega arith; finds = λ now was. (was, λ clean. means now) }

  -- what is known of one value is known of another
  pub finds_as : {A B E F : Type 0} {a b : State} {x : A} {y : B} {P : Q → A → Type 0} {W : Q → B → Type 0} → Finds Holds of {E = E} a b (Ok x) P
      → ((r : Q) → P r x → W r y) → Finds Holds of {E = F} a b (Ok y) W
  finds_as h means = record { wears = h.wears; finds = λ now was. let it = h.finds now was in (it.0, λ clean. means now (it.1 clean)) }

  -- a second read says as much as the first
  pub both_found : {A B E F : Type 0} {a b c : State} {x : A} {y : B} {P : Q → A → Type 0} {W : Q → B → Type 0} → Finds Holds of {E = E} a b (Ok x) P
      → Finds Holds of {E = F} b c (Ok y) W
      → Finds Holds of {E = F} a c (Ok y) (λ r y. P r x × W r y)
  both_found first second = grind arith

  -- what is so wherever something is held is known with each read
  pub found_held : {A E : Type 0} {a b : State} {x : A} {P : Q → A → Type 0} {W : Q → Type 0} → ((db : Database) (r : Q) → Holds db (of r) → W r)
      → Finds Holds of {E = E} a b (Ok x) P → Finds Holds of {E = E} a b (Ok x) (λ r y. W r × P r y)
  found_held so h = grind (arith, so)

  -- a read, and then one that answers as it is
  pub found_then : {A B E F : Type 0} {a b c : State} {x : A} {P : Q → A → Type 0} {V W : Q → B → Type 0} → Finds Holds of {E = E} a b (Ok x) P
      → (out : Result B F) → Finds Holds of b c out V → ((r : Q) (y : B) → P r x → V r y → W r y)
      → Finds Holds of a c out W
  found_then first out second means = grind (arith, finds_as, both_found)

  -- what is made of what was read
  pub found_if : {A B E F : Type 0} {a b : State} {x : A} {P : Q → A → Type 0} {V : B → Type 0} {W : Q → B → Type 0} → Finds Holds of {E = E} a b (Ok x) P
      → (out : Result B F) → IfOk out V → ((r : Q) (y : B) → P r x → V y → W r y)
      → Finds Holds of a b out W
  found_if read out is means = grind (arith, finds_as)

  -- ---- writes

  pub makes_nothing : {E : Type 0} {a : State} {C : Q → Q → Type 0} → ((r next : Q) → C r next → next ≡ r) → Makes Holds of {A = Unit {0}} {E = E} a a (Ok tt) C
  makes_nothing same = grind arith

  -- writes that a change asks less of
  pub makes_as : {A E : Type 0} {a b : State} {C W : Q → Q → Type 0} → ((r next : Q) → W r next → C r next) → (out : Result A E) → Makes Holds of a b out C
      → Makes Holds of a b out W
  makes_as means out h = grind arith

  -- one and then the others, by what is between them
  pub makes_then : {A B E F : Type 0} {a b c : State} {x : A} {C D W : Q → Q → Type 0} → Makes Holds of {A = A} {E = E} a b (Ok x) C
      → ((r next : Q) → W r next → (mid : Q) × C r mid × D mid next)
      → (out : Result B F) → Makes Holds of b c out D → Makes Holds of a c out W
  makes_then first parts out second = grind arith

  -- three
  pub makes_three : {A B E F G : Type 0} {a b c d : State} {x : A} {y : B} {C D S W : Q → Q → Type 0} → Makes Holds of {E = E} a b (Ok x) C
      → Makes Holds of {E = F} b c (Ok y) D → ((r next : Q) → W r next → Then (Then C D) S r next)
      → {H : Type 0} → (out : Result H G) → Makes Holds of c d out S → Makes Holds of a d out W
  makes_three {y = y} {C = C} {D = D} first second parts out third = makes_then (makes_then {W = Then C D} first (λ r next h. h) (Ok y) second) parts out third

  -- a read, and then writes that rest on it
  pub found_then_makes : {A B E F : Type 0} {a b c : State} {x : A} {P : Q → A → Type 0} {D W : Q → Q → Type 0} → Finds Holds of {E = E} a b (Ok x) P
      → ((r next : Q) → P r x → W r next → D r next)
      → (out : Result B F) → Makes Holds of b c out D → Makes Holds of a c out W
  found_then_makes first means out second = grind arith

module _ {R Q : Type 0} {Holds : Database → R → Type 0} (of : Q → R) {A E : Type 0} {a b : State} where
  -- what is found of one thing is found of what it is made of
  pub found_of : {P : R → A → Type 0} → (out : Result A E) → Finds Holds (λ (r : R). r) a b out P → Finds Holds of a b out (λ q x. P (of q) x)
  found_of out h = grind arith

  -- .. and so is what is made
  pub made_of : {C : R → R → Type 0} → (out : Result A E) → Makes Holds (λ (r : R). r) a b out C → Makes Holds of a b out (λ q next. C (of q) (of next))
  made_of out h = grind arith
