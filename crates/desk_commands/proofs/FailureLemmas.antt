-- When a command tells broken rows, by what was read before.
use Rattle.desk_commands.proofs.Common.{◌≡◌, Option, Some, Ok, Err, Result, arith, IsErrAnd, ok_or, Sees, Wears, CommandList, IsValid}
use Rattle.desk_commands.proofs.Common.{Records, records, HoldsLedger, Ledger, ledger_of, seen_in, Fault, Ghosts, FailsGiven, HasReason, ReadableAs}
use Rattle.desk_commands.proofs.Common.{IsReadable, Calls, IsOfList, FailsWriting}
use Rattle.desk_commands.specs.Failures.{FailsWritingIn}
use Rattle.sqlite.specs.State.{State}
use Rattle.sql_calls.specs.Standing.{Finds}

-- what is there isn't missing
pub never_missing : {A E : Type 0} {o : Option A} (e : E) {f : E} {x : A} → Err f ≡ ok_or o e → o ≡ Some x → ⊥
never_missing e missing is = grind (arith, missing, is)

-- at the exit with this fault, what both words say
abbrev pub Exits : (Ledger → Type 0) → State → State → Fault → Type 0
Exits Given was new fault = (l : Ledger) → Sees HoldsLedger was l → ReadableAs Given l → HasReason new ⊥ fault

-- ---- the exit of a `?`

module _ {S B : Type 0} {g : Ghosts S} {Given : Ledger → Type 0} {old new : Calls S} where
  -- .. where it reads
  pub reads_end : {fault : Fault} → Exits Given (seen_in g old) (seen_in g new) fault → {out : Result B Fault} → IsErrAnd out (λ e. e ≡ fault)
      → FailsGiven g Given old new out
  reads_end exits is = grind arith

  -- .. and where it writes
  pub writes_end : {fault : Fault} → Exits Given (seen_in g old) (seen_in g new) fault → {out : Result B Fault} → IsErrAnd out (λ e. e ≡ fault)
      → FailsWriting g Given old new out
  writes_end exits is = grind arith

  -- a step asks less than what is known before it
  pub writes_as : {Asked : Ledger → Type 0} → ((l : Ledger) → Given l → Asked l) → (out : Result B Fault) → FailsWriting g Asked old new out
      → FailsWriting g Given old new out
  writes_as means out w = grind arith

-- ---- behind a write

-- what reads and then writes behind it, where the ledger between can be read
pub writes_behind : {S B : Type 0} {g : Ghosts S} {Given : Ledger → Type 0} {old mid new : Calls S}
    → ((l : Ledger) → Sees HoldsLedger (seen_in g old) l → ReadableAs Given l → (next : Ledger) × IsReadable next × Sees HoldsLedger (seen_in g mid) next)
    → (out : Result B Fault) → FailsWritingIn g mid new out → FailsWriting g Given old new out
writes_behind means out w = grind arith

-- ---- by what is given

pub never_given : {Given : Ledger → Type 0} {was new : State} {fault : Fault} → ((l : Ledger) → Given l → ⊥)
    → Exits Given was new fault
never_given why = λ l sees it. absurd (why l it.given)

-- ---- by what was read

module _ {A : Type 0} {Given : Ledger → Type 0} {was new : State} {x : A} {fault : Fault} where
  -- it leaves no broken rows
  pub never : {P : Ledger → A → Type 0} → Finds HoldsLedger (λ (l : Ledger). l) {E = Fault} was new (Ok x) P → ((l : Ledger) → P l x → Given l → ⊥)
      → Exits Given was new fault
  never read why = λ l sees it. record { reason = λ is clean. absurd (why l ((read.finds l sees).1 clean) it.given) }

  module _ {seen : State} where
    -- a call asks for it
    pub asked : {P : Ledger → A → Type 0} → Finds HoldsLedger (λ (l : Ledger). l) {E = Fault} was seen (Ok x) P → Wears seen new
        → {Asked : Ledger → Type 0} → ((l : Ledger) → P l x → Given l → Asked l) → Exits Asked seen new fault → Exits Given was new fault
    asked read wears means exits = grind arith

    pub asked_at : ((l : Ledger) → Given l → IsOfList l) → {P : Records → A → Type 0} → Finds HoldsLedger ledger_of {E = Fault} was seen (Ok x) P
        → {Asked : Ledger → Type 0} → Wears seen new
        → ((h : CommandList) → IsValid h → P (records h) x → Given (ledger_of (records h)) → Asked (ledger_of (records h))) → Exits Asked seen new fault
        → Exits Given was new fault
    asked_at listed read wears means exits = grind arith

  -- .. of the records of a list
  pub never_at : ((l : Ledger) → Given l → IsOfList l) → {P : Records → A → Type 0} → Finds HoldsLedger ledger_of {E = Fault} was new (Ok x) P
      → ((h : CommandList) → IsValid h → P (records h) x → Given (ledger_of (records h)) → ⊥) → Exits Given was new fault
  never_at listed read why = asked_at listed read {Asked = λ l. ⊥} (omega arith) why (never_given (λ l none. none))
