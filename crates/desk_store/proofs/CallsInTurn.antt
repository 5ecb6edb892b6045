-- What calls leave one after the other.
use Rattle.desk_store.proofs.Common.{◌≡◌, Ok, Result, arith, Fault, Ghosts, Calls}
use Rattle.std.specs.Prelude.{Err}
use Rattle.std.specs.Result.{IsErrAnd}
use Rattle.desk_store.specs.Changing.{StaysIn}

pub stays_then : {S A B : Type 0} {g : Ghosts S} {a b c : Calls S} {x : A} → StaysIn g a b (Ok x) → (out : Result B Fault) → StaysIn g b c out
    → StaysIn g a c out
stays_then first out second = grind arith

-- .. at a `?`
pub stays_end : {S A B : Type 0} {g : Ghosts S} {a b : Calls S} {fault : Fault} → StaysIn g {A = A} a b (Err fault) → (out : Result B Fault)
    → IsErrAnd out (λ e. e ≡ fault) → StaysIn g a b out
stays_end first out is = grind arith
