-- A stream: its messages, and how it ends.
use Rattle.std.specs.Prelude.{◌≡◌, ℕ, ◌<◌, List, [], ◌∷◌, length}
use Rattle.http_wire.specs.Faults.{End, Input, Cut, Fault}
use Rattle.http_wire.specs.Messages.{WireMessage, IsMessage, IsFault, IsUndecided}

-- the bytes are these messages, one after the other, and then rest
abbrev pub Begins : List ℕ → List WireMessage → List ℕ → Type 0
Begins bytes [] rest = bytes ≡ rest
Begins bytes (m ∷ ms) rest = (after : List ℕ) × IsMessage bytes m after × Begins after ms rest

-- how a stream ends whose messages leave this rest
abbrev pub EndsAs : List ℕ → End → Type 0
EndsAs rest Input = rest ≡ []
EndsAs rest Cut = (0 < length rest) × IsUndecided rest
EndsAs rest (Fault f) = IsFault rest f

-- the stream is these messages, and ends so
abbrev pub HasMessages : List ℕ → List WireMessage → End → Type 0
HasMessages bytes ms end = (rest : List ℕ) × Begins bytes ms rest × EndsAs rest end
