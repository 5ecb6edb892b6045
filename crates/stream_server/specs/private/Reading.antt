-- What one read does to the inbox.
use Rattle.std.specs.Prelude.{◌≡◌, ℕ, ◌<◌, Bool, true, false, List, [], ◌++◌, length, Option, Result, Ok, Err}
use Rattle.std.specs.Io.KnownBytes.{Consumes, IsAtEnd}
use Rattle.http_wire.specs.Messages.{WireMessage}
use Rattle.http_wire.specs.Streams.{Begins}
use Rattle.stream_server.specs.declared.served.ServeFault.{ServeFault}
use Rattle.stream_server.specs.declared.served.ServeFault.TheVariants as serve_fault

-- these bytes came next, and the messages that began the stream begin the longer one
abbrev pub GrowsTo : List ℕ → List ℕ → List ℕ → Type 0
GrowsTo old piece new = (fed : List ℕ) (given : List WireMessage) → Begins fed given old → Begins (fed ++ piece) given new

abbrev pub ReadsOn : Option (List ℕ) → Option (List ℕ) → List ℕ → List ℕ → Bool → Result Bool ServeFault → Type 0
ReadsOn old new held held_new failed (Ok true) = (piece : List ℕ) × Consumes old new piece × (0 < length piece) × GrowsTo held piece held_new
ReadsOn old new held held_new failed (Ok false) = Consumes old new [] × IsAtEnd new × (held_new ≡ held)
ReadsOn old new held held_new failed (Err serve_fault.Read) = Consumes old new [] × (held_new ≡ held) × (failed ≡ true)
ReadsOn old new held held_new failed (Err serve_fault.Memory) = (piece : List ℕ) × Consumes old new piece × (after : List ℕ) × GrowsTo held piece after
ReadsOn old new held held_new failed (Err fault) = ⊥
