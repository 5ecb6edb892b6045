-- What the inbox hands out.
use Rattle.std.specs.Prelude.{◌≡◌, ℕ, ◌+◌, ◌≤◌, ◌++◌, length, List, [], ◌∷◌, map, take, Option, Some, None, Result, Ok, Err}
use Rattle.http_wire.specs.declared.message.Field.{Field}
use Rattle.http_wire.specs.declared.message.Message.{Message}
use Rattle.http_wire.specs.Faults.{WireFault}
use Rattle.http_wire.specs.Heads.{NameAndValue}
use Rattle.http_wire.specs.Messages.{WireMessage, IsMessage, IsFault, IsUndecided}
use Rattle.http_wire.specs.Streams.{Begins}

abbrev pub field_view : Field → NameAndValue
field_view f = (f.name.now, f.value.now)

-- the fields of a message
abbrev pub fields_shown : Message → List NameAndValue
fields_shown m = map field_view (take m.field_count m.fields)

-- the parts of a message
abbrev pub message_of : Message → WireMessage
message_of m = record {
  method = m.method.now;
  target = m.target.now;
  fields = fields_shown m;
  body = m.body.now;
}

-- what stands at the front of the bytes, and what is left when it is handed out
abbrev pub StandsInFront : List ℕ → Option (Result Message WireFault) → List ℕ → Type 0
StandsInFront bytes None left = IsUndecided bytes × (left ≡ bytes)
StandsInFront bytes (Some (Err f)) left = IsFault bytes f × (left ≡ bytes)
StandsInFront bytes (Some (Ok m)) left = IsMessage bytes (message_of m) left

-- the message, if there is one
abbrev pub handed_out : Option (Result Message WireFault) → List WireMessage
handed_out None = []
handed_out (Some (Err f)) = []
handed_out (Some (Ok m)) = message_of m ∷ []

-- one call hands out what stands at the front, or nothing where neither a message nor a fault does
pub record HandsOut (bytes : List ℕ) (r : Option (Result Message WireFault)) (left : List ℕ) : Type 0 where
  pub answer : StandsInFront bytes r left
  -- the messages handed out so far are the first messages of all bytes fed so far
  pub so_far : (fed : List ℕ) (given : List WireMessage) → Begins fed given bytes → Begins fed (given ++ handed_out r) left
  -- each message takes some bytes
  pub progress : length left + length (handed_out r) ≤ length bytes
