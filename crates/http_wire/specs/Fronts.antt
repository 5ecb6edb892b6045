-- What stands at the front of the bytes and what is kept of it, for the private functions.
use Rattle.std.specs.Prelude.{ℕ, ◌<◌, ◌≤◌, List, ◌++◌, length, drop, Result, Ok, Err}
use Rattle.http_wire.specs.declared.message.Message.{Message}
use Rattle.http_wire.specs.declared.message.NoMessage.{NoMessage}
use Rattle.http_wire.specs.declared.message.NoMessage.TheVariants.{AtFault, Wants}
use Rattle.http_wire.specs.Messages.{IsMessage, IsFault, IsUndecided}
use Rattle.http_wire.specs.Inbox.{message_of}

-- neither a message nor a fault, whatever follows, while there are fewer bytes than that
abbrev pub IsUndecidedBelow : ℕ → List ℕ → Type 0
IsUndecidedBelow wanted bytes = (more : List ℕ) → length (bytes ++ more) < wanted → IsUndecided (bytes ++ more)

-- a message, a fault, or neither in the bytes that are there
abbrev pub StandsFirst : List ℕ → Result (Message × ℕ) NoMessage → Type 0
StandsFirst bytes (Ok (m, len)) = (len ≤ length bytes) × IsMessage bytes (message_of m) (drop len bytes)
StandsFirst bytes (Err (AtFault f)) = IsFault bytes f
StandsFirst bytes (Err (Wants len)) = (length bytes < len) × IsUndecidedBelow len bytes
