-- What befalls connections: what comes where one is waited for, and what is let go of.
use Rattle.std.specs.Prelude.{ℕ, Bool, true, false, List, [], ◌∷◌, ◌++◌, Option, length}
use Rattle.std.specs.List.{filter}
use Rattle.http_wire.specs.Watched.{has_failed, inner_of}
use Rattle.http_wire.specs.declared.watched.Watched.{Watched}
use Rattle.stream_server.specs.declared.connections.Arrival.{Arrival}
use Rattle.stream_server.specs.declared.connections.Arrival.TheVariants.{Net, Unlimited, Connection}

-- a connection at a moment: the bytes that it has to give, those that were written to it, and whether a read or a write of it failed
pub record Socket : Type 0 where
  pub unread : Option (List ℕ)
  pub written : Option (List ℕ)
  pub read_failed : Bool
  pub write_failed : Bool

pub data Event : Type 0 where
  -- a connection was accepted, and given out
  Came : Socket → Event
  -- one was accepted that isn't given out, since its waiting can't be limited
  CameUnlimited : Event
  -- the one that was accepted last was let go of
  Went : Socket → Event

-- a connection of this reader and this writer
abbrev pub socket_of : {R W : Type 0} → (R → Option (List ℕ)) → (W → Option (List ℕ)) → Watched R → Watched W → Socket
socket_of remaining contents reader writer = record {
  unread = remaining (inner_of reader);
  written = contents (inner_of writer);
  read_failed = has_failed reader;
  write_failed = has_failed writer;
}

-- what befell where a connection was waited for
abbrev pub arrived : {R W : Type 0} → (R → Option (List ℕ)) → (W → Option (List ℕ)) → Arrival R W → List Event
arrived remaining contents Net = []
arrived remaining contents Unlimited = CameUnlimited ∷ []
arrived remaining contents (Connection reader writer) = Came (socket_of remaining contents reader writer) ∷ []

-- it holds where none can be accepted
abbrev pub IfNet : {R W : Type 0} → Arrival R W → Type 0 → Type 0
IfNet Net P = P
IfNet _ P = Unit {0}

-- these events befell after those that had befallen before
abbrev pub Adds : (List Event → Type 0) → (List Event → Type 0) → List Event → Type 0
Adds before after events = (log : List Event) → before log → after (log ++ events)

-- some events befell after those that had befallen before, and it holds of them
abbrev pub Befalls : (List Event → Type 0) → (List Event → Type 0) → (List Event → Type 0) → Type 0
Befalls before after P = (events : List Event) × Adds before after events × P events

-- a connection was accepted
abbrev pub is_arrival : Event → Bool
is_arrival (Came socket) = true
is_arrival CameUnlimited = true
is_arrival (Went socket) = false

-- how many were accepted
abbrev pub arrivals_in : List Event → ℕ
arrivals_in events = length (filter is_arrival events)

-- it befell a connection that was given out
abbrev pub is_of_given : Event → Bool
is_of_given (Came socket) = true
is_of_given CameUnlimited = false
is_of_given (Went socket) = true
