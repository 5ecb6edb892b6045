-- What the bytes of a stream begin with: a message, a fault or neither.
use Rattle.std.specs.Prelude.{◌≡◌, ℕ, ◌+◌, ◌<◌, ◌≤◌, ◌⊎◌, List, ◌++◌, length, map, Ok, Err}
use Rattle.rollout_model.specs.Limits.{limits}
use Rattle.http_wire.specs.Faults.{WireFault, BadHead, HeadTooLarge}
use Rattle.http_wire.specs.Regions.{HasRegion, HasNoRegion, HasFewFields, line_ends}
use Rattle.http_wire.specs.Heads.{HeadParts, SpellsHead, NameAndValue, name_and_value}
use Rattle.http_wire.specs.BodyLengths.{body_length}

-- a whole message, as pure values
pub record WireMessage : Type 0 where
  pub method : List ℕ
  pub target : List ℕ
  pub fields : List NameAndValue
  pub body : List ℕ

-- the region is a head with these parts
pub record IsHeadWith (region method target : List ℕ) (fields : List NameAndValue) : Type 0 where
  pub few : HasFewFields region
  pub head : HeadParts
  pub spells : SpellsHead region head
  pub method_is : method ≡ head.method
  pub target_is : target ≡ head.target
  pub fields_are : fields ≡ map name_and_value head.lines

-- the bytes begin with this message, and rest follows it
pub record IsMessage (bytes : List ℕ) (m : WireMessage) (rest : List ℕ) : Type 0 where
  pub region : List ℕ
  pub has : HasRegion bytes region (m.body ++ rest)
  pub head : IsHeadWith region m.method m.target m.fields
  pub body : body_length m.fields ≡ Ok (length m.body)

-- a region that is at fault: too many fields, else no head, else the fault of the body's length
abbrev pub IsBadRegion : List ℕ → WireFault → Type 0
IsBadRegion region HeadTooLarge = limits.fields + 2 < line_ends region
IsBadRegion region BadHead = HasFewFields region × ((h : HeadParts) → SpellsHead region h → ⊥)
IsBadRegion region f =
    (method target : List ℕ) × (fields : List NameAndValue) × IsHeadWith region method target fields × (body_length fields ≡ Err f)

-- the bytes begin with what is at fault, whatever follows
abbrev pub IsFault : List ℕ → WireFault → Type 0
IsFault bytes f =
    ((region after : List ℕ) × HasRegion bytes region after × IsBadRegion region f)
    ⊎ (HasNoRegion bytes × (limits.head_length ≤ length bytes) × (f ≡ HeadTooLarge))

-- neither a whole message nor at fault
pub record IsUndecided (bytes : List ℕ) : Type 0 where
  pub no_message : (m : WireMessage) (rest : List ℕ) → IsMessage bytes m rest → ⊥
  pub no_fault : (f : WireFault) → IsFault bytes f → ⊥
