-- What can be wrong with a message, and how a stream ends.
pub use Rattle.http_wire.specs.declared.fault.WireFault.{WireFault}
pub use Rattle.http_wire.specs.declared.fault.WireFault.TheVariants.{TooLarge, BadHead, BadLength, HeadTooLarge, BadCoding}
pub use Rattle.http_wire.specs.declared.stream.End.{End}
pub use Rattle.http_wire.specs.declared.stream.End.TheVariants.{Input, Cut, Fault}
use Rattle.rollout_model.specs.declared.Refusal.{Refusal}
use Rattle.rollout_model.specs.declared.Refusal.TheVariants as refusals

-- the refusal that answers a fault
abbrev pub refusal_of : WireFault → Refusal
refusal_of TooLarge = refusals.TooLarge
refusal_of BadHead = refusals.BadHead
refusal_of BadLength = refusals.BadLength
refusal_of HeadTooLarge = refusals.HeadTooLarge
refusal_of BadCoding = refusals.BadCoding
