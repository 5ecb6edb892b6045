-- The table of refusals: number, name, status, and whether the connection ends.
use Rattle.std.specs.Prelude.{ℕ, Bool, true, false, List, codes}
pub use Rattle.rollout_model.specs.declared.refusal.Refusal.{Refusal}
pub use Rattle.rollout_model.specs.declared.refusal.Refusal.TheVariants.{BadRequest, Unauthorized, NotFound, BadMethod, Exists, Locked, WrongState}
pub use Rattle.rollout_model.specs.declared.refusal.Refusal.TheVariants.{ClosedAction, TooLarge, Quota, BadFilter, TooFewTargets, WrongDigest}
pub use Rattle.rollout_model.specs.declared.refusal.Refusal.TheVariants.{BadImportLine, NoMemory, StoreFailed, Stopped, BadHead, BadLength}
pub use Rattle.rollout_model.specs.declared.refusal.Refusal.TheVariants.{HeadTooLarge, BadCoding, OldNumber}

pub record RefusalRow : Type 0 where
  pub number : ℕ
  pub name : List ℕ
  pub status : ℕ
  pub ends : Bool

abbrev pub refusal_row : Refusal → RefusalRow
refusal_row BadRequest = record { number = 1; name = codes "bad_request"; status = 400; ends = false }
refusal_row Unauthorized = record { number = 2; name = codes "unauthorized"; status = 401; ends = false }
refusal_row NotFound = record { number = 3; name = codes "not_found"; status = 404; ends = false }
refusal_row BadMethod = record { number = 4; name = codes "method"; status = 405; ends = false }
refusal_row Exists = record { number = 5; name = codes "exists"; status = 409; ends = false }
refusal_row Locked = record { number = 6; name = codes "locked"; status = 409; ends = false }
refusal_row WrongState = record { number = 7; name = codes "wrong_state"; status = 409; ends = false }
refusal_row ClosedAction = record { number = 8; name = codes "closed_action"; status = 410; ends = false }
refusal_row TooLarge = record { number = 9; name = codes "too_large"; status = 413; ends = true }
refusal_row Quota = record { number = 10; name = codes "quota"; status = 403; ends = false }
refusal_row BadFilter = record { number = 11; name = codes "filter"; status = 400; ends = false }
refusal_row TooFewTargets = record { number = 12; name = codes "too_few_targets"; status = 400; ends = false }
refusal_row WrongDigest = record { number = 13; name = codes "digest"; status = 400; ends = false }
refusal_row (BadImportLine line) = record { number = 14; name = codes "import_line"; status = 400; ends = false }
refusal_row NoMemory = record { number = 15; name = codes "memory"; status = 503; ends = false }
refusal_row StoreFailed = record { number = 16; name = codes "store"; status = 500; ends = false }
refusal_row Stopped = record { number = 17; name = codes "stopped"; status = 503; ends = false }
refusal_row BadHead = record { number = 18; name = codes "head"; status = 400; ends = true }
refusal_row BadLength = record { number = 19; name = codes "length"; status = 400; ends = true }
refusal_row HeadTooLarge = record { number = 20; name = codes "head_size"; status = 431; ends = true }
refusal_row BadCoding = record { number = 21; name = codes "coding"; status = 501; ends = true }
refusal_row OldNumber = record { number = 22; name = codes "old_number"; status = 410; ends = false }
