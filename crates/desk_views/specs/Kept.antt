-- What a device is told of its offer is what the table of offers keeps of it, whatever rows the tables have.
use Rattle.std.specs.Prelude.{ℕ, true, List, [], ◌∷◌, Some}
use Rattle.rollout_machine.specs.Commands.{Bytes}
use Rattle.rollout_machine.specs.Replies.{Reply, CancelShown, ContentsShown, DeploymentShown, PollShown}
use Rattle.desk_records.specs.Tables.{Tables}
use Rattle.desk_store.specs.KeptOffers.{IsKept, IsKeptAs}

-- a deployment is kept of the id, where there is a module of one
abbrev pub AreKept : Tables → Bytes → List ℕ → Type 0
AreKept t id [] = Unit {0}
AreKept t id (m ∷ more) = (action : ℕ) × IsKeptAs t id action

-- What the device of this id is told by an answer: of its offer what a row keeps, and contents only where one keeps a deployment.
abbrev pub TellsKept : Tables → Bytes → Reply → Type 0
TellsKept t id (PollShown target offer) = IsKept t id offer
TellsKept t id (DeploymentShown d) = IsKeptAs t id d.action
TellsKept t id (CancelShown action) = IsKept t id (Some (record { action = action; canceling = true }))
TellsKept t id (ContentsShown contents) = (action : ℕ) × IsKeptAs t id action
TellsKept t id _ = Unit {0}
