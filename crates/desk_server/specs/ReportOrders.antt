-- What the order `report` comes to.
use Rattle.std.specs.Prelude.{ℕ, Bool, List, Option}
use Rattle.rollout_machine.specs.Requests.{Asks, Ask, ShowReport}
use Rattle.rollout_machine.specs.Standing.{DeskState}
use Rattle.desk_server.specs.Telling.{TellsReply}

-- the desk gave its reply to the query of the rollout's report, and that reply is told
abbrev pub ReportsRollout : {File : Type 0} → ℕ → DeskState File → DeskState File → Option (List ℕ) → Option (List ℕ)
    → Option (List ℕ) → Option (List ℕ) → Bool → Bool → Bool → ℕ → Type 0
ReportsRollout number = TellsReply (Asks (Ask (ShowReport number)))
