-- What is answered at lists of accepted commands.
use Rattle.std.specs.Prelude.{◌≡◌, Result}
use Rattle.sqlite.specs.Store.{Ghosts}
use Rattle.rollout_machine.specs.Answers.{query_reply}
use Rattle.rollout_machine.specs.Requests.{Query}
use Rattle.rollout_machine.specs.Views.{reply_of}
use Rattle.rollout_model.specs.declared.request.Reply.{Reply}
use Rattle.sql_calls.specs.declared.calls.Calls.{Calls}
use Rattle.desk_reads.specs.AtLists.{FindsAtListsIn}

module _ {S : Type 0} (g : Ghosts S) where
  -- a query, at such a list: it is answered, and nothing changes
  abbrev pub ShowsIn : {E : Type 0} → Calls S → Calls S → Query → Result Reply E → Type 0
  ShowsIn old new q result = FindsAtListsIn g old new result (λ r reply. reply_of reply ≡ query_reply r q)
