-- Feedback that bears numbers: what is sent again, what is overtaken, and what both leave.
use Rattle.rollout_machine.proofs.Common.{◌≡◌, ℕ, List, [], ◌∷◌, ◌++◌, None, Option, Some, false, true, map, refl, option_map, item_numbered, Bytes}
use Rattle.rollout_machine.proofs.Common.{CancelFeedback, Cancel, Command, DeploymentWord, Feedback, Failed, Noted, Proceeding, RejectedCancel, Succeeded}
use Rattle.rollout_machine.proofs.Common.{ActionRecord, Records, Reported, check, ClosedAction, OldNumber, Unauthorized, NotFound}
use Rattle.rollout_machine.proofs.Examples.Fleet.{by, device, everyone, offered, rolled_out, run_of}

abbrev says : ℕ → ℕ → DeploymentWord → List Bytes → ℕ → Command
says k a word details n = Feedback (record { credential = by k; action = a; word = word; details = details; number = Some n })

abbrev goes_on : ℕ → Command
goes_on n = says 1 1 (Noted Proceeding) [] n

abbrev rejects_as : ℕ → ℕ → ℕ → Command
rejects_as k a n = CancelFeedback (record { credential = by k; action = a; word = RejectedCancel; details = []; number = Some n })

abbrev numbers : Records → ℕ → Option (List (Option ℕ))
numbers rs k = option_map (λ (a : ActionRecord). map (λ (it : Reported). it.number) a.history) (item_numbered rs.actions k)

abbrev under_way : List Command → Records
under_way cs = run_of (rolled_out everyone 3 50 100 ++ cs)

-- what is sent again is accepted, and leaves one entry
twice : numbers (under_way (goes_on 5 ∷ goes_on 5 ∷ [])) 1 ≡ Some (Some 5 ∷ [])
twice = refl

accepted_twice : check (under_way (goes_on 5 ∷ [])) (goes_on 5) ≡ None
accepted_twice = refl

overtaken : check (under_way (goes_on 5 ∷ [])) (goes_on 4) ≡ Some OldNumber
overtaken = refl

-- of the same number, but with another line, or of the other kind
other_details : check (under_way (goes_on 5 ∷ [])) (says 1 1 (Noted Proceeding) ((65 ∷ []) ∷ []) 5) ≡ Some OldNumber
other_details = refl

other_kind : check (under_way (goes_on 5 ∷ Cancel (device 1) 1 false ∷ [])) (rejects_as 1 1 5) ≡ Some OldNumber
other_kind = refl

-- while it isn't canceling the number is told first
old_first : check (under_way (goes_on 5 ∷ [])) (rejects_as 1 1 4) ≡ Some OldNumber
old_first = refl

-- a closed action looks at the outcome alone
closed_again : check (under_way (goes_on 5 ∷ says 1 1 Succeeded [] 6 ∷ [])) (says 1 1 Succeeded [] 2) ≡ None
closed_again = refl

closed_otherwise : check (under_way (goes_on 5 ∷ says 1 1 Succeeded [] 6 ∷ [])) (goes_on 7) ≡ Some ClosedAction
closed_otherwise = refl

-- a rejection that is sent again doesn't end a later cancel
canceled_once_more : offered (under_way (Cancel (device 2) 2 false ∷ rejects_as 2 2 1 ∷ Cancel (device 2) 2 false ∷ rejects_as 2 2 1 ∷ [])) 2 ≡ Some (2, true)
canceled_once_more = refl

-- without a number all is as if there were none
unnumbered_between : numbers
    (under_way (goes_on 5 ∷ Feedback (record { credential = by 1; action = 1; word = Noted Proceeding; details = []; number = None }) ∷ goes_on 6 ∷ [])) 1
    ≡ Some (Some 5 ∷ None ∷ Some 6 ∷ [])
unnumbered_between = refl

stranger_first : check (under_way (goes_on 5 ∷ []))
    (Feedback (record { credential = record { id = device 1; digest = device 2 }; action = 1; word = Failed; details = []; number = Some 4 }))
    ≡ Some Unauthorized
stranger_first = refl

others_first : check (under_way (goes_on 5 ∷ [])) (says 2 1 Failed [] 4) ≡ Some NotFound
others_first = refl
