use Rattle.desk_verify.proofs.Common.{◌≡◌, false, Err, sym, ◌∙◌, Broken, twin_members, blamed, count_on, unread}
use Rattle.desk_verify.proofs.Causes.{twin_place}
use Rattle.desk_verify.proofs.Follow.{breaks}
use Rattle.desk_verify.proofs.actions.members_of.Goals as goal

pub returns-in_default-clause-blames : goal.returns-in_default-clause-blames
returns-in_default-clause-blames g c = blamed (rw c.in_default.is at c.in_ok-members.ensures.reads) (Err Broken)
    (λ reading is given. absurd (breaks reading.tables c.args.number is given.agree.1.0))

pub returns-then-not-count_on-clause-blames : goal.returns-then-not-count_on-clause-blames
returns-then-not-count_on-clause-blames g c =
    let told : count_on 0 c.in-Some.members.items ≡ false = rw c.deref.ensures.value at (sym c.count_on.ensures ∙ c.if-not-count_on.true) in
    blamed (rw c.in-Some.is at c.in_ok-members.ensures.reads) (Err Broken)
    (λ reading is given. unread reading
    (twin_members c.args.number (twin_place reading.tables c.args.number c.in-Some.members.items is told given.agree.1.0)) given.members)
