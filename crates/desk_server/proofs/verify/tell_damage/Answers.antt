use Rattle.desk_server.proofs.verify.tell_damage.Goals as goal

pub returns-in-Refused : goal.returns-in-Refused
returns-in-Refused g c = rw c.in-Refused.is (c.refuse.ensures _ _)
