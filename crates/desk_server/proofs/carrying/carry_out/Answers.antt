use Rattle.desk_server.proofs.carrying.carry_out.Goals as goal

pub returns-in-Ok : goal.returns-in-Ok
returns-in-Ok g c = record {
  leaves = record {
    before = c.in-Ok.desk;
    opened = rw c.db.ensures at (rw c.approval.ensures at c.in-Ok.ensures.opened);
    does = c.carry_out_over-status.ensures;
  };
  refused = tt;
  told = tt;
  unopened = tt;
}
