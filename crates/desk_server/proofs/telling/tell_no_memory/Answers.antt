use Rattle.std.proofs.Common.{◌≡◌, [], Err, refl}
use Rattle.std.proofs.KnownBytes.{Appends-nil}
use Rattle.stream_server.specs.declared.served.ServeFault.TheVariants.{Memory, Read, Store, Write}
use Rattle.desk_server.proofs.telling.tell_no_memory.Goals as goal

other_fault : Memory ≡ Write → ⊥
other_fault e = cc

no_read : Memory ≡ Read → ⊥
no_read e = cc

no_store : Memory ≡ Store → ⊥
no_store e = cc

pub returns : goal.returns
returns g c = λ text out failed. record {
  outcome = Err Memory;
  whole = tt;
  part = ([], text, refl, Appends-nil out);
  named = (λ e. absurd (no_read e), λ e. absurd (no_store e));
  status_is = refl;
  reports = rw c.fault_line.ensures at c.tell.ensures;
  write_failed = (λ e. absurd (other_fault e), λ other. refl);
}
