use Rattle.std.proofs.Common.{refl}
use Rattle.std.proofs.KnownBytes.{Appends-nil}
use Rattle.stream_server.proofs.PartLemmas.{stays}
use Rattle.desk_server.proofs.import.import_given.Goals as goal

pub returns-in-Some : goal.returns-in-Some
returns-in-Some g c = rw c.in-Some.is c.import.ensures

pub returns-in-None : goal.returns-in-None
returns-in-None g c =
    rw c.in-None.is (record {
      clean = λ clean. clean;
      stands = λ h stands. stands;
      stays = stays _;
      status_is = refl;
      unwritten = Appends-nil _;
      tells = c.tell.ensures;
      unfailed = refl;
    })
