use Rattle.desk_verify.proofs.Common.{◌≡◌, subst, sym, finds_as, SettlesWhether, holds_started, IsInStartedGroup}
use Rattle.desk_verify.proofs.OfferLemmas.{started_tells}
use Rattle.desk_verify.proofs.offers.is_in_started_group.Goals as goal

pub returns-clause-judges : goal.returns-clause-judges
returns-clause-judges g c =
    let told : c.holds_started.result ≡ holds_started c.keep_groups.new.kept.groups.items c.args.place = rw c.deref.ensures.value at c.holds_started.ensures in
    finds_as c.in_ok-keep_groups.ensures.reads
    (λ t is kept. let it = is kept in
    (subst (SettlesWhether (IsInStartedGroup t c.args.rollout c.args.place)) (sym told) (started_tells t c.args.place it.0), it.1))
