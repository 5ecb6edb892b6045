use Rattle.desk_reads.proofs.Common.{sym}
use Rattle.std.proofs.lemmas.List.{append-nil}
use Rattle.desk_reads.proofs.Matches.{one_matched}
use Rattle.desk_reads.proofs.matching.add_if_match.Goals as goal

pub returns-then-not-matches-clause-ok : goal.returns-then-not-matches-clause-ok
returns-then-not-matches-clause-ok c = λ f tree.
    rw (one_matched _ f c.args.target.now _ c.matches.ensures.computed tree, c.if-not-matches.true) (sym (append-nil _))

pub returns-clause-ok : goal.returns-clause-ok
returns-clause-ok c = λ f tree.
    rw (one_matched _ f c.args.target.now _ c.matches.ensures.computed tree, c.if-not-matches.false) c.in_ok-push.ensures.items
