use Rattle.std.proofs.Common.{refl, sym, ap, ◌∙◌, codes}
use Rattle.clap.specs.Words.{first_of, found_of, rows_of}
use Rattle.clap.proofs.WalkLemmas.{first_value-rows}
use Rattle.command_line.specs.Orders.{number_in_range}
use Rattle.command_line.proofs.OrderLemmas.{no_report, no_value, values_of}
use Rattle.command_line.proofs.order.report_of.Goals as goal

pub returns-in_default-clause-err : goal.returns-in_default-clause-err
returns-in_default-clause-err c =
    let f = found_of c.args.matches.now in
    no_report (rows_of f) (λ db rollout is. no_value _ db (c.in_default.ensures ∙ first_value-rows f (codes "db"))
    (ap (λ found. first_of (codes "db") (values_of found)) is.subcommand ∙ is.db_is))

pub returns-in_default-rollout_of-clause-err : goal.returns-in_default-rollout_of-clause-err
returns-in_default-rollout_of-clause-err c =
    let f = found_of c.args.matches.now in
    no_report (rows_of f) (λ db rollout is. no_value _ rollout c.in_default-rollout_of.ensures
    (ap (λ found. number_in_range 1 2147483647 (first_of (codes "rollout") (values_of found))) is.subcommand ∙ is.rollout_is))

pub returns-clause-ok : goal.returns-clause-ok
returns-clause-ok c =
    let f = found_of c.args.matches.now in record {
      rows = rows_of f;
      subcommand = refl;
      db_is = sym (c.in-Some.ensures ∙ first_value-rows f (codes "db"));
      rollout_is = sym c.in-Some-rollout_of.ensures;
    }
