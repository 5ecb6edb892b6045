use Rattle.std.proofs.Common.{refl, sym, ap, ◌∙◌, codes}
use Rattle.clap.specs.Words.{first_of, found_of, rows_of}
use Rattle.clap.proofs.WalkLemmas.{first_value-rows}
use Rattle.command_line.proofs.OrderLemmas.{no_value, no_verify, values_of}
use Rattle.command_line.proofs.order.verify_of.Goals as goal

pub returns-in_default-clause-err : goal.returns-in_default-clause-err
returns-in_default-clause-err c =
    let f = found_of c.args.matches.now in
    no_verify (rows_of f) (λ db is. no_value _ db (c.in_default.ensures ∙ first_value-rows f (codes "db"))
    (ap (λ found. first_of (codes "db") (values_of found)) is.subcommand ∙ is.db_is))

pub returns-clause-ok : goal.returns-clause-ok
returns-clause-ok c =
    let f = found_of c.args.matches.now in record {
      rows = rows_of f;
      subcommand = refl;
      db_is = sym (c.in-Some.ensures ∙ first_value-rows f (codes "db"));
    }
