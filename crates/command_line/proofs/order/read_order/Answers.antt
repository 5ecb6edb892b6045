use Rattle.std.proofs.Common.{map, refl, sym, ap, ◌∙◌}
use Rattle.clap.specs.Words.{fault_of, is_simple_and_free, takes}
use Rattle.command_line.proofs.OrderLemmas.{where_clap_refuses, where_no_memory}
use Rattle.command_line.proofs.order.read_order.Goals as goal

pub returns-in_err-matches-clause-refused : goal.returns-in_err-matches-clause-refused
returns-in_err-matches-clause-refused g c =
    let words = map g.S.AsStr.text c.args.words.now in
    where_clap_refuses words c.in_err-matches.field-0.0 (λ taken. c.in_err-matches.ensures.passes (ap (λ a. takes a words) c.in_ok-command.ensures.app ∙ taken))
    _ c.from_residual-in_err-matches.ensures.1

pub returns-in_err-error-in-Err-clause-refused : goal.returns-in_err-error-in-Err-clause-refused
returns-in_err-error-in-Err-clause-refused g c = where_no_memory (map g.S.AsStr.text c.args.words.now) _ c.from_residual-in_err-error-in-Err.ensures.1

pub returns-in-Ok-clause-faultless : goal.returns-in-Ok-clause-faultless
returns-in-Ok-clause-faultless g c =
    let app = c.in_ok-command.ensures.app in
    ap (λ a. fault_of a (map g.S.AsStr.text c.args.words.now)) (sym app) ∙ c.in_ok-matches.ensures.kinds (ap is_simple_and_free app ∙ refl)
