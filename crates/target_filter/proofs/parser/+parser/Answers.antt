use Rattle.target_filter.proofs.Common.{List, ℕ, Option, sym, subst, arith}
use Rattle.target_filter.specs.Grammar as grammar
use Rattle.target_filter.specs.private.Gives.{Gives}
use Rattle.target_filter.proofs.AtomReading.{atom_else}
use Rattle.target_filter.proofs.parser.+parser.Goals as goal

pub atom_at-returns-in-None : goal.atom_at-returns-in-None
atom_at-returns-in-None t c = subst (λ (e : Option (grammar.Tree × List ℕ)). Gives e c.comparison_at.result)
    (sym (atom_else c.args.fuel c.args.text.now (omega arith) c.in-None.ensures.cases)) c.comparison_at.ensures
