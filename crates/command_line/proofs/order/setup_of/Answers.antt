use Rattle.std.proofs.Common.{List, ℕ, Some, sym, ap, ◌∙◌, codes, Bor}
use Rattle.std.specs.Option.{option_map}
use Rattle.clap.specs.Words.{found_of, rows_of}
use Rattle.clap.proofs.WalkLemmas.{first_value-rows}
use Rattle.command_line.specs.Orders.{NamesSetup, is_given}
use Rattle.command_line.proofs.OrderLemmas.{no_value, unknown_interface, where_none}
use Rattle.command_line.proofs.order.setup_of.Goals as goal

pub returns-clause-some : goal.returns-clause-some
returns-clause-some c =
    let f = found_of c.args.matches.now in record {
      db_is = sym (first_value-rows f (codes "db")) ∙ sym c.get_str.ensures ∙ ap (option_map (λ (s : Bor (List ℕ)). s.now)) c.in_ok-db.was;
      interface_is = sym (first_value-rows f (codes "interface")) ∙ sym c.get_str-2.ensures ∙ ap (option_map (λ (s : Bor (List ℕ)). s.now)) c.in_ok-get_str.was
          ∙ ap (λ (t : List ℕ). Some t) c.in_ok-interface.ensures.some;
      approval_is = c.is_given.ensures ∙ ap is_given (c.get_str-3.ensures ∙ first_value-rows f (codes "approval"));
    }

pub returns-in_err-db-clause-none : goal.returns-in_err-db-clause-none
returns-in_err-db-clause-none c =
    let f = found_of c.args.matches.now in
    let never : ¬ NamesSetup (rows_of f) = λ named. no_value _ _ (sym (ap (option_map (λ (s : Bor (List ℕ)). s.now)) c.in_err-db.was) ∙ c.get_str.ensures
    ∙ first_value-rows f (codes "db")) named.1.db_is in
    where_none _ never

pub returns-in_err-get_str-clause-none : goal.returns-in_err-get_str-clause-none
returns-in_err-get_str-clause-none c =
    let f = found_of c.args.matches.now in
    let never : ¬ NamesSetup (rows_of f) = λ named. no_value _ _ (sym (ap (option_map (λ (s : Bor (List ℕ)). s.now)) c.in_err-get_str.was) ∙ c.get_str-2.ensures
    ∙ first_value-rows f (codes "interface")) named.1.interface_is in
    where_none _ never

pub returns-in_err-interface-clause-none : goal.returns-in_err-interface-clause-none
returns-in_err-interface-clause-none c =
    let f = found_of c.args.matches.now in
    where_none _ (unknown_interface (rows_of f) c.in_ok-get_str.field-0.now
    (sym (ap (option_map (λ (s : Bor (List ℕ)). s.now)) c.in_ok-get_str.was) ∙ c.get_str-2.ensures ∙ first_value-rows f (codes "interface"))
    c.in_err-interface.ensures.none)
