use Rattle.desk_records.proofs.Common.{rules, ◌++◌, ◌∷◌, [], Some, None, sym, ap, ◌∙◌, arith, list_all, is_detail, lines_of}
use Rattle.std.proofs.lemmas.Str.Pattern.{split_parts}
use Rattle.desk_records.proofs.DetailLines.{all_or_none, begins_badly, detail_is, ends_nowhere, goes_too_far, holds_none, line_more, no_detail, one_more}
use Rattle.desk_records.proofs.entry_row.read_lines.Goals as goal

pub loop-preserved : goal.loop-preserved
loop-preserved c =
    let line = detail_is c.in-Some.line.now c.in-Some-2.line (sym c.in_ok-line.ensures ∙ c.in-Some-2.is) in
    let parts = split_parts 10 c.loop.rest.now (Some (c.in-Some.line, c.in-Some.more)) c.in-Some.ensures.cases (omega arith) in
    let pushed = c.in_ok-push.ensures.items ∙ ap (λ d. c.loop.lines.items ++ d ∷ []) line.0 in (
      search rules,
      line_more c.args.text.now c.loop.rest.now c.in-Some.line.now c.in-Some.more.now c.loop.lines.items c.loop.invariant.1 parts.0
          ∙ ap (λ ls. lines_of ls ++ c.in-Some.more.now) (sym pushed),
      ap (list_all is_detail) c.in_ok-push.ensures.items
          ∙ one_more c.loop.lines.items c.in-Some-2.line c.loop.invariant.2 line.1,
      omega (arith, c.in_ok-push.ensures.len, c.loop.invariant.3),
    )

pub returns-in_default-clause-none : goal.returns-in_default-clause-none
returns-in_default-clause-none c = all_or_none c.args.text.now c.loop.rest.now c.loop.lines.items _ c.details_of.ensures c.loop.invariant.1 c.loop.invariant.2
    (omega (arith, c.loop-test.true, c.loop.invariant.3))
    (λ some more fine few. ends_nowhere c.loop.rest.now some (split_parts 10 c.loop.rest.now None c.in_default.ensures.cases (omega arith)) more)

pub returns-in_default-2-clause-none : goal.returns-in_default-2-clause-none
returns-in_default-2-clause-none c =
    let parts = split_parts 10 c.loop.rest.now (Some (c.in-Some.line, c.in-Some.more)) c.in-Some.ensures.cases (omega arith) in
    holds_none c.args.text.now c.loop.rest.now c.loop.lines.items c.loop.invariant.1 c.loop.invariant.2
    (λ more fine few. begins_badly c.loop.rest.now c.in-Some.line.now c.in-Some.more.now parts.0 parts.1
    (no_detail c.in-Some.line.now (sym c.in_ok-line.ensures ∙ c.in_default-2.is)) more fine)

pub returns-clause-none : goal.returns-clause-none
returns-clause-none c = all_or_none c.args.text.now c.loop.rest.now c.loop.lines.items _ c.details_of-2.ensures c.loop.invariant.1 c.loop.invariant.2
    (omega (arith, c.loop.auto.counter-end, c.loop.invariant.3))
    (λ some more fine few. goes_too_far c.loop.rest.now c.loop.lines.items (omega (arith, c.loop-test.false, c.loop.auto.counter-end, c.loop.invariant.3)) some
    more few)
