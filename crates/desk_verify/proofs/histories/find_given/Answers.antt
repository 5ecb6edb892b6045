use Rattle.desk_verify.proofs.Common.{◌≡◌, true, false, map, Err, sym, ap, subst, ◌∙◌, finds_as, Broken, SequencedEntry, rise, twin_entries, blamed, IsGiven}
use Rattle.desk_verify.proofs.Common.{first_said, sequences_rise, unread}
use Rattle.desk_verify.proofs.Causes.{together}
use Rattle.desk_verify.proofs.HistoryLemmas.{given}
use Rattle.desk_verify.proofs.histories.find_given.Goals as goal

pub returns-clause-reads : goal.returns-clause-reads
returns-clause-reads g c =
    let rises : sequences_rise c.in_ok-entries.entries.items ≡ true =
    rw c.deref.ensures.value at (sym c.sequences_rise.ensures ∙ c.if-not-sequences_rise.false) in
    let is : c.first_said.result ≡ first_said c.in_ok-entries.entries.items = c.first_said.ensures ∙ ap first_said c.deref-2.ensures.value in
    finds_as c.in_ok-entries.ensures.reads (λ t are. subst (IsGiven t c.args.number) (sym is) (given t c.args.number c.in_ok-entries.entries.items are rises))

pub returns-then-not-sequences_rise-clause-blames : goal.returns-then-not-sequences_rise-clause-blames
returns-then-not-sequences_rise-clause-blames g c =
    let told : rise 0 (map (λ (e : SequencedEntry). e.sequence) c.in_ok-entries.entries.items) ≡ false =
    rw c.deref.ensures.value at (sym c.sequences_rise.ensures ∙ c.if-not-sequences_rise.true) in
    blamed (together c.in_ok-entries.ensures.reads c.in_ok-entries.ensures.order) (Err Broken)
    (λ reading is given. unread reading
    (twin_entries c.args.number (record { found = c.in_ok-entries.entries.items; said = is.0; in_order = is.1; twins = told })) given)
