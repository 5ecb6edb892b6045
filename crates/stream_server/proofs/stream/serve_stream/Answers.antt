use Rattle.stream_server.proofs.Common.{◌≡◌, ℕ, ◌<◌, List, [], ◌++◌, length, Some, None, Ok, Err, refl, sym, ◌∙◌, subst, rules, arith, Consumes-nil}
use Rattle.stream_server.proofs.Common.{Consumes-trans, false≢true, err_from_is_err_and, IsUndecided, Interface, DeskState, Option, WireMessage, Takes, Serves}
use Rattle.stream_server.proofs.Common.{◌+◌, ◌-◌, ◌^◌, min, length-append, Input, Cut}
use Rattle.std.proofs.lemmas.List.{nil_from_length}
use Rattle.stream_server.proofs.PartLemmas.{serves_nil, serves_append}
use Rattle.stream_server.proofs.HeadlineLemmas.{both}
use Rattle.stream_server.proofs.ExitLemmas.{exits_broken, exits_fault, exits_fault_part, exits_unread, exits_end, too_many, read_end}
use Rattle.stream_server.proofs.ExitLemmas.{read_piece, no_more, some_left}
use Rattle.stream_server.proofs.stream.serve_stream.Invariants.{SoFar}
use Rattle.stream_server.proofs.stream.serve_stream.Goals as goal
use Rattle.stream_server.proofs.stream.serve_stream.Goals.{then-is_empty, else-is_empty}

-- what was answered of the inbox, behind what was answered before
answered_on : {File : Type 0} {interface : Interface} {old new last : DeskState File} {stream unread out middle out_new : Option (List ℕ)}
    {held left : List ℕ} {counter answered count : ℕ}
    → SoFar interface old new stream unread out middle held counter answered
    → (ms : List WireMessage) × Takes held ms left × (count ≡ min (answered + length ms) (2 ^ 64 - 1)) × Serves interface new last middle out_new ms None
    → SoFar interface old last stream unread out out_new left counter count
answered_on so taken = record {
  fed = so.fed;
  ms = so.ms ++ taken.0;
  reads = so.reads;
  begins = taken.1 so.fed so.ms so.begins;
  most = so.most;
  count = omega (arith, so.count, taken.2, length-append so.ms taken.0);
  serves = serves_append _ _ _ _ _ _ _ so.ms taken.0 None so.serves taken.3;
}

pub loop-init : goal.loop-init
loop-init g c = (
  record {
    fed = [];
    ms = [];
    reads = Consumes-nil _;
    begins = sym c.new-inbox.ensures;
    most = search rules;
    count = refl;
    serves =
        serves_nil _ _ _;
  },
  refl,
  refl,
)

pub returns-in_err-stop-clause-serves : goal.returns-in_err-stop-clause-serves
returns-in_err-stop-clause-serves g c =
    let p = err_from_is_err_and c.from_residual.result c.from_residual.ensures.1 in
    let inv = c.loop.invariant.0 in
    let taken = c.in_err-stop.ensures.serves in
    let ms = inv.ms ++ taken.0 in
    let all = serves_append _ _ _ _ _ _ _ inv.ms taken.0 (Some _) inv.serves taken.3 in
    rw (p.1, p.2) (both _ _ _ _ _ _ _ _ ms (Some _) (Err _)
    (λ C answers. exits_broken _ C _ _ _ _ _ _ inv.fed _ ms _ inv.reads (taken.1 inv.fed inv.ms inv.begins) answers) all)

pub returns-in_err-write_refusal-clause-serves : goal.returns-in_err-write_refusal-clause-serves
returns-in_err-write_refusal-clause-serves g c =
    let p = err_from_is_err_and c.from_residual-in_err-write_refusal.result c.from_residual-in_err-write_refusal.ensures.1 in
    let now = answered_on c.loop.invariant.0 c.in_ok-stop.ensures.serves in
    let is = rw c.in-Some.is at c.in_ok-stop.ensures.end in
    let sent = rw c.refusal.ensures at c.in_err-write_refusal.ensures.err in
    rw (p.1, p.2) (both _ _ _ _ _ _ _ _ now.ms None (Err _)
    (λ C answers. exits_fault_part _ C _ _ _ _ _ _ _ now.fed _ now.ms c.in-Some.fault _ _ now.reads now.begins answers sent is) now.serves)

pub returns-in-Some-clause-serves : goal.returns-in-Some-clause-serves
returns-in-Some-clause-serves g c =
    let now = answered_on c.loop.invariant.0 c.in_ok-stop.ensures.serves in
    let is = rw c.in-Some.is at c.in_ok-stop.ensures.end in
    let sent = rw c.refusal.ensures at c.in_ok-write_refusal.ensures.ok in
    both _ _ _ _ _ _ _ _ now.ms None (Ok _) (λ C answers. exits_fault _ C _ _ _ _ _ _ _ now.fed _ now.ms c.in-Some.fault _ now.reads now.begins
    answers sent is now.count) now.serves

pub returns-in_err-read_on-clause-serves : goal.returns-in_err-read_on-clause-serves
returns-in_err-read_on-clause-serves g c =
    let p = err_from_is_err_and c.from_residual-in_err-read_on.result c.from_residual-in_err-read_on.ensures.1 in
    let now = answered_on c.loop.invariant.0 c.in_ok-stop.ensures.serves in
    let partial : IsUndecided c.answer_all.new.inbox = rw c.in_default.is at c.in_ok-stop.ensures.end in
    rw (p.1, p.2) (both _ _ _ _ _ _ _ _ now.ms None (Err _)
    (λ C answers. exits_unread _ C _ _ _ _ _ _ _ now.fed _ _ now.ms _ _ now.reads now.begins answers partial
    c.in_err-read_on.ensures.read) now.serves)

pub returns-then-not-branch-clause-serves : goal.returns-then-not-branch-clause-serves
returns-then-not-branch-clause-serves g c =
    let now = answered_on c.loop.invariant.0 c.in_ok-stop.ensures.serves in
    let partial : IsUndecided c.answer_all.new.inbox = rw c.in_default.is at c.in_ok-stop.ensures.end in
    let read = read_end _ _ _ _ c.read_on.new.reader.failed _ c.if-not-branch.true c.in_ok-read_on.ensures.read in
    let reads = no_more _ _ _ now.fed now.reads read.0 in
    elim c.if-is_empty.branch [
      | then-is_empty w ↦
          let empty : c.answer_all.new.inbox ≡ [] = sym read.2 ∙ nil_from_length _ (w.if-is_empty.ensures.0 refl) in
          rw w.end-is (both _ _ _ _ _ _ _ _ now.ms None (Ok _)
          (λ C answers. exits_end _ C _ _ _ _ _ _ now.fed _ now.ms _ Input refl reads now.begins answers (empty, read.1) now.count) now.serves)
      | else-is_empty w ↦
          let some : 0 < length c.answer_all.new.inbox =
          subst (λ (x : List ℕ). 0 < length x) read.2 (some_left _ (λ z. false≢true (w.if-is_empty.ensures.1 z))) in
          rw w.end-is (both _ _ _ _ _ _ _ _ now.ms None (Ok _)
          (λ C answers. exits_end _ C _ _ _ _ _ _ now.fed _ now.ms _ Cut refl reads now.begins answers (λ told. ((some, partial), read.1)) now.count)
          now.serves)
    ]

pub loop-preserved : goal.loop-preserved
loop-preserved g c =
    let now = answered_on c.loop.invariant.0 c.in_ok-stop.ensures.serves in
    let read = read_piece _ _ _ _ c.read_on.new.reader.failed _ c.if-not-branch.false c.in_ok-read_on.ensures.read in (
      record {
        fed = now.fed ++ read.0;
        ms = now.ms;
        reads = Consumes-trans _ _ _ now.fed read.0 now.reads read.1;
        begins = read.3 now.fed now.ms now.begins;
        most = omega (arith, now.most, read.2, length-append now.fed read.0);
        count = now.count;
        serves = now.serves;
      },
      c.in_ok-read_on.ensures.failed ∙ c.loop.invariant.1,
      c.in_ok-stop.ensures.write_failed ∙ c.loop.invariant.2,
    )

pub returns-clause-serves : goal.returns-clause-serves
returns-clause-serves g c =
    let inv = c.loop.invariant.0 in
    both _ _ _ _ _ _ _ _ inv.ms None (Ok _)
    (λ C answers. exits_end _ C _ _ _ _ _ _ inv.fed _ inv.ms c.loop.answered Cut refl inv.reads inv.begins answers
    (λ told. absurd (too_many _ _ inv.fed inv.reads (omega (arith, inv.most, c.loop-test.false)) told)) inv.count) inv.serves
