-- Connections, one after the other: each leaves a desk that keeps the lists that were kept, followed by what was accepted over it.
use native.Mathlib.Omega.{arith}
use mir.Val.{bool_byte}
use Rattle.stream_server.proofs.Common.{◌≡◌, ◌≢◌, ◌≤◌, ◌++◌, ◌∷◌, ℕ, ◌+◌, Bool, true, false, List, [], Option, Result, Ok, Err, inl, inr, refl, ap, subst, sym}
use Rattle.stream_server.proofs.Common.{◌∙◌}
use Rattle.stream_server.proofs.Common.{append_assoc, append-nil, length, length-append, All, All-cons, All-head, All-nil, All-tail}
use Rattle.stream_server.proofs.Common.{Command, CommandList, followed_by, one, DeskState, StandsFor, StaysStopped}
use Rattle.stream_server.proofs.Common.{Interface, Served, ServeFault, Headline, IsRefusedAsStopped, StoppedThroughout, Keeps, KeepsOn}
use Rattle.stream_server.proofs.Common.{Exchange, accepted_in}
use Rattle.std.proofs.lemmas.Bool.{false≢true}
use Rattle.std.proofs.lemmas.List.Concat.{flat_map-append}
use Rattle.std.proofs.lemmas.List.Elements.{All-append, filter-append}
use Rattle.std.specs.Prelude.{is_ok}
use Rattle.std.specs.List.{filter, flat_map}
use Rattle.rollout_machine.specs.Repeats.{IsTraceless}
use Rattle.rollout_machine.proofs.Once.{repeats_leave_no_trace}
use Rattle.stream_server.specs.Arrivals.{Adds, Befalls, Came, CameUnlimited, Event, Socket, Went, arrivals_in, is_arrival, is_of_given}
use Rattle.stream_server.specs.Headline.{FailsBy}
use Rattle.stream_server.specs.Listening.{AreServed, ComesToEnd, IsServed, LosesInDoubt, NoneFailed, Talk, TellsOf, accepted_over, counted}
use Rattle.stream_server.specs.Listening.{passage, stopped_after, told_of, whole_in}
use Rattle.stream_server.specs.declared.listening.ListenFault.{ListenFault}
use Rattle.stream_server.specs.declared.listening.ListenFault.TheVariants as listen_fault
use Rattle.stream_server.specs.declared.served.ServeFault.TheVariants as serve_fault
use Rattle.stream_server.proofs.RunLemmas.{followed_append}
use Rattle.stream_server.proofs.HeadlineLemmas.{retold}
use Rattle.stream_server.proofs.PartLemmas.{stays, stays_on}

-- after the connections up to now: how many there were, and how many of them were served to their end
pub record ServesSoFar {File : Type 0} (interface : Interface) (before now : List Event → Type 0) (old new : DeskState File) (count served : ℕ) : Type 0 where
  pub clean : new.is_clean → old.is_clean
  pub events : List Event
  pub seen : Adds before now events
  pub keeps : (h : CommandList) → new.is_clean → StandsFor old h → Keeps interface new h events (Ok served)
  pub come : arrivals_in events ≡ count
  pub stays : old.is_stopped ≡ true → StaysStopped old new

-- ---- talks

-- a stopped desk accepts nothing
none_accepted : (run : List Exchange) → All IsRefusedAsStopped run → accepted_in run ≡ []
none_accepted [] all = refl
none_accepted (x ∷ xs) all =
    ap (λ (o : Option Command). one o ++ accepted_in xs) (All-head IsRefusedAsStopped x xs all).1 ∙ none_accepted xs (All-tail IsRefusedAsStopped x xs all)

over_append : (talks : List Talk) (t : Talk) → accepted_over (talks ++ t ∷ []) ≡ accepted_over talks ++ accepted_in t.run
over_append talks t = grind (arith, flat_map-append, append-nil)

whole_append : (talks : List Talk) (t : Talk) → whole_in (talks ++ t ∷ []) ≡ whole_in talks + whole_in (t ∷ [])
whole_append talks t =
    ap length (filter-append (λ (s : Talk). is_ok s.outcome) talks (t ∷ []))
    ∙ length-append (filter (λ (s : Talk). is_ok s.outcome) talks) (filter (λ (s : Talk). is_ok s.outcome) (t ∷ []))

none_failed_append : (talks : List Talk) (t : Talk) → NoneFailed talks → t.outcome ≢ Err serve_fault.Store → NoneFailed (talks ++ t ∷ [])
none_failed_append talks t none other =
    let P : Talk → Type 0 = λ (s : Talk). s.outcome ≢ Err serve_fault.Store in All-append P talks (t ∷ []) none (All-cons P t [] other (All-nil P))

-- one more connection ended so, and is counted as is told of it
tells_next : (talks : List Talk) (t : Talk) (n : ℕ) (outcome : Result Served ServeFault) → t.outcome ≡ outcome → TellsOf talks (Ok n)
    → TellsOf (talks ++ t ∷ []) (counted n (told_of outcome))
tells_next talks t n (Ok served) is told = (none_failed_append talks t told.0 (grind (arith, is)), grind (arith, whole_append talks t, is, told.1))
tells_next talks t n (Err serve_fault.Read) is told = (none_failed_append talks t told.0 (grind (arith, is)), grind (arith, whole_append talks t, is, told.1))
tells_next talks t n (Err serve_fault.Write) is told = (none_failed_append talks t told.0 (grind (arith, is)), grind (arith, whole_append talks t, is, told.1))
tells_next talks t n (Err serve_fault.Memory) is told = (none_failed_append talks t told.0 (grind (arith, is)), grind (arith, whole_append talks t, is, told.1))
tells_next talks t n (Err serve_fault.Store) is told = (talks, t, refl, told.0, is)

counted_more : (n : ℕ) (is_whole : Bool) (more : ℕ) → more ≡ bool_byte is_whole → counted n (Ok is_whole) ≡ Ok (n + more)
counted_more n true more is = grind (arith, is)
counted_more n false more is = grind (arith, is)

pub still_fewer : (served count : ℕ) (is_whole : Bool) (more : ℕ) → more ≡ bool_byte is_whole → served ≤ count → served + more ≤ count + 1
still_fewer served count true more is fewer = grind (arith, is, fewer)
still_fewer served count false more is fewer = grind (arith, is, fewer)

pub all_came : {came counter count : ℕ} → came ≡ counter → counter ≤ count → count ≤ counter → came ≡ count
all_came is up down = grind (arith, is, up, down)

-- as many more were accepted
pub arrivals_append : (past events : List Event) → arrivals_in (past ++ events) ≡ arrivals_in past + arrivals_in events
arrivals_append past events = ap length (filter-append is_arrival past events) ∙ length-append (filter is_arrival past) (filter is_arrival events)

pub adds_both : (before middle after : List Event → Type 0) (past events : List Event) → Adds before middle past → Adds middle after events
    → Adds before after (past ++ events)
adds_both before middle after past events first second =
    λ log was. subst after (append_assoc log past events) (second (log ++ past) (first log was))

all_append : (past : List Event) (talks : List Talk) (t : Talk) → filter is_of_given past ≡ flat_map passage talks
    → filter is_of_given (past ++ passage t) ≡ flat_map passage (talks ++ t ∷ [])
all_append past talks t all =
    filter-append is_of_given past (passage t) ∙ ap (λ (es : List Event). es ++ passage t) all ∙ sym (flat_map-append passage talks (t ∷ []))

module _ (interface : Interface) where
  served_append : (b : Bool) (h : CommandList) (talks : List Talk) (t : Talk) → AreServed interface b h talks
      → t.was_stopped ≡ stopped_after b talks → IsServed interface (followed_by h (accepted_over talks)) t
      → AreServed interface b h (talks ++ t ∷ [])
  served_append b h [] t all was last = (was, last, tt)
  served_append b h (x ∷ xs) t all was last =
      let next : CommandList = followed_by h (accepted_in x.run) in (
        all.0,
        all.1,
        served_append x.is_stopped next xs t all.2 was
            (subst (λ (k : CommandList). IsServed interface k t) (followed_append h (accepted_in x.run) (accepted_over xs)) last),
      )

  stopped_append : (b : Bool) (talks : List Talk) (t : Talk) → stopped_after b (talks ++ t ∷ []) ≡ t.is_stopped
  stopped_append b [] t = refl
  stopped_append b (x ∷ xs) t = stopped_append x.is_stopped xs t

  loses_append : (talks : List Talk) (t : Talk) (lost : List Command) → LosesInDoubt talks lost → LosesInDoubt (talks ++ t ∷ []) lost
  loses_append talks t lost loses = elim loses [
    | inl none ↦ inl none
    | inr d ↦ inr (d.0, d.1, d.2 ++ t ∷ [], ap (λ (ts : List Talk). ts ++ t ∷ []) d.3 ∙ append_assoc d.0 (d.1 ∷ d.2) (t ∷ []), d.4)
  ]

  none_served : {File : Type 0} (s : DeskState File) (h : CommandList) (result : Result ℕ ListenFault) → StandsFor s h → TellsOf [] result
      → Keeps interface s h [] result
  none_served s h result stands told = record {
    talks = [];
    all = refl;
    served = tt;
    told = told;
    stopped = sym stands.runs;
    desk = inr stands;
    traceless = λ runs. repeats_leave_no_trace h stands.valid;
    crash = λ file leaves. ([], [], refl, inl refl, stands.crash file leaves);
  }

  pub keeps_what_stands : {File : Type 0} (s : DeskState File) (h : CommandList) → StandsFor s h → Keeps interface s h [] (Ok 0)
  keeps_what_stands s h stands = none_served s h (Ok 0) stands (All-nil (λ (t : Talk). t.outcome ≢ Err serve_fault.Store), refl)

  -- no connection came, since none could be accepted
  pub keeps_without_net : {File : Type 0} (s : DeskState File) (h : CommandList) → StandsFor s h → Keeps interface s h [] (Err listen_fault.Net)
  keeps_without_net s h stands = none_served s h (Err listen_fault.Net) stands (All-nil (λ (t : Talk). t.outcome ≢ Err serve_fault.Store))

  -- nothing befell a connection that was given out
  keeps_beside : {File : Type 0} (s : DeskState File) (h : CommandList) (past events : List Event) (n : ℕ) (result : Result ℕ ListenFault)
      → filter is_of_given events ≡ [] → ((talks : List Talk) → TellsOf talks (Ok n) → TellsOf talks result)
      → Keeps interface s h past (Ok n) → Keeps interface s h (past ++ events) result
  keeps_beside s h past events n result none tells keeps = record {
    talks = keeps.talks;
    all = filter-append is_of_given past events ∙ ap (λ (es : List Event). filter is_of_given past ++ es) none ∙ append-nil (filter is_of_given past)
        ∙ keeps.all;
    served = keeps.served;
    told = tells keeps.talks keeps.told;
    stopped = keeps.stopped;
    desk = keeps.desk;
    traceless = keeps.traceless;
    crash = keeps.crash;
  }

  -- no further connection can be accepted
  pub keeps_on_net : {File : Type 0} (s : DeskState File) → KeepsOn interface s s (Err listen_fault.Net) []
  keeps_on_net s = λ h past n clean keeps. keeps_beside s h past [] n (Err listen_fault.Net) refl (λ talks told. told.0) keeps

  -- one came whose waiting can't be limited
  pub keeps_on_unlimited : {File : Type 0} (s : DeskState File) → KeepsOn interface s s (Ok false) (CameUnlimited ∷ [])
  keeps_on_unlimited s = λ h past n clean keeps. keeps_beside s h past (CameUnlimited ∷ []) n (Ok n) refl (λ talks told. told) keeps

  -- a connection came and went, and was served by a desk that stood for what was kept
  keeps_by_headline : {File : Type 0} (old new : DeskState File) (h : CommandList) (past : List Event) (n : ℕ)
      (keeps : Keeps interface old h past (Ok n)) (came went : Socket) (outcome : Result Served ServeFault) (told : Result Bool ListenFault)
      → told ≡ told_of outcome → FailsBy outcome serve_fault.Read came.read_failed went.read_failed
      → FailsBy outcome serve_fault.Write came.write_failed went.write_failed
      → old.is_stopped ≡ false
      → Headline interface (followed_by h (accepted_over keeps.talks)) new came.unread went.unread came.written went.written outcome
      → Keeps interface new h (past ++ Came came ∷ Went went ∷ []) (counted n told)
  keeps_by_headline old new h past n keeps came went outcome told is read_failed write_failed runs headline =
      let talks : List Talk = keeps.talks in
      let run : List Exchange = headline.transcript.run in
      let t : Talk = record {
        came = came;
        went = went;
        outcome = outcome;
        run = run;
        was_stopped = false;
        is_stopped = new.is_stopped;
      } in
      let grown : followed_by (followed_by h (accepted_over talks)) (accepted_in run) ≡ followed_by h (accepted_over (talks ++ t ∷ [])) =
      sym (followed_append h (accepted_over talks) (accepted_in run)) ∙ ap (followed_by h) (sym (over_append talks t)) in
      record {
        talks = talks ++ t ∷ [];
        all = all_append past talks t keeps.all;
        told = subst (λ (r : Result Bool ListenFault). TellsOf (talks ++ t ∷ []) (counted n r)) (sym is) (tells_next talks t n outcome refl keeps.told);
        served = served_append false h talks t keeps.served (sym (keeps.stopped ∙ runs)) (record {
          transcript = retold headline.transcript (refl, headline.transcript.is_run);
          read_failed = read_failed;
          write_failed = write_failed;
          stops = headline.stops;
        });
        stopped = stopped_append false talks t;
        desk = elim headline.desk [ inl stopped ↦ inl stopped | inr stands ↦ inr (subst (λ (k : CommandList). StandsFor new k) grown stands) ];
        traceless = λ runs. subst IsTraceless grown (headline.traceless runs);
        crash = λ file leaves.
            let part = headline.crash file leaves in (
              accepted_over talks ++ part.kept,
              part.lost,
              over_append talks t ∙ ap (λ (cs : List Command). accepted_over talks ++ cs) part.parts
                  ∙ sym (append_assoc (accepted_over talks) part.kept part.lost),
              elim part.in_doubt [ inl none ↦ inl none | inr doubt ↦ inr (talks, t, [], refl, doubt) ],
              subst (λ (k : CommandList). new.holds file k) (sym (followed_append h (accepted_over talks) part.kept)) part.holds,
            );
      }

  -- .. by a stopped one
  keeps_stopped : {File : Type 0} (old new : DeskState File) (h : CommandList) (past : List Event) (n : ℕ)
      (keeps : Keeps interface old h past (Ok n)) (came went : Socket) (outcome : Result Served ServeFault) (told : Result Bool ListenFault)
      → told ≡ told_of outcome → FailsBy outcome serve_fault.Read came.read_failed went.read_failed
      → FailsBy outcome serve_fault.Write came.write_failed went.write_failed
      → old.is_stopped ≡ true
      → StoppedThroughout old new came.unread went.unread came.written went.written outcome
      → Keeps interface new h (past ++ Came came ∷ Went went ∷ []) (counted n told)
  keeps_stopped old new h past n keeps came went outcome told is read_failed write_failed was stopped =
      let talks : List Talk = keeps.talks in
      let run : List Exchange = stopped.transcript.run in
      let t : Talk = record {
        came = came;
        went = went;
        outcome = outcome;
        run = run;
        was_stopped = true;
        is_stopped = new.is_stopped;
      } in
      let none : accepted_in run ≡ [] = none_accepted run stopped.transcript.is_run in
      let same : accepted_over (talks ++ t ∷ []) ≡ accepted_over talks =
      over_append talks t ∙ ap (λ (cs : List Command). accepted_over talks ++ cs) none ∙ append-nil (accepted_over talks) in
      record {
        talks = talks ++ t ∷ [];
        all = all_append past talks t keeps.all;
        told = subst (λ (r : Result Bool ListenFault). TellsOf (talks ++ t ∷ []) (counted n r)) (sym is) (tells_next talks t n outcome refl keeps.told);
        served = served_append false h talks t keeps.served (sym (keeps.stopped ∙ was)) (record {
          transcript = retold stopped.transcript (refl, stopped.transcript.is_run);
          read_failed = read_failed;
          write_failed = write_failed;
          stops = stopped.stays.stopped;
        });
        stopped = stopped_append false talks t;
        desk = inl stopped.stays.stopped;
        traceless = λ runs. absurd (false≢true (sym runs ∙ stopped.stays.stopped));
        crash = λ file leaves.
            let held = keeps.crash file (stopped.stays.crash file leaves) in
            (held.0, held.1, same ∙ held.2, loses_append talks t held.1 held.3, stopped.stays.holds file (followed_by h held.0) held.4);
      }

  -- a connection was served
  pub keeps_on : {File : Type 0} (old new : DeskState File) (came went : Socket) (outcome : Result Served ServeFault) (told : Result Bool ListenFault)
      → told ≡ told_of outcome
      → ((h : CommandList) → new.is_clean → StandsFor old h → Headline interface h new came.unread went.unread came.written went.written outcome)
      → (old.is_stopped ≡ true → StoppedThroughout old new came.unread went.unread came.written went.written outcome)
      → FailsBy outcome serve_fault.Read came.read_failed went.read_failed → FailsBy outcome serve_fault.Write came.write_failed went.write_failed
      → KeepsOn interface old new told (Came came ∷ Went went ∷ [])
  keeps_on old new came went outcome told is headline stopped read_failed write_failed =
      λ h past n clean keeps. elim keeps.desk [
        | inl stop ↦ keeps_stopped old new h past n keeps came went outcome told is read_failed write_failed stop (stopped stop)
        | inr stands ↦
            keeps_by_headline old new h past n keeps came went outcome told is read_failed write_failed stands.runs
            (headline (followed_by h (accepted_over keeps.talks)) clean stands)
      ]

-- where as many were accepted as were to come
pub comes_to_end : {A : Type 0} (has_failed : Type 0) (count : ℕ) (result : Result A ListenFault) (events : List Event)
    → result ≢ Err listen_fault.Net → arrivals_in events ≡ count → ComesToEnd has_failed count result events
comes_to_end has_failed count (Ok a) events other came = came
comes_to_end has_failed count (Err listen_fault.Net) events other came = absurd (other refl)
comes_to_end has_failed count (Err listen_fault.Store) events other came = tt

-- ---- the connections up to now

module _ (interface : Interface) where
  pub serves_none : {File : Type 0} (before : List Event → Type 0) (s : DeskState File) → ServesSoFar interface before before s s 0 0
  serves_none before s = record {
    clean = λ clean. clean;
    events = [];
    seen = λ log was. subst before (sym (append-nil log)) was;
    keeps = λ h clean stands. keeps_what_stands interface s h stands;
    come = refl;
    stays = stays s;
  }

  -- one more was waited for
  pub serves_next : {File : Type 0} (before middle after : List Event → Type 0) (has_failed : Type 0) (old mid new : DeskState File) (count served : ℕ)
      (is_whole : Bool) (more : ℕ)
      → more ≡ bool_byte is_whole
      → ServesSoFar interface before middle old mid count served
      → (new.is_clean → mid.is_clean) → (mid.is_stopped ≡ true → StaysStopped mid new)
      → Befalls middle after (λ events. KeepsOn interface mid new (Ok is_whole) events × ComesToEnd has_failed 1 (Ok is_whole) events)
      → ServesSoFar interface before after old new (count + 1) (served + more)
  serves_next before middle after has_failed old mid new count served is_whole more is so_far clean stays_stopped befell = record {
    clean = λ c. so_far.clean (clean c);
    events = so_far.events ++ befell.0;
    seen = adds_both before middle after so_far.events befell.0 so_far.seen befell.1;
    keeps = λ h c stands. subst (λ (r : Result ℕ ListenFault). Keeps interface new h (so_far.events ++ befell.0) r) (counted_more served is_whole more is)
        (befell.2.0 h so_far.events served c (so_far.keeps h (clean c) stands));
    come = arrivals_append so_far.events befell.0 ∙ grind (arith, so_far.come, befell.2.1);
    stays = stays_on old mid new so_far.stays stays_stopped;
  }

  -- a fault ended them
  pub keeps_to_fault : {File : Type 0} (before middle after : List Event → Type 0) (has_failed : Type 0) (old mid new : DeskState File) (count served : ℕ)
      (fault : ListenFault)
      → ServesSoFar interface before middle old mid count served
      → (new.is_clean → mid.is_clean)
      → Befalls middle after (λ events. KeepsOn interface mid new (Err fault) events × ComesToEnd {A = Bool} has_failed 1 (Err fault) events)
      → (h : CommandList) → new.is_clean → StandsFor old h → Befalls before after (λ events. Keeps interface new h events (Err fault))
  keeps_to_fault before middle after has_failed old mid new count served fault so_far clean befell h c stands = (
    so_far.events ++ befell.0,
    adds_both before middle after so_far.events befell.0 so_far.seen befell.1,
    befell.2.0 h so_far.events served c (so_far.keeps h (clean c) stands),
  )

  pub ends_by_fault : {File : Type 0} (before middle after : List Event → Type 0) (has_failed : Type 0) (old mid new : DeskState File) (count served all : ℕ)
      (fault : ListenFault)
      → ServesSoFar interface before middle old mid count served
      → Befalls middle after (λ events. KeepsOn interface mid new (Err fault) events × ComesToEnd {A = Bool} has_failed 1 (Err fault) events)
      → Befalls before after (λ events. ComesToEnd {A = ℕ} has_failed all (Err fault) events)
  ends_by_fault before middle after has_failed old mid new count served all fault so_far befell = (
    so_far.events ++ befell.0,
    adds_both before middle after so_far.events befell.0 so_far.seen befell.1,
    ends fault befell.2.1,
  ) where
    ends : (fault : ListenFault) → ComesToEnd {A = Bool} has_failed 1 (Err fault) befell.0
        → ComesToEnd {A = ℕ} has_failed all (Err fault) (so_far.events ++ befell.0)
    ends listen_fault.Net failed = failed
    ends listen_fault.Store stopped = tt
