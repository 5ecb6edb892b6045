-- Runs grow at their end by one request.
use Rattle.rollout_desk.proofs.Common.{Contains, inl, inr, ◌≡◌, ◌≢◌, ◌≤◌, ◌<◌, ◌+◌, ℕ, true, false, length, take, drop, get_or, List, [], ◌∷◌, ◌++◌}
use Rattle.rollout_desk.proofs.Common.{map, refl, sym, ap, ◌∙◌, subst, append-nil, arith, false≢true, StoreFailed, MayAnswer, Command, CommandList, ◌▸◌}
use Rattle.rollout_desk.proofs.Common.{followed_by, Reply, Refused, Request, Asks, one, DeskState, StandsFor, Applies, request_of, reply_of, RequestExchange}
use Rattle.rollout_desk.proofs.Common.{accepted_of, IsRun, GoesOn, RunsThrough, BreaksOff, is_failed_store, failed_true}
use Rattle.std.proofs.lemmas.List.{map-append, take_all, take_more, take-append-drop}
use Rattle.std.proofs.lemmas.List.Concat.{flat_map-append}
use Rattle.std.proofs.lemmas.List.Elements.{All-append, Contains-push_cases}
use Rattle.rollout_model.specs.declared.request.Reply as model
use Rattle.rollout_model.specs.declared.request.Request as asked

pub followed_append : (h : CommandList) (cs ds : List Command) → followed_by h (cs ++ ds) ≡ followed_by (followed_by h cs) ds
followed_append h [] ds = refl
followed_append h (c ∷ cs) ds = followed_append (h ▸ c) cs ds

accepted_more : (xs : List RequestExchange) (x : RequestExchange) → accepted_of (xs ++ x ∷ []) ≡ accepted_of xs ++ one x.accepted
accepted_more xs x = grind (arith, flat_map-append, append-nil)

-- the list that one more exchange leads to
led : (h : CommandList) (xs : List RequestExchange) (x : RequestExchange) → followed_by (followed_by h (accepted_of xs)) (one x.accepted)
    ≡ followed_by h (accepted_of (xs ++ x ∷ []))
led h xs x = sym (followed_append h (accepted_of xs) (one x.accepted)) ∙ ap (followed_by h) (sym (accepted_more xs x))

run_more : (h : CommandList) (xs : List RequestExchange) (x : RequestExchange) → IsRun h xs
    → MayAnswer (followed_by h (accepted_of xs)) (Asks x.request) x.reply x.accepted
    → IsRun h (xs ++ x ∷ [])
run_more h [] x run answers = (answers, tt)
run_more h (y ∷ xs) x run answers =
    let k : CommandList = followed_by h (one y.accepted) in
    let later : MayAnswer (followed_by k (accepted_of xs)) (Asks x.request) x.reply x.accepted =
    subst (λ (l : CommandList). MayAnswer l (Asks x.request) x.reply x.accepted) (followed_append h (one y.accepted) (accepted_of xs)) answers in
    (run.0, run_more k xs x run.1 later)

-- these requests got these replies, from any list, and no store failed
abbrev pub Ran : {File : Type 0} → DeskState File → DeskState File → List Request → List Reply → Type 0
Ran old new requests replies = (h : CommandList) → new.is_clean → StandsFor old h → RunsThrough h new requests replies

one_goes : (x : RequestExchange) → x.reply ≢ Refused StoreFailed → GoesOn (x ∷ [])
one_goes x goes h2 d few = grind arith

pub nothing_ran : {File : Type 0} (s : DeskState File) → Ran s s [] []
nothing_ran s h clean stands = record {
  run = [];
  requests_are = refl;
  replies_are = refl;
  is_run = tt;
  goes_on = λ k d few. absurd (omega (arith, few));
  stands = stands;
}

module _ {File : Type 0} (old middle new : DeskState File) (requests : List Request) (replies : List Reply) (request : Request) (reply : Reply) where
  -- one more request was answered
  ran_more : Ran old middle requests replies → (new.is_clean → middle.is_clean) → Applies middle new (Asks request) reply → reply ≢ Refused StoreFailed
      → Ran old new (requests ++ request ∷ []) (replies ++ reply ∷ [])
  ran_more so_far worn applies goes h clean stands =
      let r = so_far h (worn clean) stands in
      let a = applies (followed_by h (accepted_of r.run)) clean r.stands in
      let x : RequestExchange = record { request = request; reply = reply; accepted = a.accepted } in record {
        run = r.run ++ x ∷ [];
        requests_are = map-append (λ (y : RequestExchange). y.request) r.run (x ∷ []) ∙ ap (λ (l : List Request). l ++ request ∷ []) r.requests_are;
        replies_are = map-append (λ (y : RequestExchange). y.reply) r.run (x ∷ []) ∙ ap (λ (l : List Reply). l ++ reply ∷ []) r.replies_are;
        is_run = run_more h r.run x r.is_run a.answers;
        goes_on = All-append (λ (y : RequestExchange). y.reply ≢ Refused StoreFailed) r.run (x ∷ []) r.goes_on (one_goes x goes);
        stands = subst (λ (l : CommandList). StandsFor new l) (led h r.run x) (a.becomes.stands goes);
      }

  -- the store failed at one more request
  broke_off : Ran old middle requests replies → (new.is_clean → middle.is_clean) → Applies middle new (Asks request) reply → reply ≡ Refused StoreFailed
      → (unanswered : List Request) → (h : CommandList) → new.is_clean → StandsFor old h
      → BreaksOff h new (requests ++ request ∷ [] ++ unanswered) (replies ++ reply ∷ [])
  broke_off so_far worn applies failed unanswered h clean stands =
      let r = so_far h (worn clean) stands in
      let a = applies (followed_by h (accepted_of r.run)) clean r.stands in
      let x : RequestExchange = record { request = request; reply = reply; accepted = a.accepted } in record {
        before = r.run;
        last = x;
        unanswered = unanswered;
        requests_are = ap (λ (l : List Request). l ++ unanswered) (map-append (λ (y : RequestExchange). y.request) r.run (x ∷ [])
            ∙ ap (λ (l : List Request). l ++ request ∷ []) r.requests_are);
        replies_are = map-append (λ (y : RequestExchange). y.reply) r.run (x ∷ []) ∙ ap (λ (l : List Reply). l ++ reply ∷ []) r.replies_are;
        is_run = run_more h r.run x r.is_run a.answers;
        goes_on = r.goes_on;
        valid = r.stands.valid;
        failed = failed;
        in_doubt = a.becomes.in_doubt failed;
      }

-- ---- over the lists of the code

asked_more : (xs : List asked.Request) (i : ℕ) (x : asked.Request) → i < length xs → x ≡ get_or xs i x → map request_of (take i xs) ++ request_of x ∷ []
    ≡ map request_of (take (i + 1) xs)
asked_more xs i x few is = sym (ap (map request_of) (take_more xs i x few ∙ ap (λ (y : asked.Request). take i xs ++ y ∷ []) (sym is))
    ∙ map-append request_of (take i xs) (x ∷ []))

asked_all : (xs : List asked.Request) (i : ℕ) (x : asked.Request) → i < length xs → x ≡ get_or xs i x → map request_of (take i xs) ++ request_of x ∷ []
    ++ map request_of (drop (i + 1) xs) ≡ map request_of xs
asked_all xs i x few is =
    ap (λ (l : List Request). l ++ map request_of (drop (i + 1) xs)) (asked_more xs i x few is)
    ∙ sym (map-append request_of (take (i + 1) xs) (drop (i + 1) xs)) ∙ ap (map request_of) (take-append-drop (i + 1) xs)

replied_more : (before after : List model.Reply) (reply : model.Reply) → after ≡ before ++ reply ∷ [] → map reply_of before ++ reply_of reply ∷ []
    ≡ map reply_of after
replied_more before after reply is = sym (ap (map reply_of) is ∙ map-append reply_of before (reply ∷ []))

-- the request at an index was answered, and its reply was pushed
module _ {File : Type 0} (old middle new : DeskState File) (xs : List asked.Request) (i : ℕ) (x : asked.Request) (few : i < length xs) (is : x ≡ get_or xs i x)
    (before after : List model.Reply) (reply : model.Reply) (pushed : after ≡ before ++ reply ∷ [])
    (so_far : Ran old middle (map request_of (take i xs)) (map reply_of before))
    (worn : new.is_clean → middle.is_clean) (applies : Applies middle new (Asks (request_of x)) (reply_of reply)) where
  pub goes_on : false ≡ is_failed_store (reply_of reply) → Ran old new (map request_of (take (i + 1) xs)) (map reply_of after)
  goes_on other h clean stands = rw (sym (asked_more xs i x few is), sym (replied_more before after reply pushed))
      (ran_more old middle new _ _ (request_of x) (reply_of reply) so_far worn applies (λ failed. false≢true (other ∙ ap is_failed_store failed)) h clean
      stands)

  pub ends : true ≡ is_failed_store (reply_of reply) → (h : CommandList) → new.is_clean → StandsFor old h
      → BreaksOff h new (map request_of xs) (map reply_of after)
  ends failed h clean stands = rw (sym (asked_all xs i x few is), sym (replied_more before after reply pushed))
      (broke_off old middle new _ _ (request_of x) (reply_of reply) so_far worn applies (failed_true (reply_of reply) (sym failed))
      (map request_of (drop (i + 1) xs)) h clean stands)

-- no reply tells of a failed store
abbrev pub NoneFailed : List model.Reply → Type 0
NoneFailed replies = Contains (map reply_of replies) (Refused StoreFailed) → ⊥

pub none_failed_yet : NoneFailed []
none_failed_yet has = let few = has.1 in absurd (omega (arith, few))

pub none_failed_more : (before after : List model.Reply) (reply : model.Reply) → after ≡ before ++ reply ∷ [] → false ≡ is_failed_store (reply_of reply)
    → NoneFailed before → NoneFailed after
none_failed_more before after reply pushed other so_far has =
    elim (Contains-push_cases (map reply_of before) (reply_of reply) (Refused StoreFailed)
    (subst (λ (l : List Reply). Contains l (Refused StoreFailed)) (sym (replied_more before after reply pushed)) has)) [
      | inl earlier ↦ so_far earlier
      | inr same ↦ absurd (false≢true (other ∙ ap is_failed_store same))
    ]

-- every request was answered
pub all_ran : {File : Type 0} (old new : DeskState File) (xs : List asked.Request) (i : ℕ) (replies : List Reply) → length xs ≤ i
    → Ran old new (map request_of (take i xs)) replies → Ran old new (map request_of xs) replies
all_ran old new xs i replies all so_far h clean stands = subst (λ (l : List asked.Request). RunsThrough h new (map request_of l) replies) (take_all i xs all)
    (so_far h clean stands)
