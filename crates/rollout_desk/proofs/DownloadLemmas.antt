-- From looks at the records, and from answers, to downloads.
use Rattle.rollout_desk.proofs.Common.{◌≡◌, ◌≢◌, ◌≤◌, ◌<◌, inl, inr, ◌+◌, ◌*◌, ◌++◌, ℕ, suc, List, [], ◌∷◌, Bool, true, false, cond, nat_eq, take, drop, Vec}
use Rattle.rollout_desk.proofs.Common.{Option, Some, None, Result, Ok, Err, refl, sym, subst, ap, ◌∙◌, arith, Global, option_map, State, rest_shows}
use Rattle.rollout_desk.proofs.Common.{HoldsRecords, piece_numbered, pieces_of_artifact, Answer, query_reply, if_found, artifact_if, item_numbered, CommandList}
use Rattle.rollout_desk.proofs.Common.{followed_by, Bytes, Command, Credential, ArtifactRecord, Records, added_artifacts, artifacts, Reply, Refused}
use Rattle.rollout_desk.proofs.Common.{ArtifactShown, ContentsShown, Ask, Asks, Request, ShowArtifact, ShowContents, one, DeskState, StandsFor, Applies}
use Rattle.rollout_desk.proofs.Common.{reply_of, query_answer, limits, Refusal, StoreFailed, desk_state_at, sent, next_length, BeginsAt}
use Rattle.rollout_desk.proofs.Common.{HandsPieces, artifact_in, BeginsOffered, HandsItsArtifact, IsNextOf, RefusesContents, DownloadsGoOn, FindsDownload}
use Rattle.rollout_desk.proofs.Common.{is_store, IsAtRest, Looks, bytes_of, IsPromised, length, length-take, length-drop, Sends, HasCleanDisk, Ghosts, state}
use Rattle.desk_views.specs.Downloads.{downloadable}
use Rattle.desk_views.proofs.DeviceViews.{answered_by}
use Rattle.rollout_machine.specs.Objects.{artifact_shown}
use Rattle.rollout_machine.specs.Records.{records}
use Rattle.rollout_machine.specs.Requests.{Download as DownloadOf}
use Rattle.rollout_model.specs.declared.artifact.Artifact.{Artifact}
use Rattle.rollout_model.specs.declared.request.Reply as model
use Rattle.request_handler.specs.declared.download.Download.{Download}
use Rattle.rollout_desk.specs.Downloads.{Begins}
use Rattle.rollout_desk.specs.Looks.{IsOtherThan, Looked, ReadsDownload}
use Rattle.rollout_desk.specs.Desks.{Known, desk_state_knowing}
use Rattle.rollout_desk.proofs.ApplyLemmas.{rests_records, shown, stands, stood, unshown}
use Rattle.rollout_desk.proofs.KnowingLemmas.{after, knowing, unknowing}
use Rattle.rollout_desk.proofs.DeskLemmas.{answers_knowing}
use Rattle.sql_calls.specs.declared.calls.Calls.{Calls}
use Rattle.rollout_desk.specs.Causes.{FailsByCalls}
use Rattle.rollout_desk.proofs.PromiseLemmas.{downloaded}
use Rattle.rollout_desk.proofs.PieceLemmas.{size_is, piece_is, piece_there, so_far, joins}

-- ---- the next piece

abbrev Found : Type 0
Found = Result (Option (Vec ℕ Global)) Refusal

abbrev one_more : Download → Download
one_more p = record p { pieces = p.pieces + 1 }

-- what the records have at the place of the next piece
abbrev IsNextPiece : Download → Records → Option (Vec ℕ Global) → Type 0
IsNextPiece p r found = bytes_of found ≡ piece_numbered r.artifacts p.number (p.pieces + 1)

module _ (known : Known) (was : Bool) (a b : State) (p : Download) where
  -- what stands again, and knows what it knew
  again : (h : CommandList) → StandsFor (desk_state_knowing HoldsRecords known was a) h → was ≡ false → IsAtRest HoldsRecords b (records h)
      → StandsFor (desk_state_knowing HoldsRecords known was b) h
  again h standing runs rests = subst (λ (x : Bool). StandsFor (desk_state_knowing HoldsRecords known x b) h) (sym runs)
      (knowing HoldsRecords known false b h (stands b h standing.valid rests) standing.shows.1)

  pub handed : (found : Found) (piece : Vec ℕ Global) → Looks HoldsRecords a b found (IsNextPiece p) → found ≡ Ok (Some piece) → 1 ≤ next_length p → was ≡ false
      → HandsPieces (desk_state_knowing HoldsRecords known was a) (desk_state_knowing HoldsRecords known was b) p (one_more p) (Ok (Some piece))
  handed found piece look is more runs h contents clean standing sends =
      let looked : Looks HoldsRecords a b (Ok (Some piece)) (IsNextPiece p) = subst (λ x. Looks HoldsRecords a b x (IsNextPiece p)) is look in
      let it = looked.looks (records h) (λ _. standing.shows.0) in
      let before : p.pieces * limits.piece_length < p.size = omega (arith, more) in
      let next : piece.items ≡ take limits.piece_length (drop (p.pieces * limits.piece_length) contents) =
      piece_is (records h) p.number p.pieces contents piece.items
      sends.artifact (it.1 clean) in (
        again h standing runs (it.0 clean),
        record { artifact = sends.artifact; size = sends.size },
        record {
          next = next ∙ ap (λ n. take limits.piece_length (drop n contents)) (sym (so_far contents p.size p.pieces sends.size before));
          joined = joins contents p.size p.pieces sends.size before ∙ ap (λ l. take (sent p) contents ++ l) (sym next);
        },
      )

-- ---- whatever the download is of

none_numbered : (n : ℕ) → item_numbered {X = Bytes} [] n ≡ None
none_numbered n = grind arith

next_of : (h : CommandList) (p : Download) (piece : Bytes) → Some piece ≡ piece_numbered (records h).artifacts p.number (p.pieces + 1) → IsNextOf h p piece
next_of h p piece is = elim (item_numbered (records h).artifacts p.number) as (λ x. item_numbered (records h).artifacts p.number ≡ x → IsNextOf h p piece) [
  | None ↦ λ at. absurd (let no : Some piece ≡ None =
      is ∙ ap (λ x. item_numbered (pieces_of_artifact x) (p.pieces + 1)) at ∙ none_numbered (p.pieces + 1) in cc)
  | Some a ↦ λ at. let has = ap (option_map (λ (x : ArtifactRecord). x.contents)) at in
      record { contents = a.contents; artifact = has; next = piece_is (records h) p.number p.pieces a.contents piece has is }
] refl

module _ (known : Known) (was : Bool) (a b : State) (p : Download) where
  pub own_piece : (found : Found) (piece : Vec ℕ Global) → Looks HoldsRecords a b found (IsNextPiece p) → found ≡ Ok (Some piece) → was ≡ false
      → HandsItsArtifact (desk_state_knowing HoldsRecords known was a) (desk_state_knowing HoldsRecords known was b) p (Ok (Some piece))
  own_piece found piece look is runs h clean standing =
      let looked : Looks HoldsRecords a b (Ok (Some piece)) (IsNextPiece p) = subst (λ x. Looks HoldsRecords a b x (IsNextPiece p)) is look in
      let it = looked.looks (records h) (λ _. standing.shows.0) in
      (again known was a b p h standing runs (it.0 clean), next_of h p piece.items (it.1 clean))

  -- a list's contents have the piece, of its length
  pub never_other : (found : Found) → Looks HoldsRecords a b found (IsNextPiece p) → 1 ≤ next_length p → (h : CommandList) (contents : Bytes) → HasCleanDisk b
      → StandsFor (desk_state_knowing HoldsRecords known was a) h → Sends h p contents
      → IsOtherThan (next_length p) found → ⊥
  never_other (Ok x) look more h contents clean standing sends other =
      go x other ((look.looks (records h) (λ _. standing.shows.0)).1 clean ∙ piece_there (records h) p.number p.pieces contents sends.artifact
      (omega (arith, more, sends.size)))
    where
      go : (x : Option (Vec ℕ Global)) → IsOtherThan (next_length p) (Ok x) → bytes_of x
          ≡ Some (take limits.piece_length (drop (p.pieces * limits.piece_length) contents))
          → ⊥
      go None other is = absurd cc
      go (Some piece) other is =
          let same : piece.items ≡ take limits.piece_length (drop (p.pieces * limits.piece_length) contents) = cc in
          other (ap length same ∙ length-take limits.piece_length (drop (p.pieces * limits.piece_length) contents)
          ∙ omega (arith, length-drop (p.pieces * limits.piece_length) contents, sends.size))
  never_other (Err refusal) look more h contents clean standing sends other = other

-- ---- the first answer

-- what answers a query
abbrev answered : Reply → Answer
answered r = record { reply = r; accepted = None }

-- a reply that shows no artifact
pub other_reply : (r o : model.Reply) → Err o ≡ artifact_in r → (r ≡ o) × ((shown : Artifact) → reply_of r ≢ ArtifactShown shown)
other_reply r o is = grind arith

pub shown_reply : (r : model.Reply) (a : Artifact) → Ok a ≡ artifact_in r → reply_of r ≡ ArtifactShown a
shown_reply r b is = grind arith

module _ {File : Type 0} (old new : DeskState File) (m k : ℕ) where
  abbrev for_artifact : Option ArtifactRecord → Reply
  for_artifact x = if_found (λ (a : ArtifactRecord). ArtifactShown (artifact_shown k a)) x

  abbrev for_contents : Option ArtifactRecord → Reply
  for_contents x = if_found (λ (a : ArtifactRecord). ContentsShown a.contents) x

  -- the contents are refused as the artifact is
  pub contents_refused : (r : Reply) → ((shown : Artifact) → r ≢ ArtifactShown shown) → Applies old new (Asks (Ask (ShowArtifact m k))) r
      → Applies old new (Asks (Ask (ShowContents m k))) r
  contents_refused r never applies h clean standing = grind (arith, query_answer)

  -- an answer that shows no artifact refuses
  pub refuses : (r : Reply) → ((shown : Artifact) → r ≢ ArtifactShown shown) → Applies old new (Asks (Ask (ShowArtifact m k))) r
      → RefusesContents old new (ShowContents m k) r
  refuses r never applies h clean standing = grind (arith, query_answer)

  module _ (shown : Artifact) (h : CommandList) (standing : StandsFor new h) where
    abbrev Begun : Type 0
    Begun = BeginsAt h new (Asks (Ask (ShowContents m k))) (record { number = k; size = shown.size; pieces = 0 })

    begun_own : (a : ArtifactRecord) → item_numbered (records h).artifacts k ≡ Some a → (b : Bool) → nat_eq a.module_number m ≡ b → ArtifactShown shown
        ≡ for_artifact (cond b (Some a) None) → Begun
    begun_own a at false own is = absurd cc
    begun_own a at true own is =
        let same : shown ≡ artifact_shown k a = cc in record {
          stands = standing;
          contents = a.contents;
          answer = query_answer h (ShowContents m k)
              ∙ ap answered (ap (λ x. for_contents (artifact_if m x)) at ∙ ap (λ b. for_contents (cond b (Some a) None)) own);
          sends = record {
            artifact = ap (option_map (λ (x : ArtifactRecord). x.contents)) at;
            size = ap (λ (x : Artifact). x.size) same ∙ size_is h k a at;
          };
          start = omega arith;
        }

    begun_at : (x : Option ArtifactRecord) → item_numbered (records h).artifacts k ≡ x → ArtifactShown shown ≡ for_artifact (artifact_if m x) → Begun
    begun_at x at is = grind (arith, begun_own)

  -- the artifact is shown, so its contents can be sent
  pub begun : (shown : Artifact) → Applies old new (Asks (Ask (ShowArtifact m k))) (ArtifactShown shown)
      → Begins old new (Asks (Ask (ShowContents m k))) (Ok (record { number = k; size = shown.size; pieces = 0 }))
  begun shown applies h clean standing =
      let it = applies h clean standing in
      elim it.answers [
        | inl none ↦ absurd (let no = none.0 in cc)
        | inr other ↦ elim other [
          | inl failed ↦ absurd (let no = failed.0 in cc)
          | inr found ↦
              let same : ArtifactShown shown ≡ query_reply (records h) (ShowArtifact m k) =
              ap (λ (x : Answer). x.reply) (found.1 ∙ query_answer h (ShowArtifact m k)) in
              let none : it.accepted ≡ None = ap (λ (x : Answer). x.accepted) (found.1 ∙ query_answer h (ShowArtifact m k)) in
              begun_at shown h (subst (λ (o : Option Command). StandsFor new (followed_by h (one o))) none (it.becomes.stands found.0))
              (item_numbered (records h).artifacts k) refl same
        ]
      ]

-- ---- what a device downloads

-- the machine never refuses a download so
pub never_stores : (r : Records) (device : Credential) (m : ℕ) (filename : Bytes) (found : Result Artifact Refusal) → found ≡ downloadable r device m filename
    → found ≢ Err StoreFailed
never_stores r device m filename found is failed = grind arith

module _ {S : Type 0} (g : Ghosts S) (old new : Calls S) (device : Credential) (m : ℕ) (filename : Bytes) where
  abbrev LooksFor : Result (Result Artifact Refusal) Refusal → Type 0
  LooksFor result = Looked g (ReadsDownload g device m filename) old new result

  abbrev FindsIt : Result Artifact Refusal → Type 0
  FindsIt found = FindsDownload HoldsRecords (state g old.conn) (state g new.conn) device m filename found

  is_found : (found : Result Artifact Refusal) → LooksFor (Ok found) → (h : CommandList) → StandsFor (desk_state_at HoldsRecords false (state g old.conn)) h
      → HasCleanDisk (state g new.conn) → found ≡ downloadable (records h) device m filename
  is_found found it h was clean = grind (arith, rest_shows, stood)

  pub looked_for : (found : Result Artifact Refusal) → LooksFor (Ok found) → FindsIt found
  looked_for (Ok s) it = record {
    wears = it.wears;
    finds = λ h clean was. (
      stands (state g new.conn) h was.valid (rests_records (state g new.conn) (records h) (it.to.1 _ (stood (state g old.conn) h was)) clean),
      is_found (Ok s) it h was clean,
    );
  }
  looked_for (Err refusal) it = record {
    wears = it.wears;
    finds = (shown (state g old.conn) (state g new.conn) (Ask (DownloadOf device m filename)) it.wears (Refused refusal) it.to.1
        (λ h was clean. ap answered (sym (answered_by m filename (records h) device (Err refusal) (is_found (Err refusal) it h was clean)))
        ∙ sym (query_answer h (DownloadOf device m filename)))).handles;
  }

  pub looked_in_vain : (refusal : Refusal) → LooksFor (Err refusal) → FindsIt (Err refusal)
  looked_in_vain refusal it =
      record { wears = it.wears; finds = (unshown (state g old.conn) (state g new.conn) (Ask (DownloadOf device m filename)) it.wears refusal it.to).handles }

  -- the machine never refuses a download so
  pub never_failed : (found : Result Artifact Refusal) → LooksFor (Ok found) → found ≡ Err StoreFailed → FailsByCalls g old new
  never_failed found it is h clean counted was = absurd (never_stores (records h) device m filename found (is_found found it h was clean) is)

module _ (a : State) (device : Credential) (m : ℕ) (filename : Bytes) where
  abbrev request : Request
  request = Ask (DownloadOf device m filename)

  -- of a desk that runs
  module _ (known : Known) (was : Bool) (runs : was ≡ false) (b : State) where
    pub offered_begins : (s : Artifact) → FindsDownload HoldsRecords a b device m filename (Ok s)
        → Begins (desk_state_knowing HoldsRecords known was a) (desk_state_knowing HoldsRecords known was b) (Asks request)
        (Ok (record { number = s.number; size = s.size; pieces = 0 }))
    offered_begins s found h clean standing =
        let it = found.finds h clean
        (subst (λ (x : Bool). StandsFor (desk_state_at HoldsRecords x a) h) runs (unknowing HoldsRecords known was a h standing)) in
        let of = answered_by m filename (records h) device (Ok s) it.1 in record {
          stands = subst (λ (x : Bool). StandsFor (desk_state_knowing HoldsRecords known x b) h) (sym runs)
              (knowing HoldsRecords known false b h it.0 standing.shows.1);
          contents = of.0.contents;
          answer = query_answer h (DownloadOf device m filename) ∙ ap answered of.1;
          sends = record { artifact = ap (option_map (λ (x : ArtifactRecord). x.contents)) of.2; size = of.3 ∙ size_is h s.number of.0 of.2 };
          start = omega arith;
        }

    -- .. of what the device is offered
    pub offered_to_it : (s : Artifact) → FindsDownload HoldsRecords a b device m filename (Ok s)
        → IsPromised (desk_state_knowing HoldsRecords known was a) (desk_state_knowing HoldsRecords known was b)
        (λ h. BeginsOffered h (DownloadOf device m filename) (record { number = s.number; size = s.size; pieces = 0 }))
    offered_to_it s found h clean standing = let it = offered_begins s found h clean standing in (
      it.contents,
      it.sends,
      downloaded h device m filename it.contents
          (ap (λ (a : Answer). a.reply) (sym (query_answer h (DownloadOf device m filename)) ∙ it.answer)),
    )

    -- .. or is refused
    pub offered_refused : (refusal : Refusal) (stopped : Bool) → stopped ≡ is_store refusal → FindsDownload HoldsRecords a b device m filename (Err refusal)
        → Applies (desk_state_knowing HoldsRecords known was a) (desk_state_knowing HoldsRecords known stopped b) (Asks request) (Refused refusal)
    offered_refused refusal stopped is found = answers_knowing HoldsRecords known known a b was stopped request (Refused refusal) runs
        (λ h clean standing. found.finds h clean (unknowing HoldsRecords known false a h standing)) is
        (after known (DownloadOf device m filename) (Refused refusal))

-- ---- later commands

found_still : (xs ys : List ArtifactRecord) (number : ℕ) (contents : Bytes) → option_map (λ (a : ArtifactRecord). a.contents) (item_numbered xs number)
    ≡ Some contents
    → option_map (λ (a : ArtifactRecord). a.contents) (item_numbered (xs ++ ys) number) ≡ Some contents
found_still (a ∷ xs) ys (suc (suc k)) contents is = found_still xs ys (suc k) contents is
found_still xs ys number contents is = grind arith

pub goes_on : DownloadsGoOn
unfolding records
goes_on h c d contents sends = record { artifact = found_still (artifacts h) (added_artifacts c) d.number contents sends.artifact; size = sends.size }
