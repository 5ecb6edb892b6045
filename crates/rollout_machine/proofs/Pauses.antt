-- The computing definition of a pause, and the words "some prefix began a pause, and no resume follows it".
use native.Mathlib.Omega.{arith}
use Rattle.rollout_machine.proofs.Common.{◌≡◌, Bool, true, false, ◌||◌, ◌&&◌, not, List, [], ◌∷◌, ◌++◌, refl, ◌∙◌, ap, subst, ℕ, sym, inl, inr, ◌⊎◌, and_parts}
use Rattle.rollout_machine.proofs.Common.{not-true, eq-eqb, eqb-true, false≢true, cases_Bool, CommandList, Make, ◌▸◌, followed_by, Resume, Start, Command}
use Rattle.rollout_machine.proofs.Common.{NoResume, SomePause, PausedIs, StartIsIn, FirstStartedIs, is_rollout_started, is_start_of, is_paused, pause_begins}
use Rattle.rollout_machine.proofs.Common.{is_resume_of, Rollout}
use Rattle.rollout_machine.proofs.Meanings.{one_more, pause_begins_to, pause_begins_from, longer}

abbrev pub NoneResumes : ℕ → List Command → Type 0
NoneResumes r [] = Unit {0}
NoneResumes r (c ∷ cs) = (is_resume_of r c ≡ false) × (NoneResumes r cs)

-- a pause begins at the prefix q ▸ c of h, and no resume follows
pub record PauseAt (x : Rollout) (r : ℕ) (h : CommandList) : Type 0 where
  pub before : CommandList
  pub at_command : Command
  pub rest : List Command
  pub whole : followed_by (before ▸ at_command) rest ≡ h
  pub begins : pause_begins x r before at_command ≡ true
  pub no_resume : NoneResumes r rest

no_more : (r : ℕ) (cs : List Command) (c : Command) → NoneResumes r cs → is_resume_of r c ≡ false → NoneResumes r (cs ++ c ∷ [])
no_more r [] c w e = (e, tt)
no_more r (d ∷ cs) c w e = (w.0, no_more r cs c w.1 e)

stays_paused : (x : Rollout) (r : ℕ) (g : CommandList) (cs : List Command) → is_paused x r g ≡ true → NoneResumes r cs → is_paused x r (followed_by g cs) ≡ true
stays_paused x r g [] e w = e
stays_paused x r g (c ∷ cs) e w = stays_paused x r (g ▸ c) cs (kept (pause_begins x r g c) (is_resume_of r c) (is_paused x r g) w.0 e) w.1
  where
    kept : (b q p : Bool) → q ≡ false → p ≡ true → (b || (not q && p)) ≡ true
    kept true q p e f = refl
    kept false q p e f = rw (e, f) refl

pub paused_from : (x : Rollout) (r : ℕ) (h : CommandList) → PauseAt x r h → is_paused x r h ≡ true
paused_from x r h w =
    let now : is_paused x r (w.before ▸ w.at_command) ≡ true = began (pause_begins x r w.before w.at_command) _ w.begins in
    subst (λ (g : CommandList). is_paused x r g ≡ true) w.whole (stays_paused x r (w.before ▸ w.at_command) w.rest now w.no_resume)
  where
    began : (b c : Bool) → b ≡ true → (b || c) ≡ true
    began true c e = refl
    began false c e = cc

pub paused_to : (x : Rollout) (r : ℕ) (h : CommandList) → is_paused x r h ≡ true → PauseAt x r h
paused_to x r (Make approval) e = cc
paused_to x r (h ▸ c) e = go (or_split (pause_begins x r h c) (not (is_resume_of r c) && is_paused x r h) e) (paused_to x r h)
  where
    or_split : (a b : Bool) → (a || b) ≡ true → (a ≡ true) ⊎ (b ≡ true)
    or_split true b d = inl d
    or_split false b d = inr d

    go : (pause_begins x r h c ≡ true) ⊎ ((not (is_resume_of r c) && is_paused x r h) ≡ true) → (is_paused x r h ≡ true → PauseAt x r h) → PauseAt x r (h ▸ c)
    go (inl b) ih = record { before = h; at_command = c; rest = []; whole = refl; begins = b; no_resume = tt }
    go (inr k) ih =
        let parts : (not (is_resume_of r c) ≡ true) × (is_paused x r h ≡ true) = and_parts _ _ k in
        let w : PauseAt x r h = ih parts.1 in
        record {
          before = w.before;
          at_command = w.at_command;
          rest = w.rest ++ c ∷ [];
          whole = one_more (w.before ▸ w.at_command) w.rest c
              ∙ ap (λ g. g ▸ c) w.whole;
          begins = w.begins;
          no_resume = no_more r w.rest c w.no_resume (not-true _ parts.0);
        }

-- ---- in words

is_resume : (r : ℕ) (c : Command) → is_resume_of r c ≡ true → c ≡ Resume r
is_resume r c e = grind (arith, eqb-true)

words_of : (r : ℕ) (cs : List Command) → NoneResumes r cs → NoResume r cs
words_of r [] w = tt
words_of r (c ∷ cs) w = (λ e. false≢true (sym w.0 ∙ (ap (is_resume_of r) e ∙ eq-eqb r r refl)), words_of r cs w.1)

tests_of : (r : ℕ) (cs : List Command) → NoResume r cs → NoneResumes r cs
tests_of r [] w = tt
tests_of r (c ∷ cs) w = (not_resume w.0, tests_of r cs w.1)
  where
    not_resume : (c ≡ Resume r → ⊥) → is_resume_of r c ≡ false
    not_resume other = elim (cases_Bool (is_resume_of r c)) [ inl t ↦ absurd (other (is_resume r c t)) | inr f ↦ f ]

pub paused_is : PausedIs
paused_is x r h = (λ e. to (paused_to x r h e), λ w. paused_from x r h (from w))
  where
    to : PauseAt x r h → SomePause x r h
    to w = record {
      at_end = record { before = w.before; command = w.at_command; rest = w.rest; whole = w.whole };
      begins =
          pause_begins_to x r w.before w.at_command w.begins;
      no_resume = words_of r w.rest w.no_resume;
    }

    from : SomePause x r h → PauseAt x r h
    from w = record {
      before = w.at_end.before;
      at_command = w.at_end.command;
      rest = w.at_end.rest;
      whole = w.at_end.whole;
      begins =
          pause_begins_from x r w.at_end.before w.at_end.command w.begins;
      no_resume = tests_of r w.at_end.rest w.no_resume;
    }

-- ---- the first group is started where the start is in the list

is_start : (r : ℕ) (c : Command) → is_start_of r c ≡ true → c ≡ Start r
is_start r c e = grind (arith, eqb-true)

start_to : (r : ℕ) (h : CommandList) → is_rollout_started r h ≡ true → StartIsIn r h
start_to r (Make approval) e = cc
start_to r (h ▸ c) e = go (or_split _ _ e) (start_to r h)
  where
    or_split : (a b : Bool) → (a || b) ≡ true → (a ≡ true) ⊎ (b ≡ true)
    or_split true b d = inl d
    or_split false b d = inr d

    go : (is_rollout_started r h ≡ true) ⊎ (is_start_of r c ≡ true) → (is_rollout_started r h ≡ true → StartIsIn r h) → StartIsIn r (h ▸ c)
    go (inl d) ih = let w = ih d in (longer h c w.0, w.1)
    go (inr d) ih = (record { before = h; command = c; rest = []; whole = refl }, is_start r c d)

started_stays : (r : ℕ) (g : CommandList) (cs : List Command) → is_rollout_started r g ≡ true → is_rollout_started r (followed_by g cs) ≡ true
started_stays r g [] e = e
started_stays r g (c ∷ cs) e = started_stays r (g ▸ c) cs (rw e refl)

start_from : (r : ℕ) (h : CommandList) → StartIsIn r h → is_rollout_started r h ≡ true
start_from r h w = subst (λ (g : CommandList). is_rollout_started r g ≡ true) w.0.whole
    (started_stays r (w.0.before ▸ w.0.command) w.0.rest (or_true _ _ (ap (is_start_of r) w.1 ∙ eq-eqb r r refl)))
  where
    or_true : (a b : Bool) → b ≡ true → (a || b) ≡ true
    or_true true b e = refl
    or_true false b e = e

pub first_started_is : FirstStartedIs
first_started_is x r h = (start_to r h, start_from r h)
