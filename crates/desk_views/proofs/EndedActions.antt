-- At lists an action that ended was started.
use Rattle.desk_views.proofs.Common.{arith, ◌≡◌, ℕ, suc, ◌+◌, true, false, List, [], ◌∷◌, Option, Some, refl, sym, ap, ◌∙◌}
use Rattle.desk_views.proofs.Common.{slice_get, false≢true, is_some, ListedAction, Bytes, Records, records, ActionRecord}
use Rattle.desk_views.proofs.Common.{AreOfList, CommandList, IsValid, has_started, is_begun, last_ended, has_begun}
use Rattle.std.proofs.lemmas.Bool.{true_from_ne_false}
use Rattle.std.specs.List.{last_or}
use Rattle.rollout_machine.proofs.Induction.{invariant_of}
use Rattle.rollout_machine.proofs.Valid.{its_group}
use Rattle.rollout_machine.proofs.OfferPlaces.{found, group_at, started_is}
use Rattle.desk_views.proofs.WordViews.{begun_is, ended_from}

ended_started : (h : CommandList) → IsValid h → (i : ℕ) (a : ActionRecord) → slice_get (records h).actions i ≡ Some a → is_some a.outcome ≡ true
    → has_started (records h) a ≡ true
ended_started h v i a at ended = true_from_ne_false (has_started (records h) a) (λ is.
    let it = found h i a at in
    let place = (invariant_of h v).placed (suc i) it.place it.there in
    let group = its_group h it.place place in
    let waits = sym (started_is h h it.place place) ∙ ap (has_started (records h)) it.same ∙ is in
    let closed = ((invariant_of h v).follows it.place.rollout place.rollout place.there).outcomes.none (group_at h it.place place) it.place.position
    group.first group.within waits in
    false≢true (sym (ap is_some (ap (λ (x : ActionRecord). x.outcome) (sym it.same) ∙ closed)) ∙ ended))

module _ (r : Records) (t : Bytes) where
  last_begun : (n : ℕ) (actions : List ActionRecord)
      → ((i : ℕ) (a : ActionRecord) → slice_get actions i ≡ Some a → is_some a.outcome ≡ true → has_started r a ≡ true)
      → (last : Option ListedAction) → has_begun r last ≡ true → has_begun r (last_or last (ended_from r t n actions)) ≡ true
  last_begun n [] all last begun = begun
  last_begun n (a ∷ more) all last begun = grind (arith, last_begun (n + 1) more (λ i. all (suc i)), begun_is, all 0 a refl)

  -- so the last one is no failed store
  pub not_waiting : AreOfList r → (it : ListedAction) → Some it ≡ last_ended r t → false ≡ is_begun r it.action → ⊥
  not_waiting of it last waits =
      let all : has_begun r (last_ended r t) ≡ true = grind (arith, last_begun, ended_started) in false≢true (waits ∙ ap (has_begun r) last ∙ all)
