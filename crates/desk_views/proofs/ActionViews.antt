-- From actions that were read to what is shown of them.
use Rattle.desk_views.proofs.Common.{◌≡◌, ◌<◌, ℕ, suc, ◌+◌, nat_eq, Bool, true, false, not, cond, List, [], ◌∷◌, ◌++◌, map, get_or, length, take, drop, Option}
use Rattle.desk_views.proofs.Common.{Some, None, refl, ap, ◌∙◌, add-one, arith, nat_tests, map-append, take_all, take_more, zip, is_some, option_map, action_if}
use Rattle.desk_views.proofs.Common.{if_found, item_numbered, same_bytes, Bytes, action_shown, actions_of_rollout, actions_of_target, actions_where, Records}
use Rattle.desk_views.proofs.Common.{ActionShown, Refused, ShownAction, is_for, ActionRecord, GroupRecord, RolloutRecord, NotFound, Tally, tally_of, parts_of}
use Rattle.desk_views.proofs.Common.{actions_for, actions_of, listed_where, stored_action, ListedAction, StoredAction, listed_shown, shown_among, stored_in}
use Rattle.desk_views.proofs.Common.{length-take, zero, sym, subst, ◌≤◌, filter, nat_le, slice_get, take-map, drop-map, length-map, page_of, Page, actor_of}
use Rattle.std.proofs.lemmas.Option.{slice_get-map}
use Rattle.rollout_machine.specs.Replies.{Reply}
use Rattle.desk_records.proofs.Common.{map-map}

-- an action with what is kept beside it
abbrev with_tally : ActionRecord → ActionRecord × Tally
with_tally a = (a, tally_of a)

pub tallied : (as' : List ActionRecord) → zip as' (map tally_of as') ≡ map with_tally as'
tallied [] = refl
tallied (a ∷ as') = ap (λ l. with_tally a ∷ l) (tallied as')

-- ---- an action

-- a stored action is shown as the record is
pub listed_is : (r : Records) (k : ℕ) (a : ActionRecord) → listed_shown r (record { number = k; action = stored_in r a }) ≡ action_shown r k a
listed_is r k a = grind arith

-- of the actions that pass
where_is : (r : Records) (f : ListedAction → ShownAction) (p : ActionRecord → Bool)
    → ((k : ℕ) (a : ActionRecord) → p a ≡ true → f (record { number = k; action = stored_in r a }) ≡ action_shown r k a) → (n : ℕ) (as' : List ActionRecord)
    → map f (listed_where (λ it. p it.0) r.rollouts n (map with_tally as')) ≡ actions_where p r n as'
where_is r f p each n [] = refl
where_is r f p each n (a ∷ as') = grind (arith, add-one, each n a, where_is r f p each (suc n) as')

of_target_is : (r : Records) (id : Bytes) → map (listed_shown r) (actions_for r.rollouts id 1 (zip r.actions (map tally_of r.actions)))
    ≡ actions_of_target r id
of_target_is r id = ap (λ l. map (listed_shown r) (actions_for r.rollouts id 1 l)) (tallied r.actions)
    ∙ where_is r (listed_shown r) (is_for r id) (λ k a passes. listed_is r k a) 1 r.actions

pub of_rollout_is : (r : Records) (number : ℕ) (groups : List GroupRecord) → groups
    ≡ parts_of (λ (x : RolloutRecord). x.groups) (item_numbered r.rollouts number)
    → map (shown_among groups) (actions_of r.rollouts number 1 (zip r.actions (map tally_of r.actions))) ≡ actions_of_rollout r number
of_rollout_is r number groups its = ap (λ l. map (shown_among groups) (actions_of r.rollouts number 1 l)) (tallied r.actions)
    ∙ where_is r (shown_among groups) (λ a. nat_eq a.rollout number) (λ k a same. grind (arith, nat_tests, same, listed_is)) 1 r.actions

-- ---- a page of the actions of a target

pub numbers_are : (r : Records) (id : Bytes) → map (λ (a : ListedAction). a.number) (actions_for r.rollouts id 1 (zip r.actions (map tally_of r.actions)))
    ≡ map (λ (a : ShownAction). a.number) (actions_of_target r id)
numbers_are r id = sym (map-map (λ (a : ShownAction). a.number) (listed_shown r) (actions_for r.rollouts id 1 (zip r.actions (map tally_of r.actions))))
    ∙ ap (map (λ (a : ShownAction). a.number)) (of_target_is r id)

-- the numbers of those that pass rise
module _ (test : ActionRecord × Tally → Bool) (rollouts : List RolloutRecord) where
  none_before : (k n : ℕ) (its : List (ActionRecord × Tally)) → k ≤ n
      → filter (λ (a : ListedAction). nat_le k a.number) (listed_where test rollouts n its) ≡ listed_where test rollouts n its
  none_before k n [] least = refl
  none_before k n (it ∷ more) least = grind (arith, nat_tests, none_before k (n + 1) more (omega (arith, least)))

  number_least : (n : ℕ) (its : List (ActionRecord × Tally)) (i k : ℕ)
      → slice_get (map (λ (a : ListedAction). a.number) (listed_where test rollouts n its)) i ≡ Some k → n ≤ k
  number_least n [] i k at = absurd cc
  number_least n (it ∷ more) zero k at = grind (arith, number_least (n + 1) more zero k)
  number_least n (it ∷ more) (suc i) k at = grind (arith, number_least (n + 1) more i k, number_least (n + 1) more (suc i) k)

  -- so those from the number at a place on are those from the place on
  from_place : (n : ℕ) (its : List (ActionRecord × Tally)) (i k : ℕ)
      → slice_get (map (λ (a : ListedAction). a.number) (listed_where test rollouts n its)) i ≡ Some k
      → filter (λ (a : ListedAction). nat_le k a.number) (listed_where test rollouts n its) ≡ drop i (listed_where test rollouts n its)
  from_place n [] i k at = absurd cc
  from_place n (it ∷ more) zero k at = grind (arith, nat_tests, from_place (n + 1) more zero k, none_before k (n + 1) more)
  from_place n (it ∷ more) (suc i) k at =
      grind (arith, nat_tests, from_place (n + 1) more i k, from_place (n + 1) more (suc i) k, number_least (n + 1) more i k)

-- those that were listed from the number at the page's offset on
pub part_shown : (r : Records) (id : Bytes) (page : Page) (first : ℕ) (numbers : List ℕ) (part : List ListedAction) (content : List ShownAction)
    → numbers ≡ map (λ (a : ShownAction). a.number) (actions_of_target r id) → slice_get numbers page.offset ≡ Some first → part ≡ take page.limit
    (filter (λ (a : ListedAction). nat_le first a.number) (actions_for r.rollouts id 1 (zip r.actions (map tally_of r.actions))))
    → content ≡ map (listed_shown r) part → content ≡ take page.limit (drop page.offset (actions_of_target r id))
part_shown r id page first numbers part content are at from each =
    let its = zip r.actions (map tally_of r.actions) in
    let all = actions_for r.rollouts id 1 its in
    let on = from_place (λ it. same_bytes (actor_of r.rollouts it.0) id) r.rollouts 1 its page.offset first
    (subst (λ l. slice_get l page.offset ≡ Some first) (are ∙ sym (numbers_are r id)) at) in
    each ∙ ap (map (listed_shown r)) (from ∙ ap (take page.limit) on)
    ∙ sym (ap (take page.limit) (drop-map (listed_shown r) page.offset all) ∙ take-map (listed_shown r) page.limit (drop page.offset all))
    ∙ ap (λ l. take page.limit (drop page.offset l)) (of_target_is r id)

none_on : {X : Type 0} (f : X → ℕ) (xs : List X) (i : ℕ) → slice_get (map f xs) i ≡ None → drop i xs ≡ []
none_on f [] zero gone = refl
none_on f [] (suc i) gone = refl
none_on f (x ∷ xs) zero gone = absurd cc
none_on f (x ∷ xs) (suc i) gone = none_on f xs i gone

-- none where no number is at the offset
pub none_shown : (page : Page) (numbers : List ℕ) (shown content : List ShownAction) → numbers ≡ map (λ (a : ShownAction). a.number) shown
    → slice_get numbers page.offset ≡ None → content ≡ [] → content ≡ take page.limit (drop page.offset shown)
none_shown page numbers shown content are gone is = grind (arith, none_on (λ (a : ShownAction). a.number) shown page.offset)

-- the page with how many there are
pub page_counted : (page : Page) (numbers : List ℕ) (shown content : List ShownAction) (total : ℕ) → numbers ≡ map (λ (a : ShownAction). a.number) shown
    → content ≡ take page.limit (drop page.offset shown) → total ≡ length numbers
    → record { content = content; total = total } ≡ page_of page shown
page_counted page numbers shown content total are is count = grind (arith, length-map)

-- ---- an action of a target

pub stored_at : (r : Records) (k : ℕ) → option_map (stored_action r.rollouts) (item_numbered (zip r.actions (map tally_of r.actions)) k)
    ≡ option_map (stored_in r) (item_numbered r.actions k)
stored_at r k = grind (arith, option_map, tallied, slice_get-map)

abbrev target_in : Option StoredAction → Bytes
target_in None = []
target_in (Some found) = found.target

-- whether it is the target's
pub one_action : (r : Records) (id : Bytes) (o : Option ActionRecord) (found : StoredAction) (differs : Bool) → Some found ≡ option_map (stored_in r) o
    → not (same_bytes found.target id) ≡ differs → cond differs None (Some found) ≡ option_map (stored_in r) (action_if r id o)
one_action r id o found differs is test = grind (arith, option_map)

pub action_replied : (r : Records) (k : ℕ) (o : Option ActionRecord) (found : StoredAction) (shown : ShownAction) → Some found ≡ option_map (stored_in r) o
    → shown ≡ listed_shown r (record { number = k; action = found })
    → ActionShown shown ≡ if_found (λ (a : ActionRecord). ActionShown (action_shown r k a)) o
action_replied r k o found shown is read = grind (arith, listed_is)

-- ---- all that were listed

pub all_listed : {X : Type 0} (n count : ℕ) (all found : List X) → found ≡ take n (drop 0 all) → count ≡ length found → count < n → found ≡ all
all_listed n count all found is counted fewer = grind (arith, take_all, length-take)

-- ---- whether something is there

pub none_there : {X Y : Type 0} (f : X → Y) (o : Option X) (reply : X → Reply) → is_some (option_map f o) ≡ false → Refused NotFound ≡ if_found reply o
none_there f o reply is = grind arith

pub one_there : {X Y : Type 0} (f : X → Y) (o : Option X) (reply : X → Reply) (made : Reply) → is_some (option_map f o) ≡ true
    → ((x : X) → o ≡ Some x → made ≡ reply x) → made ≡ if_found reply o
one_there f o reply made is so = grind arith

-- one more is shown
pub more_shown : {X Y : Type 0} (f : X → Y) (xs : List X) (i : ℕ) (x : X) (y : Y) (before after : List Y) → i < length xs → x ≡ get_or xs i x → before
    ≡ map f (take i xs) → y ≡ f x → after ≡ before ++ y ∷ [] → after ≡ map f (take (i + 1) xs)
more_shown f xs i x y before after below is so_far here more = grind (arith, take_more xs i x, map-append f (take i xs) (x ∷ []))
