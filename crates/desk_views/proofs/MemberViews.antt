-- From members that were read to the targets that are shown of a group.
use Rattle.desk_views.proofs.Common.{◌≡◌, ◌+◌, ◌-◌, ◌<◌, ℕ, min, List, [], ◌∷◌, ◌++◌, map, take, drop, Some, inl, inr, sym, ap, ◌∙◌, append-nil, arith}
use Rattle.desk_views.proofs.Common.{take-nil, cases_lt, drop-drop, drop-take, drop_all, length-drop, length-take, length-take-le, take-take, take_all}
use Rattle.desk_views.proofs.Common.{target_if, targets_of, item_numbered, Bytes, members_in, page_of, target_shown, targets_shown, Records, Page}
use Rattle.desk_views.proofs.Common.{group_numbered, size_of_group, target_of, shown_target, GroupRecord, RolloutRecord, AreOfList, group_within, members_of}
use Rattle.rollout_machine.specs.Replies.{ShownTarget}
use Rattle.rollout_model.specs.declared.shown_target.ShownTarget.{ShownTarget as RustTarget}
use Rattle.desk_views.proofs.PageLemmas.{page_mapped}
use Rattle.desk_views.proofs.MemberLemmas.{members_there, part_there, target_at, targets_there}

-- ---- the targets of ids

module _ (rs : Records) where
  -- of one more id
  pub one_more : (ids : List Bytes) (id : Bytes) → targets_shown rs (targets_of rs (ids ++ id ∷ [])) ≡ targets_shown rs (targets_of rs ids) ++ targets_shown rs
      (target_if (target_of rs id))
  one_more [] id = ap (targets_shown rs) (append-nil (target_if (target_of rs id)))
  one_more (u ∷ ids) id = grind (arith, one_more ids id)

-- ---- a page of a part of a list

shorter : {X : Type 0} (l k : ℕ) (ys : List X) → take l (take k ys) ≡ take (min l k) ys
shorter l k ys = grind (arith, take_all, take-take, length-take)

window : {X : Type 0} (l o s f limit offset : ℕ) (xs : List X) → limit ≡ min l (s - o) → (o < s → offset ≡ f + o) → take limit (drop offset xs)
    ≡ take l (drop o (take s (drop f xs)))
window {X = X} l o s f limit offset xs cut from =
    elim (cases_lt o s) [
      | inl less ↦ grind (arith, from less, shorter l (s - o) (drop (f + o) xs), drop-drop o f xs, drop-take o (s - o) (drop f xs))
      | inr more ↦ grind (arith, more, drop_all o (take s (drop f xs)), length-take s (drop f xs), take-nil {A = X} l)
    ]

-- ---- a page of the members of a group

module _ (rs : Records) (of : AreOfList rs) (number i : ℕ) (page bounds : Page) (g : GroupRecord) (total : ℕ) (ids : List Bytes)
    (content : List RustTarget) where
  pub members_paged : total ≡ size_of_group g → bounds.limit ≡ min page.limit (total - page.offset)
      → (page.offset < total → total ≡ size_of_group g → bounds.offset ≡ g.bounds.first - 1 + page.offset)
      → ids ≡ take bounds.limit (drop bounds.offset (members_of (item_numbered rs.rollouts number))) → map shown_target content
      ≡ targets_shown rs (targets_of rs ids)
      → (x : RolloutRecord) → item_numbered rs.rollouts number ≡ Some x → Some g ≡ group_numbered i x.groups
      → record { content = map shown_target content; total = total } ≡ page_of page (targets_shown rs (targets_of rs (members_in g x.members)))
  members_paged size limit offset read shown x there in_it =
      let f : Bytes → ShownTarget = λ m. target_shown rs (target_at rs m) in
      let s : ℕ = size_of_group g in
      let before : ℕ = g.bounds.first - 1 in
      let known = members_there rs of number x there in
      let whole : targets_shown rs (targets_of rs (members_in g x.members)) ≡ map f (members_in g x.members) =
      targets_there rs (members_in g x.members) (part_there rs s before x.members known) in
      let cut : ids ≡ take bounds.limit (drop bounds.offset x.members) = read ∙ ap (λ o. take bounds.limit (drop bounds.offset (members_of o))) there in
      let part : ids ≡ take page.limit (drop page.offset (members_in g x.members)) =
      cut ∙ window page.limit page.offset s before bounds.limit bounds.offset x.members (limit ∙ ap (λ n. min page.limit (n - page.offset)) size)
      (λ less. offset (omega (arith, less, size)) size) in
      let these = targets_there rs (take bounds.limit (drop bounds.offset x.members)) (part_there rs bounds.limit bounds.offset x.members known) in
      let room = group_within rs of number x there i g in_it in
      let many = length-take-le s (drop before x.members) (omega (arith, length-drop before x.members, room)) in
      page_mapped f page (members_in g x.members) ids _ _ total (sym whole) part (shown ∙ ap (λ l. targets_shown rs (targets_of rs l)) cut ∙ these
      ∙ ap (map f) (sym cut)) (size ∙ sym many)
