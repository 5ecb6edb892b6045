-- From typed reads of targets to pages of them.
use Rattle.desk_views.proofs.Common.{◌≡◌, ℕ, true, List, [], ◌∷◌, map, filter, length}
use Rattle.desk_views.proofs.Common.{take, drop, Some, None, refl, sym, ap, ◌∙◌, arith, Vec}
use Rattle.desk_views.proofs.Common.{Global, query_reply, targets_matching, Bytes, chosen, matches, seen, page_of, targets_of}
use Rattle.desk_views.proofs.Common.{target_shown, targets_shown, Records, PageOf, TargetsShown, Page, ShowTargets, Target, reply_of, shown_target}
use Rattle.desk_views.proofs.Common.{ShownTarget, Tree, filter_of, listed_target, IsContentOf, matching_shown, worded, target_listed, part_seen}
use Rattle.desk_views.proofs.Common.{ListedTarget, length-map}
use Rattle.desk_views.proofs.PageLemmas.{page_mapped}
use Rattle.rollout_machine.specs.Views.{listed_targets}
use Rattle.rollout_model.specs.declared.page.PageOf.{PageOf as RustPageOf}
use Rattle.rollout_model.specs.declared.request.Reply.TheVariants as reply
use Rattle.desk_records.specs.Targets.{are_sorted, ids_of}
use Rattle.std.proofs.lemmas.List.{drop-map, take-map}
use Rattle.desk_reads.proofs.ListedTargets.{found, part_found, passing_found}

-- ---- what is found by its id

module _ (r : Records) where
  -- ---- as they are shown

  all_shown : (ts : List Target) → map shown_target (map (worded r) (map seen ts)) ≡ targets_shown r ts
  all_shown [] = refl
  all_shown (t ∷ ts) = ap (λ l. target_shown r t ∷ l) (all_shown ts)

  pub shown_map : (ts : List Target) → targets_shown r ts ≡ map (target_shown r) ts
  shown_map [] = refl
  shown_map (t ∷ ts) = ap (λ l. target_shown r t ∷ l) (shown_map ts)

  -- ---- all targets

  pub content_is : (page : Page) (entries : List ListedTarget) (items : List ShownTarget) → are_sorted r.targets ≡ true
      → entries ≡ map listed_target (take page.limit (drop page.offset r.targets)) → items ≡ map (worded r) (map (target_listed r) entries)
      → IsContentOf page r items
  content_is page entries items sorted listed is = ap (λ (p : PageOf _). p.content) (page_mapped (target_shown r) page r.targets
      (take page.limit (drop page.offset r.targets)) _ _ (length r.targets) (sym (shown_map r.targets)) refl (grind (arith, part_seen, all_shown, shown_map))
      refl)

  pub all_replied : (page : Page) (items : Vec ShownTarget Global) (total : ℕ) → total ≡ length r.targets → IsContentOf page r items.items
      → reply_of (reply.Targets (record { content = items; total = total })) ≡ query_reply r (ShowTargets None page)
  all_replied page items total count is = grind (arith, shown_map, length-map)

  -- ---- those that match

  -- the targets of the ids of some are these
  of_ids : (ts : List Target) → map (found r.targets) ts ≡ map Some ts → targets_of r (ids_of ts) ≡ ts
  of_ids [] is = refl
  of_ids (t ∷ ts) is = grind (arith, of_ids ts)

  -- those that match, and of these the ones on the page
  pub page_matched : are_sorted r.targets ≡ true → (f : Tree) (page : Page) (ids on : List Bytes) (content : Vec ShownTarget Global) (total : ℕ)
      → ids ≡ chosen (Some f) r.targets → on ≡ take page.limit (drop page.offset ids) → map shown_target content.items ≡ targets_shown r (targets_of r on)
      → total ≡ length ids → listed_targets (record { content = content; total = total }) ≡ page_of page (matching_shown r f)
  page_matched sorted f page ids on content total are is shown count =
      let ts = filter (matches f) r.targets in
      let part = take page.limit (drop page.offset ts) in
      let named : on ≡ ids_of part = is ∙ ap (λ l. take page.limit (drop page.offset l)) are ∙ grind (arith, take-map, drop-map) in
      let these : targets_of r on ≡ part = ap (targets_of r) named
      ∙ of_ids part (part_found r page.limit page.offset ts (passing_found r sorted (matches f))) in
      page_mapped (target_shown r) page ts part _ _ total (sym (shown_map ts)) refl (shown ∙ ap (targets_shown r) these ∙ shown_map part)
      (count ∙ ap length are ∙ length-map ts (λ (t : Target). t.id))

  pub matching_replied : (f : Tree) (page : Page) (shown : RustPageOf ShownTarget) (text : Bytes) → filter_of text ≡ Some f → listed_targets shown
      ≡ page_of page (matching_shown r f) → reply_of (reply.Targets shown) ≡ query_reply r (ShowTargets (Some text) page)
  matching_replied f page shown text tree is = ap TargetsShown is ∙ sym (ap (targets_matching r page) tree)
