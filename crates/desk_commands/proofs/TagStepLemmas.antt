-- Giving a target a tag, and taking it.
use Rattle.desk_commands.proofs.Common.{◌≡◌, true, false, None, is_some, not, refl, sym, ◌∙◌, arith, are_sorted, AddsTag}
use Rattle.desk_commands.proofs.Common.{Bytes, Tag, Records, step_records, target_of, with_there, ◌&&◌, ◌∷◌, [], nat_le, NotFound, Quota}
use Rattle.campaign_core.proofs.CheckLemmas.{first_passes}
use Rattle.campaign_core.specs.Checks.{IsTagView, tag_refusal}
use Rattle.campaign_core.specs.declared.checks.targets.TagView.{TagView}
use Rattle.desk_commands.proofs.TargetLemmas.{tags_sorted, unchanged}

module _ (r : Records) (id x : Bytes) (view : TagView) (is : IsTagView view id x r) (passes : tag_refusal view ≡ None) where
  is_there : is_some (target_of r id) ≡ true
  is_there = grind (arith, first_passes view.misses_target NotFound ((not view.same && nat_le 16 view.count, Quota) ∷ []) passes, is.misses_target)

  -- a tag that it hasn't is added
  pub tag_is_step : view.same ≡ false → AddsTag id x r (step_records r (Tag id x))
  tag_is_step new = record { is_there = is_there; is_new = sym is.same ∙ new; next_is = refl }

  -- one that it has leaves the records as they are
  pub had_is_step : view.same ≡ true → are_sorted r.targets ≡ true → step_records r (Tag id x) ≡ r
  had_is_step has sorted = grind (arith, is_there, with_there, tags_sorted, unchanged)
