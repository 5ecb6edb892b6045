-- A grouping with definitions is cut as these are split.
use Rattle.campaign_core.proofs.Common.{◌≡◌, ◌≤◌, ℕ, true, List, [], ◌∷◌, length, ap, ◌∙◌, arith, and_parts, eqb-true, Grouping, GroupDefinition, cut_by}
use Rattle.campaign_core.proofs.Common.{percentages, each_from, split, split_bounds_of}
use Rattle.std.proofs.lemmas.List.{length-map}
use Rattle.rollout_model.specs.Groupings.{define_each}

by_definitions : (ds : List GroupDefinition) (count m : ℕ) → define_each ds count ≡ true → 1 ≤ length ds → split m (percentages ds)
    ≡ cut_by (record { count = count; definitions = ds }) m
by_definitions [] count m each some = absurd (omega arith)
by_definitions (d ∷ ds) count m each some =
    ap (each_from (split_bounds_of m (percentages (d ∷ ds))) 1) (length-map (d ∷ ds) (λ (e : GroupDefinition). e.percentage)
    ∙ eqb-true _ _ (and_parts _ _ each).1)

pub split_is_cut : (g : Grouping) (m : ℕ) (ds : List GroupDefinition) → ds ≡ g.definitions → define_each ds g.count ≡ true → 1 ≤ length ds
    → split m (percentages ds) ≡ cut_by g m
split_is_cut g m ds are each some = by_definitions ds g.count m each some
    ∙ ap (λ (es : List GroupDefinition). cut_by (record { count = g.count; definitions = es }) m) are
