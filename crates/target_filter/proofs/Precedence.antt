-- How `,` and `;` bind.
use Rattle.target_filter.proofs.Common.{ℕ, List, refl, ap, Tree, Or, And, OrLevel, AndLevel, AtomLevel, is_at}
use Rattle.target_filter.proofs.Common.{IsFilter, holds}
use Rattle.target_filter.specs.Laws.{HasMeaning, BindsAndOnTheRight, BindsAndOnTheLeft}
use Rattle.target_filter.proofs.Beginnings.{all_of, or_from_and}
use Rattle.target_filter.proofs.ParsedTrees.{one_tree}

means_tree : (text : List ℕ) (t : Tree) → IsFilter text t → HasMeaning text (λ target. holds t target)
means_tree text t f = ((t, f), λ u target g. ap (λ (x : Tree). holds x target) (one_tree text u t g f))

pub binds_right : BindsAndOnTheRight
binds_right a b c p q r =
    means_tree _ (Or a (And b c)) (record {
      level = all_of (is_at OrLevel a) (is_at AndLevel (And b c)) p (all_of (is_at AndLevel b) (is_at AtomLevel c) q r);
      spells = refl;
    })

pub binds_left : BindsAndOnTheLeft
binds_left a b c p q r =
    means_tree _ (Or (And a b) c) (record {
      level = all_of (is_at OrLevel (And a b)) (is_at AndLevel c) (or_from_and (And a b) (all_of (is_at AndLevel a) (is_at AtomLevel b) p q)) r;
      spells = refl;
    })
