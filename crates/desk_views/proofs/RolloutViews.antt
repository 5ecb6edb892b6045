-- From typed reads of rollouts to what is seen of them.
use Rattle.desk_views.proofs.Common.{arith, ◌≡◌, ℕ, suc, List, [], ◌∷◌, Option, Some, refl, ap, option_map, if_found, numbered, rollout_shown, rollouts_shown}
use Rattle.desk_views.proofs.Common.{ShownRollout, RolloutRecord, BothOrNone, IsSeenOf, SeenRollout}
use Rattle.rollout_machine.specs.Replies.{Reply}

-- ---- what is replied

pub one_replied : (reply : RolloutRecord → Reply) (o : Option RolloutRecord) (seen : SeenRollout) (made : Reply) → BothOrNone IsSeenOf (Some seen) o
    → ((x : RolloutRecord) → o ≡ Some x → IsSeenOf seen x → made ≡ reply x) → made ≡ if_found reply o
one_replied reply o seen made it so = grind arith

-- ---- as they are shown

pub one_seen : (o : Option RolloutRecord) (seen : SeenRollout) (shown : ShownRollout) → BothOrNone IsSeenOf (Some seen) o
    → ((x : RolloutRecord) → IsSeenOf seen x → shown ≡ rollout_shown x) → Some shown ≡ option_map rollout_shown o
one_seen o seen shown it so = grind arith

pub as_numbered : (k : ℕ) (xs : List RolloutRecord) → rollouts_shown xs ≡ numbered (λ n x. rollout_shown x) k xs
as_numbered k [] = refl
as_numbered k (x ∷ xs) = ap (λ (l : List ShownRollout). rollout_shown x ∷ l) (as_numbered (suc k) xs)
