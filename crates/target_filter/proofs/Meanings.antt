-- What a filter's tree says is what its text says.
use Rattle.target_filter.proofs.Common.{◌≡◌, ℕ, List, ◌∙◌, ap, subst, IsSomeAnd, Tree, IsFilter, IsProfileFilter, filter_of}
use Rattle.target_filter.proofs.ParsedTrees.{one_tree}
use Rattle.target_filter.proofs.Profiles.{tree_filter}

pub same_text : (text view : List ℕ) (t : Tree) → text ≡ view → IsProfileFilter text t → IsProfileFilter view t
same_text text view t e p = subst (λ (x : List ℕ). IsProfileFilter x t) e p

-- of what is computed of a tree
pub any_tree : {A : Type 0} (text : List ℕ) (t u : Tree) (say : Tree → A) (r : A) → IsProfileFilter text t → r ≡ say t → IsFilter text u → r ≡ say u
any_tree text t u say r p e f = e ∙ ap say (one_tree text t u p.filter f)

pub computed_tree : {A : Type 0} (text : List ℕ) (t : Tree) (say : Tree → A) (r : A) → IsProfileFilter text t → r ≡ say t
    → IsSomeAnd (filter_of text) (λ u. r ≡ say u)
computed_tree text t say r p e = rw (tree_filter text t p) e
