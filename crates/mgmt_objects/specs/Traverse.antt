-- A reading of each item of a list.
use Rattle.std.specs.Prelude.{List, [], ◌∷◌, Option, Some, option_map, option_and_then}
use Rattle.serde_json.specs.Data.{Data, Items, no_items, item}
use Rattle.serde_json.specs.Find.{as_array}

-- what is read of each, if it can be read of all
abbrev pub traverse : {A B : Type 0} → (A → Option B) → List A → Option (List B)
traverse f [] = Some []
traverse f (x ∷ xs) = option_and_then (λ y. option_map (λ ys. y ∷ ys) (traverse f xs)) (f x)

-- the items of an array
abbrev pub list_of : Items → List Data
list_of no_items = []
list_of (item d ds) = d ∷ list_of ds

-- what is read of each item of an array
abbrev pub array_of : {B : Type 0} → (Data → Option B) → Data → Option (List B)
array_of f d = option_and_then (λ items. traverse f (list_of items)) (as_array d)
