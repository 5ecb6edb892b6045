-- A page of what has no float has none.
use Rattle.mgmt_objects.proofs.Common.{◌≡◌, ℕ, List, false, refl, Data, items_of, page_data}
use Rattle.serde_json.specs.Written.{has_float, items_have_float}

pub has_float-page_data : (ds : List Data) (total : ℕ) → items_have_float (items_of ds) ≡ false → has_float (page_data ds total) ≡ false
has_float-page_data ds total none = rw none refl
