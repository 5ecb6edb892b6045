-- The names of other modules that the proofs here cite, passed on from one place. Declares nothing.
pub use Rattle.std.proofs.Common.{◌≡◌, ℕ, zero, suc, ◌+◌, ◌<◌, Bool, true, false, cond, ◌≢◌, ◌⊎◌, List, [], ◌∷◌, ◌++◌, map, length, get_or, take, drop, Some}
pub use Rattle.std.proofs.Common.{None, string_bytes, codes, decimal, Option, option_map, option_and_then, sym, refl, ap, ◌∙◌, inl, inr, append_assoc, arith}
pub use Rattle.std.proofs.Common.{rules}
pub use Rattle.std.proofs.lemmas.Result.{IfOk-weaker}
pub use Rattle.serde_json.proofs.Views.{members_view-insert_entry, view-Array, view-Object}
pub use Rattle.serde_json.specs.Data.{Data, Members, array, boolean, member, no_members, object, put, string}
pub use Rattle.serde_json.specs.Find.{as_array, get}
pub use Rattle.serde_json.specs.View.{items_of, items_view, members_view, view}
pub use Rattle.serde_json.specs.declared.value.Value.{Array, Value}
pub use Rattle.mgmt_objects.specs.Floats.{items_have_float-map}
pub use Rattle.mgmt_objects.specs.Pages.{page_data, whole}
pub use Rattle.mgmt_objects.specs.TargetObjects.{with_attribute_members}
pub use Rattle.mgmt_objects.specs.Traverse.{array_of, list_of, traverse}
