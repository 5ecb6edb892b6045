-- The names of other modules that the proofs here cite, passed on from one place. Declares nothing.
pub use Rattle.std.proofs.Common.{◌≡◌, ℕ, Bool, true, false, cond, ◌⊎◌, List, [], ◌∷◌, ◌++◌, map, take, Some, None, string_bytes, codes, decimal, Option}
pub use Rattle.std.proofs.Common.{bytes_eq, sym, refl, ap, ◌∙◌, append_assoc, append-nil, arith, rules}
pub use Rattle.std.proofs.lemmas.Result.{IfOk-weaker}
pub use Rattle.json.specs.Print.{print, quoted}
pub use Rattle.serde_json.proofs.Views.{Entry}
pub use Rattle.serde_json.specs.View.{items_of, members_view, view}
pub use Rattle.rollout_model.specs.declared.refusal.Refusal.{Refusal}
pub use Rattle.rollout_machine.specs.Replies.{Artifact, Chunk, Deployment, Refused}
pub use Rattle.rollout_machine.specs.Views.{chunk, deployment}
pub use Rattle.request_target.specs.Routes.{route_in}
pub use Rattle.mgmt_objects.specs.Traverse.{traverse}
pub use Rattle.ddi_api.specs.ConfigBodies.{attribute_of, member_attributes}
pub use Rattle.mgmt_objects.specs.Bodies.{text_in}
pub use Rattle.rollout_model.specs.Rules.{is_detail}
pub use Rattle.ddi_api.specs.Letters.{artifact_letters, behind_commas, cancel_letters, chunk_letters, deployment_letters, poll_letters, separated}
pub use Rattle.ddi_api.specs.Objects.{action_path, device_artifact_data, cancel_data, chunk_data, deployment_data, deployment_object}
pub use Rattle.ddi_api.specs.Objects.{download_path}
pub use Rattle.ddi_api.specs.Objects.{link_data, offer_kind, poll_data, shown_chunk}
pub use Rattle.ddi_api.specs.Routes.{device_table, method_of}
