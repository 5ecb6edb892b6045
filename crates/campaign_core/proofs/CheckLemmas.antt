-- A verdict over records is that at a command list, and that of its view.
use native.Mathlib.Omega.{arith}
use Rattle.campaign_core.proofs.Common.{◌≡◌, Bool, false, List, ◌∷◌, None, refl, sym, subst, Result, Ok, Err, records_step, CommandList, Bytes, Command}
use Rattle.campaign_core.proofs.Common.{Credential, Records, records}
use Rattle.campaign_core.proofs.Common.{IsValid, check, first_refusal, Refusal}
use Rattle.rollout_machine.specs.Commands.{AddArtifact, AddModule, AddSet, Attribute, ModuleLabel, PutAttributes, SetLabel, Tag, Untag}
use Rattle.rollout_machine.specs.Commands.{Upload}
use Rattle.campaign_core.specs.Checks.{LeadsTo, Decides, Follows, Suffice}
use Rattle.campaign_core.specs.Checks.{IsArtifactView, IsAttributesView, IsModuleView, IsSetView, IsTagView, IsUntagView}
use Rattle.campaign_core.specs.Checks.{artifact_refusal, attributes_refusal, module_refusal, set_refusal, tag_refusal, untag_refusal}
use Rattle.campaign_core.specs.declared.checks.artifacts.ArtifactView.{ArtifactView}
use Rattle.campaign_core.specs.declared.checks.modules.ModuleView.{ModuleView}
use Rattle.campaign_core.specs.declared.checks.sets.SetView.{SetView}
use Rattle.campaign_core.specs.declared.checks.targets.AttributesView.{AttributesView}
use Rattle.campaign_core.specs.declared.checks.targets.TagView.{TagView}
use Rattle.campaign_core.specs.declared.checks.targets.UntagView.{UntagView}
use Rattle.campaign_core.specs.declared.checks.Change.{Change}
use Rattle.campaign_core.specs.declared.checks.View.{View}
use Rattle.campaign_core.proofs.SoundLemmas.{records_are_sound}

-- the records of accepted commands do
suffice : (v : View) (h : CommandList) → IsValid h → Suffice v (records h)
suffice v h valid = grind (arith, records_are_sound)

pub decision_follows : (v : View) (c : Command) (result : Result Change Refusal) → Decides v c result → Follows v c result
decision_follows v c (Ok change) decides h valid is =
    let it = decides (records h) (suffice v h valid) is in
    (it.0, subst (λ (rs : Records). LeadsTo change c (records h) rs) (sym (records_step h c valid it.0)) it.1)
decision_follows v c (Err refusal) decides h valid is = decides (records h) (suffice v h valid) is

-- ---- the machine's verdict is that of the view

-- the first test of a row that refuses nothing doesn't hold
pub first_passes : (test : Bool) (refusal : Refusal) (row : List (Bool × Refusal)) → first_refusal ((test, refusal) ∷ row) ≡ None → test ≡ false
first_passes test refusal row none = grind arith

module _ (r : Records) where
  pub module_row : (label : ModuleLabel) (v : ModuleView) → IsModuleView v label r → check r (AddModule label) ≡ module_refusal v
  module_row label v is = rw (is.same, is.count) refl

  pub artifact_row : (u : Upload) (v : ArtifactView) → IsArtifactView v u r → check r (AddArtifact u) ≡ artifact_refusal v
  artifact_row u v is = rw (is.misses_module, is.locked, is.same, is.module_count, is.count, is.wrong_digest) refl

  pub set_row : (label : SetLabel) (v : SetView) → IsSetView v label r → check r (AddSet label) ≡ set_refusal v
  set_row label v is = rw (is.misses_module, is.same, is.count) refl

  pub tag_row : (t x : Bytes) (v : TagView) → IsTagView v t x r → check r (Tag t x) ≡ tag_refusal v
  tag_row t x v is = rw (is.misses_target, is.same, is.count) refl

  pub untag_row : (t x : Bytes) (v : UntagView) → IsUntagView v t r → check r (Untag t x) ≡ untag_refusal v
  untag_row t x v is = rw is.misses_target refl

  pub attributes_row : (device : Credential) (given : List Attribute) (v : AttributesView) → IsAttributesView v device given r
      → check r (PutAttributes device given) ≡ attributes_refusal v
  attributes_row device given v is = rw (is.misses_device, is.count_after) refl
