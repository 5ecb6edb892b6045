-- What the verdict on a command rests on, what its change is, and that both are those of the records and of a command list.
use Rattle.std.specs.Prelude.{◌≡◌, ◌+◌, ℕ, Bool, ◌&&◌, ◌||◌, not, nat_eq, nat_le, nat_lt, List, [], ◌∷◌, ◌++◌, map, filter, length, Option, Some}
use Rattle.std.specs.Prelude.{None, is_none, Result, Ok, Err, ⊤}
use Rattle.std.specs.List.{list_any}
use Rattle.rollout_machine.specs.ByteStrings.{contains_word, item_numbered, same_bytes, with_word, with_words, without_word}
use Rattle.rollout_machine.specs.CommandList.{CommandList, ◌▸◌}
use Rattle.rollout_machine.specs.Commands.{Attribute, Bytes, Command, Credential, AddArtifact, AddModule, AddSet, PutAttributes, PutTargets, Tag}
use Rattle.rollout_machine.specs.Commands.{Untag, ModuleLabel, SetLabel, TargetRow, Upload}
use Rattle.rollout_machine.specs.Digests.{digest_of}
use Rattle.rollout_machine.specs.RecordSteps.{change_target, put_targets, step_records}
use Rattle.rollout_machine.specs.Records.{ArtifactRecord, Records, records}
use Rattle.rollout_machine.specs.Targets.{Target, with_attributes}
use Rattle.rollout_machine.specs.Validity.{IsValid}
use Rattle.rollout_machine.specs.Verdicts.{first_refusal, check, is_known, is_named_by_set, target_keys, tags_of, target_of, verdict, wrong_digest}
use Rattle.rollout_model.specs.Limits.{limits}
use Rattle.rollout_model.specs.declared.refusal.Refusal.{Refusal}
use Rattle.rollout_model.specs.declared.refusal.Refusal.TheVariants.{Unauthorized, NotFound, Locked, Exists, Quota, WrongDigest}
use Rattle.campaign_core.specs.declared.checks.View.{View}
use Rattle.campaign_core.specs.declared.checks.View.TheVariants as view
use Rattle.campaign_core.specs.declared.checks.Change.{Change}
use Rattle.campaign_core.specs.declared.checks.Change.TheVariants as change
use Rattle.campaign_core.specs.declared.checks.artifacts.ArtifactView.{ArtifactView}
use Rattle.campaign_core.specs.declared.checks.artifacts.NewArtifact.{NewArtifact}
use Rattle.campaign_core.specs.declared.checks.modules.ModuleView.{ModuleView}
use Rattle.campaign_core.specs.declared.checks.modules.NewModule.{NewModule}
use Rattle.campaign_core.specs.declared.checks.sets.SetView.{SetView}
use Rattle.campaign_core.specs.declared.checks.sets.NewSet.{NewSet}
use Rattle.campaign_core.specs.declared.checks.targets.AttributesView.{AttributesView}
use Rattle.campaign_core.specs.declared.checks.targets.ImportView.{ImportView}
use Rattle.campaign_core.specs.declared.checks.targets.TagView.{TagView}
use Rattle.campaign_core.specs.declared.checks.targets.UntagView.{UntagView}
use Rattle.campaign_core.specs.RolloutChecks.{AreSound, IsViewOf as IsRolloutViewOf, LeadsTo as LeadsRolloutTo}

-- ---- adding a module

-- the name, the kind and the version of the label
abbrev pub is_same : ModuleLabel → ModuleLabel → Bool
is_same label m = same_bytes m.name label.name && (same_bytes m.kind label.kind && same_bytes m.version label.version)

-- of a label, in these records
pub record IsModuleView (v : ModuleView) (label : ModuleLabel) (rs : Records) : Type 0 where
  pub same : v.same ≡ list_any (is_same label) rs.modules
  pub count : v.count ≡ length rs.modules

abbrev pub module_refusal : ModuleView → Option Refusal
module_refusal v = first_refusal ((v.same, Exists) ∷ (nat_le limits.modules v.count, Quota) ∷ [])

-- the label is put behind the modules that are there, under the next number
pub record AddsModule (m : NewModule) (label : ModuleLabel) (old new : Records) : Type 0 where
  pub next : m.number ≡ length old.modules + 1
  pub added : new ≡ record old { modules = old.modules ++ label ∷ [] }

-- ---- adding an artifact

-- the module and the filename of the upload
abbrev pub is_same_as_upload : Upload → ArtifactRecord → Bool
is_same_as_upload u v = nat_eq v.module_number u.module_number && same_bytes v.filename u.filename

abbrev pub is_of_module : ℕ → ArtifactRecord → Bool
is_of_module m v = nat_eq v.module_number m

-- of an upload, in these records
pub record IsArtifactView (v : ArtifactView) (u : Upload) (rs : Records) : Type 0 where
  pub misses_module : v.misses_module ≡ is_none (item_numbered rs.modules u.module_number)
  pub locked : v.locked ≡ is_named_by_set rs.sets u.module_number
  pub same : v.same ≡ list_any (is_same_as_upload u) rs.artifacts
  pub module_count : v.module_count ≡ length (filter (is_of_module u.module_number) rs.artifacts)
  pub count : v.count ≡ length rs.artifacts
  pub wrong_digest : v.wrong_digest ≡ wrong_digest u
  pub size : v.size ≡ length u.contents
  pub digest : v.digest ≡ digest_of u.contents

abbrev pub artifact_refusal : ArtifactView → Option Refusal
artifact_refusal v =
    first_refusal ((v.misses_module, NotFound) ∷ (v.locked, Locked) ∷ (v.same, Exists)
    ∷ (nat_le limits.module_artifacts v.module_count || nat_le limits.artifacts v.count, Quota) ∷ (v.wrong_digest, WrongDigest) ∷ [])

-- the upload is put behind the artifacts that are there, with its size and digest, under the next number
pub record AddsUpload (a : NewArtifact) (u : Upload) (old new : Records) : Type 0 where
  pub next : a.number ≡ length old.artifacts + 1
  pub added : new ≡ record old {
    artifacts = old.artifacts ++ record {
      module_number = u.module_number;
      filename = u.filename;
      size = a.size;
      digest = a.digest;
      contents = u.contents;
    } ∷ [];
  }

-- ---- adding a distribution set

-- the name and the version of the label
abbrev pub is_same_as_label : SetLabel → SetLabel → Bool
is_same_as_label label v = same_bytes v.name label.name && same_bytes v.version label.version

-- of a label, in these records
pub record IsSetView (v : SetView) (label : SetLabel) (rs : Records) : Type 0 where
  pub misses_module : v.misses_module ≡ list_any (λ m. is_none (item_numbered rs.modules m)) label.modules
  pub same : v.same ≡ list_any (is_same_as_label label) rs.sets
  pub count : v.count ≡ length rs.sets

abbrev pub set_refusal : SetView → Option Refusal
set_refusal v = first_refusal ((v.misses_module, NotFound) ∷ (v.same, Exists) ∷ (nat_le limits.sets v.count, Quota) ∷ [])

-- the label is put behind the sets that are there, under the next number
pub record AddsSet (s : NewSet) (label : SetLabel) (old new : Records) : Type 0 where
  pub next : s.number ≡ length old.sets + 1
  pub added : new ≡ record old { sets = old.sets ++ label ∷ [] }

-- ---- putting targets

-- of these rows, in these records
pub record IsImportView (v : ImportView) (rows : List TargetRow) (rs : Records) : Type 0 where
  pub count_after : v.count_after ≡ length (with_words (map (λ (row : TargetRow). row.id) rows) (map (λ (t : Target). t.id) rs.targets))

abbrev pub import_refusal : ImportView → Option Refusal
import_refusal v = first_refusal ((nat_lt limits.targets v.count_after, Quota) ∷ [])

-- ---- tags

-- of the tag x of target t, in these records
pub record IsTagView (v : TagView) (t x : Bytes) (rs : Records) : Type 0 where
  pub misses_target : v.misses_target ≡ is_none (target_of rs t)
  pub same : v.same ≡ contains_word x (tags_of (target_of rs t))
  pub count : v.count ≡ length (tags_of (target_of rs t))

abbrev pub tag_refusal : TagView → Option Refusal
tag_refusal v = first_refusal ((v.misses_target, NotFound) ∷ (not v.same && nat_le limits.tags v.count, Quota) ∷ [])

-- of a tag of target t, in these records
pub record IsUntagView (v : UntagView) (t : Bytes) (rs : Records) : Type 0 where
  pub misses_target : v.misses_target ≡ is_none (target_of rs t)

abbrev pub untag_refusal : UntagView → Option Refusal
untag_refusal v = first_refusal ((v.misses_target, NotFound) ∷ [])

-- the tags of target t are changed, where it is there
abbrev pub ChangesTags : (List Bytes → List Bytes) → Bytes → Records → Records → Type 0
ChangesTags f t old new = new ≡ record old { targets = change_target t (λ (u : Target). record u { tags = f u.tags }) old.targets }

-- ---- attributes

-- of what a device gives, in these records
pub record IsAttributesView (v : AttributesView) (device : Credential) (given : List Attribute) (rs : Records) : Type 0 where
  pub misses_device : v.misses_device ≡ not (is_known rs device)
  pub count_after : v.count + v.added ≡ length (with_words (map (λ (a : Attribute). a.key) given) (target_keys (target_of rs device.id)))

abbrev pub attributes_refusal : AttributesView → Option Refusal
attributes_refusal v = first_refusal ((v.misses_device, Unauthorized) ∷ (nat_lt limits.attributes (v.count + v.added), Quota) ∷ [])

-- the attributes of target t get the values that are given, where it is there
abbrev pub ChangesAttributes : List Attribute → Bytes → Records → Records → Type 0
ChangesAttributes given t old new = new ≡ record old {
  targets = change_target t
      (λ (u : Target). record u { attributes = with_attributes given u.attributes }) old.targets;
}

-- ---- any command

-- the view is of the command, in these records
abbrev pub IsViewOf : View → Command → Records → Type 0
IsViewOf (view.AddModule v) (AddModule label) rs = IsModuleView v label rs
IsViewOf (view.AddArtifact v) (AddArtifact u) rs = IsArtifactView v u rs
IsViewOf (view.AddSet v) (AddSet label) rs = IsSetView v label rs
IsViewOf (view.PutTargets v) (PutTargets rows) rs = IsImportView v rows rs
IsViewOf (view.Tag v) (Tag t x) rs = IsTagView v t x rs
IsViewOf (view.Untag v) (Untag t x) rs = IsUntagView v t rs
IsViewOf (view.PutAttributes v) (PutAttributes device given) rs = IsAttributesView v device given rs
IsViewOf (view.OnRollouts v) c rs = IsRolloutViewOf v c rs
IsViewOf _ _ rs = ⊥

-- the change of the command takes the old records to the new ones
abbrev pub LeadsTo : Change → Command → Records → Records → Type 0
LeadsTo (change.AddModule m) (AddModule label) old new = AddsModule m label old new
LeadsTo (change.AddArtifact a) (AddArtifact u) old new = AddsUpload a u old new
LeadsTo (change.AddSet s) (AddSet label) old new = AddsSet s label old new
LeadsTo change.PutTargets (PutTargets rows) old new = new ≡ record old { targets = put_targets rows old.targets }
LeadsTo change.Tag (Tag t x) old new = ChangesTags (with_word x) t old new
LeadsTo change.Untag (Untag t x) old new = ChangesTags (without_word x) t old new
LeadsTo change.PutAttributes (PutAttributes device given) old new = ChangesAttributes given device.id old new
LeadsTo (change.OnRollouts on) c old new = LeadsRolloutTo on c old new
LeadsTo _ _ old new = ⊥

-- the machine's verdict over these records, and its step
abbrev pub DecidesAt : Records → Command → Result Change Refusal → Type 0
DecidesAt rs c (Ok change) = (check rs c ≡ None) × LeadsTo change c rs (step_records rs c)
DecidesAt rs c (Err refusal) = check rs c ≡ Some refusal

-- what a verdict asks of the records beside its view: on rollouts that they are sound
abbrev pub Suffice : View → Records → Type 0
Suffice (view.OnRollouts v) rs = AreSound rs
Suffice _ rs = ⊤

-- The verdict and the change are those of all such records that the view is of.
abbrev pub Decides : View → Command → Result Change Refusal → Type 0
Decides v c result = (rs : Records) → Suffice v rs → IsViewOf v c rs → DecidesAt rs c result

-- the machine's verdict at this list, and the records of the longer one
abbrev pub FollowsAt : CommandList → Command → Result Change Refusal → Type 0
FollowsAt h c (Ok change) = (verdict h c ≡ None) × LeadsTo change c (records h) (records (h ▸ c))
FollowsAt h c (Err refusal) = verdict h c ≡ Some refusal

-- The verdict and the change are those of every list of accepted commands that the view is of.
abbrev pub Follows : View → Command → Result Change Refusal → Type 0
Follows v c result = (h : CommandList) → IsValid h → IsViewOf v c (records h) → FollowsAt h c result
