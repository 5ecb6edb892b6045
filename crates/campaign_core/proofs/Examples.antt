-- The rows of the verdicts at their borders, by computing.
use Rattle.campaign_core.proofs.Common.{◌≡◌, ℕ, Bool, true, false, Some, None, [], refl, Unauthorized, NotFound, Locked, Exists, Quota, WrongDigest}
use Rattle.campaign_core.specs.Checks.{module_refusal, artifact_refusal, attributes_refusal, set_refusal}
use Rattle.campaign_core.specs.declared.checks.artifacts.ArtifactView.{ArtifactView}

module_999 : module_refusal (record { same = false; count = 999 }) ≡ None
module_999 = refl

module_1000 : module_refusal (record { same = false; count = 1000 }) ≡ Some Quota
module_1000 = refl

module_again : module_refusal (record { same = true; count = 1000 }) ≡ Some Exists
module_again = refl

abbrev seen : (missing locked same wrong : Bool) (module_count count : ℕ) → ArtifactView
seen missing locked same wrong module_count count = record {
  misses_module = missing;
  locked = locked;
  same = same;
  module_count = module_count;
  count = count;
  wrong_digest = wrong;
  size = 0;
  digest = [];
}

artifact_8_of_256 : artifact_refusal (seen false false false false 7 255) ≡ None
artifact_8_of_256 = refl

artifact_wrong : artifact_refusal (seen false false false true 7 255) ≡ Some WrongDigest
artifact_wrong = refl

artifact_9 : artifact_refusal (seen false false false true 8 8) ≡ Some Quota
artifact_9 = refl

artifact_257 : artifact_refusal (seen false false false true 0 256) ≡ Some Quota
artifact_257 = refl

artifact_again : artifact_refusal (seen false false true true 8 256) ≡ Some Exists
artifact_again = refl

artifact_locked : artifact_refusal (seen false true true true 8 256) ≡ Some Locked
artifact_locked = refl

artifact_nowhere : artifact_refusal (seen true true true true 8 256) ≡ Some NotFound
artifact_nowhere = refl

set_999 : set_refusal (record { misses_module = false; same = false; count = 999 }) ≡ None
set_999 = refl

set_1000 : set_refusal (record { misses_module = false; same = false; count = 1000 }) ≡ Some Quota
set_1000 = refl

set_again : set_refusal (record { misses_module = false; same = true; count = 1000 }) ≡ Some Exists
set_again = refl

set_of_nothing : set_refusal (record { misses_module = true; same = true; count = 1000 }) ≡ Some NotFound
set_of_nothing = refl

attributes_32 : attributes_refusal (record { misses_device = false; count = 30; added = 2 }) ≡ None
attributes_32 = refl

attributes_33 : attributes_refusal (record { misses_device = false; count = 32; added = 1 }) ≡ Some Quota
attributes_33 = refl

attributes_of_a_stranger : attributes_refusal (record { misses_device = true; count = 32; added = 1 }) ≡ Some Unauthorized
attributes_of_a_stranger = refl
