-- The objects of modules.
use Rattle.std.specs.Prelude.{ℕ, List, Bool, codes, [], ◌∷◌, decimal, if◌then◌else◌}
use Rattle.std.specs.List.{concat}
use Rattle.json.specs.Print.{quoted}
use Rattle.serde_json.specs.Data.{Data, string, boolean, object, member, no_members}
use Rattle.rollout_model.specs.declared.module.Module.{Module}
use Rattle.mgmt_objects.specs.Pages.{whole}

-- a module, its members in byte order
abbrev pub module_data : Module → Data
module_data m = object (member (codes "id") (whole m.number)
    (member (codes "locked") (boolean m.locked) (member (codes "name") (string m.label.name)
    (member (codes "type") (string m.label.kind) (member (codes "version") (string m.label.version) no_members)))))

abbrev pub truth_letters : Bool → List ℕ
truth_letters b = if b then codes "true" else codes "false"

-- the text of a module, letter by letter
abbrev pub module_letters : Module → List ℕ
module_letters m =
    concat (codes "{\"id\":" ∷ decimal m.number ∷ codes ",\"locked\":" ∷ truth_letters m.locked ∷ codes ",\"name\":" ∷ quoted m.label.name
    ∷ codes ",\"type\":" ∷ quoted m.label.kind ∷ codes ",\"version\":" ∷ quoted m.label.version ∷ codes "}" ∷ [])
