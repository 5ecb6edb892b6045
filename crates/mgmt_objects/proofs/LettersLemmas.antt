-- The texts of objects, letter by letter.
use Rattle.mgmt_objects.proofs.Common.{◌≡◌, ℕ, List, [], ◌∷◌, Bool, true, false, codes, decimal, append_assoc, object, member, no_members, string, boolean}
use Rattle.mgmt_objects.proofs.Common.{whole}
use Rattle.std.specs.List.{concat}
use Rattle.json.specs.Print.{quoted}
use Rattle.serde_json.specs.Written.{compact_text}
use Rattle.serde_json.proofs.OnLiterals.{serde_json_on_literals}
use Rattle.rollout_model.specs.declared.module.Module.{Module}
use Rattle.rollout_model.specs.declared.rollout.Action.{Action}
use Rattle.rollout_model.specs.declared.rollout.Group.{Group}
use Rattle.rollout_model.specs.declared.rollout.Rollout.{Rollout}
use Rattle.rollout_model.specs.StateTexts.{action_text, group_text, rollout_text}
use Rattle.mgmt_objects.specs.ModuleObjects.{module_data, module_letters, truth_letters}
use Rattle.mgmt_objects.specs.ActionObjects.{action_data, action_letters}
use Rattle.mgmt_objects.specs.RolloutObjects.{group_data, group_letters, rollout_data, rollout_letters}

spelled : (id : ℕ) (locked : Bool) (name kind version : List ℕ)
    → compact_text (object (member (codes "id") (whole id)
    (member (codes "locked") (boolean locked)
    (member (codes "name") (string name) (member (codes "type") (string kind) (member (codes "version") (string version) no_members))))))
    ≡ concat (codes "{\"id\":" ∷ decimal id ∷ codes ",\"locked\":" ∷ truth_letters locked ∷ codes ",\"name\":" ∷ quoted name ∷ codes ",\"type\":" ∷ quoted kind
    ∷ codes ",\"version\":" ∷ quoted version ∷ codes "}" ∷ [])
unfolding serde_json_on_literals
spelled id true name kind version = simp append_assoc
spelled id false name kind version = simp append_assoc

pub module_spelled : (m : Module) → compact_text (module_data m) ≡ module_letters m
module_spelled m = spelled m.number m.locked m.label.name m.label.kind m.label.version

rollout_by_parts : (set_number id groups targets : ℕ) (name status filter : List ℕ)
    → compact_text (object (member (codes "distributionSetId") (whole set_number)
    (member (codes "id") (whole id)
    (member (codes "name") (string name)
    (member (codes "status") (string status)
    (member (codes "targetFilterQuery") (string filter)
    (member (codes "totalGroups") (whole groups) (member (codes "totalTargets") (whole targets) no_members))))))))
    ≡ concat (codes "{\"distributionSetId\":" ∷ decimal set_number ∷ codes ",\"id\":" ∷ decimal id ∷ codes ",\"name\":" ∷ quoted name ∷ codes ",\"status\":"
    ∷ quoted status ∷ codes ",\"targetFilterQuery\":" ∷ quoted filter ∷ codes ",\"totalGroups\":" ∷ decimal groups ∷ codes ",\"totalTargets\":"
    ∷ decimal targets ∷ codes "}" ∷ [])
unfolding serde_json_on_literals
rollout_by_parts set_number id groups targets name status filter = simp append_assoc

pub rollout_spelled : (r : Rollout) → compact_text (rollout_data r) ≡ rollout_letters r
rollout_spelled r = rollout_by_parts r.set_number r.number r.groups r.targets r.name (rollout_text r.word) r.filter_text

group_by_parts : (bad error gone id ok size success : ℕ) (status : List ℕ)
    → compact_text (object (member (codes "bad") (whole bad)
    (member (codes "error") (whole error)
    (member (codes "gone") (whole gone)
    (member (codes "id") (whole id)
    (member (codes "ok") (whole ok)
    (member (codes "size") (whole size) (member (codes "status") (string status) (member (codes "success") (whole success) no_members)))))))))
    ≡ concat (codes "{\"bad\":" ∷ decimal bad ∷ codes ",\"error\":" ∷ decimal error ∷ codes ",\"gone\":" ∷ decimal gone ∷ codes ",\"id\":" ∷ decimal id
    ∷ codes ",\"ok\":" ∷ decimal ok ∷ codes ",\"size\":" ∷ decimal size ∷ codes ",\"status\":" ∷ quoted status ∷ codes ",\"success\":" ∷ decimal success
    ∷ codes "}" ∷ [])
unfolding serde_json_on_literals
group_by_parts bad error gone id ok size success status = simp append_assoc

pub group_spelled : (g : Group) → compact_text (group_data g) ≡ group_letters g
group_spelled g = group_by_parts g.bad g.error g.gone g.number g.ok g.size g.success (group_text g.word)

action_by_parts : (group id rollout : ℕ) (status target : List ℕ)
    → compact_text (object (member (codes "group") (whole group)
    (member (codes "id") (whole id)
    (member (codes "rollout") (whole rollout) (member (codes "status") (string status) (member (codes "target") (string target) no_members))))))
    ≡ concat (codes "{\"group\":" ∷ decimal group ∷ codes ",\"id\":" ∷ decimal id ∷ codes ",\"rollout\":" ∷ decimal rollout ∷ codes ",\"status\":"
    ∷ quoted status ∷ codes ",\"target\":" ∷ quoted target ∷ codes "}" ∷ [])
unfolding serde_json_on_literals
action_by_parts group id rollout status target = simp append_assoc

pub action_spelled : (a : Action) → compact_text (action_data a) ≡ action_letters a
action_spelled a = action_by_parts a.group a.number a.rollout (action_text a.word) a.target
