-- The objects of rollouts and of their groups.
use Rattle.std.specs.Prelude.{ℕ, List, [], ◌∷◌, codes, decimal}
use Rattle.std.specs.List.{concat}
use Rattle.json.specs.Print.{quoted}
use Rattle.serde_json.specs.Data.{Data, string, object, member, no_members}
use Rattle.rollout_model.specs.StateTexts.{group_text, rollout_text}
use Rattle.rollout_model.specs.declared.rollout.Group.{Group}
use Rattle.rollout_model.specs.declared.rollout.Rollout.{Rollout}
use Rattle.mgmt_objects.specs.Pages.{whole}

-- a rollout, its members in byte order
abbrev pub rollout_data : Rollout → Data
rollout_data r = object (member (codes "distributionSetId") (whole r.set_number)
    (member (codes "id") (whole r.number) (member (codes "name") (string r.name)
    (member (codes "status") (string (rollout_text r.word)) (member (codes "targetFilterQuery") (string r.filter_text)
    (member (codes "totalGroups") (whole r.groups) (member (codes "totalTargets") (whole r.targets) no_members)))))))

-- a group, its members in byte order; its number is that in its rollout, and its thresholds are percentages
abbrev pub group_data : Group → Data
group_data g = object (member (codes "bad") (whole g.bad) (member (codes "error") (whole g.error) (member (codes "gone") (whole g.gone)
    (member (codes "id") (whole g.number) (member (codes "ok") (whole g.ok) (member (codes "size") (whole g.size)
    (member (codes "status") (string (group_text g.word)) (member (codes "success") (whole g.success) no_members))))))))

-- the text of a rollout, letter by letter
abbrev pub rollout_letters : Rollout → List ℕ
rollout_letters r =
    concat (codes "{\"distributionSetId\":" ∷ decimal r.set_number ∷ codes ",\"id\":" ∷ decimal r.number ∷ codes ",\"name\":" ∷ quoted r.name
    ∷ codes ",\"status\":" ∷ quoted (rollout_text r.word) ∷ codes ",\"targetFilterQuery\":" ∷ quoted r.filter_text ∷ codes ",\"totalGroups\":"
    ∷ decimal r.groups ∷ codes ",\"totalTargets\":" ∷ decimal r.targets ∷ codes "}" ∷ [])

-- the text of a group, letter by letter
abbrev pub group_letters : Group → List ℕ
group_letters g =
    concat (codes "{\"bad\":" ∷ decimal g.bad ∷ codes ",\"error\":" ∷ decimal g.error ∷ codes ",\"gone\":" ∷ decimal g.gone ∷ codes ",\"id\":"
    ∷ decimal g.number ∷ codes ",\"ok\":" ∷ decimal g.ok ∷ codes ",\"size\":" ∷ decimal g.size ∷ codes ",\"status\":"
    ∷ quoted (group_text g.word) ∷ codes ",\"success\":" ∷ decimal g.success ∷ codes "}" ∷ [])
