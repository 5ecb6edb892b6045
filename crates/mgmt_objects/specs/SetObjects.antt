-- The objects of distribution sets.
use Rattle.std.specs.Prelude.{ℕ, codes, map}
use Rattle.serde_json.specs.Data.{Data, array, string, object, member, no_members}
use Rattle.serde_json.specs.View.{items_of}
use Rattle.rollout_model.specs.declared.distribution_set.DistributionSet.{DistributionSet}
use Rattle.mgmt_objects.specs.Pages.{whole}

-- a module as a set names it
abbrev pub named_module_data : ℕ → Data
named_module_data number = object (member (codes "id") (whole number) no_members)

-- a set, its members in byte order and its modules in its own
abbrev pub set_data : DistributionSet → Data
set_data s = object (member (codes "id") (whole s.number) (member (codes "modules") (array (items_of (map named_module_data s.label.modules)))
    (member (codes "name") (string s.label.name) (member (codes "version") (string s.label.version) no_members))))
