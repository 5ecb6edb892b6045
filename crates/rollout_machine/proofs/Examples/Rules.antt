-- The rules of a command's parts at their borders.
use Rattle.rollout_model.specs.Rules.{are_details}
use Rattle.rollout_machine.proofs.Common.{◌≡◌, ◌+◌, ℕ, true, false, List, [], ◌∷◌, ◌++◌, refl, map, replicate, codes, is_well_formed, PutTargets, Command}
use Rattle.rollout_machine.proofs.Common.{Bytes, PutAttributes, CreateRollout, AddSet, each_from, modules}
use Rattle.std.specs.Str.{is_utf8, chars}
use lib.Utf8.{encode}
use Rattle.rollout_machine.proofs.Examples.Fleet.{device, token, by, plan_for, everyone, fleet}

details : map are_details ([] ∷ replicate 8 [] ∷ replicate 9 [] ∷ (replicate 256 97 ∷ []) ∷ (replicate 257 97 ∷ []) ∷ [])
    ≡ true ∷ true ∷ false ∷ true ∷ false ∷ []
unfolding is_utf8 chars encode
details = refl

abbrev plan_of : ℕ → ℕ → ℕ → Command
plan_of groups success error = CreateRollout (plan_for everyone 1 groups success error)

plans : map is_well_formed (plan_of 0 1 1 ∷ plan_of 1 1 1 ∷ plan_of 50 100 100 ∷ plan_of 51 1 1 ∷ plan_of 1 0 1 ∷ plan_of 1 101 1 ∷ plan_of 1 1 0
    ∷ plan_of 1 1 101 ∷ []) ≡ false ∷ true ∷ true ∷ false ∷ false ∷ false ∷ false ∷ false ∷ []
unfolding is_utf8 chars encode
plans = refl

abbrev row_with : List Bytes → Command
row_with tags = PutTargets (record { id = device 1; name = device 1; digest = token 1; tags = tags } ∷ [])

abbrev tag_for : ℕ → Bytes
tag_for k = (96 + k) ∷ []

rows : map is_well_formed (PutTargets [] ∷ PutTargets (fleet ++ fleet) ∷ row_with (each_from tag_for 1 16) ∷ row_with (each_from tag_for 1 17)
    ∷ row_with (tag_for 1 ∷ tag_for 2 ∷ tag_for 1 ∷ []) ∷ row_with ([] ∷ []) ∷ []) ≡ true ∷ true ∷ true ∷ false ∷ false ∷ false ∷ []
unfolding is_utf8 chars encode
rows = refl

abbrev set_with : List ℕ → Command
set_with modules = AddSet (record { name = codes "r1"; version = codes "1"; modules = modules })

sets_with : map is_well_formed (set_with [] ∷ set_with (1 ∷ []) ∷ set_with (each_from (λ k. k) 1 8) ∷ set_with (each_from (λ k. k) 1 9)
    ∷ set_with (1 ∷ 2 ∷ 1 ∷ []) ∷ set_with (0 ∷ []) ∷ []) ≡ false ∷ true ∷ true ∷ false ∷ false ∷ false ∷ []
unfolding is_utf8 chars encode
sets_with = refl

abbrev attributes_with : ℕ → Command
attributes_with n = PutAttributes (by 1) (each_from (λ k. record { key = (48 + k) ∷ []; value = [] }) 1 n)

attribute_counts : map is_well_formed (attributes_with 0 ∷ attributes_with 9 ∷ PutAttributes (by 1) (replicate 33 (record { key = codes "a"; value = [] }))
    ∷ []) ≡ true ∷ true ∷ false ∷ []
unfolding is_utf8 chars encode
attribute_counts = refl
