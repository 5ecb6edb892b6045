-- The rules at their borders.
use Rattle.rollout_model.specs.Rules.{is_word, is_token, is_filename, is_text, is_value, is_detail, is_number, is_module_list, is_digest}
use Rattle.rollout_model.specs.Groupings.{Grouping, defined, evenly, is_grouping}
use Rattle.rollout_model.specs.PlanRules.{rule_at}
use Rattle.rollout_model.specs.declared.group_definition.GroupDefinition.{GroupDefinition}
use Rattle.rollout_model.specs.declared.rollout_plan.RolloutPlan.{RolloutPlan}
use Rattle.std.proofs.Common.{◌≡◌, true, false, [], ◌∷◌, refl}
use Rattle.std.specs.Prelude.{ℕ, List, map, replicate, codes, Some, None}
use Rattle.std.specs.Str.{is_utf8, chars}
use lib.Utf8.{encode}

words : map is_word (codes "" ∷ codes "aZ09._-" ∷ codes "a b" ∷ codes "a*" ∷ replicate 64 97 ∷ replicate 65 97 ∷ [])
    ≡ false ∷ true ∷ false ∷ false ∷ true ∷ false ∷ []
words = refl

tokens : map is_token (codes "1234567" ∷ codes "12345678" ∷ replicate 64 97 ∷ replicate 65 97 ∷ []) ≡ false ∷ true ∷ true ∷ false ∷ []
tokens = refl

filenames : map is_filename (codes "" ∷ codes "app-1.0_x.bin" ∷ codes "a/b" ∷ replicate 128 97 ∷ replicate 129 97 ∷ [])
    ≡ false ∷ true ∷ false ∷ true ∷ false ∷ []
filenames = refl

-- control characters are no part of texts; bytes that aren't UTF-8 are none
texts : map is_text ([] ∷ codes "a b*\"" ∷ (9 ∷ []) ∷ (127 ∷ []) ∷ (31 ∷ []) ∷ (32 ∷ []) ∷ (195 ∷ 164 ∷ []) ∷ (195 ∷ []) ∷ replicate 128 97 ∷ replicate 129 97
    ∷ []) ≡ false ∷ true ∷ false ∷ false ∷ false ∷ true ∷ true ∷ false ∷ true ∷ false ∷ []
unfolding is_utf8 chars encode
texts = refl

values : map is_value ([] ∷ replicate 128 97 ∷ replicate 129 97 ∷ []) ≡ true ∷ true ∷ false ∷ []
unfolding is_utf8 chars encode
values = refl

details : map is_detail ([] ∷ replicate 256 97 ∷ replicate 257 97 ∷ (10 ∷ []) ∷ []) ≡ true ∷ true ∷ false ∷ false ∷ []
unfolding is_utf8 chars encode
details = refl

item_numbers : map is_number (0 ∷ 1 ∷ 2147483647 ∷ 2147483648 ∷ []) ≡ false ∷ true ∷ true ∷ false ∷ []
item_numbers = refl

eight : List ℕ
eight = 8 ∷ 7 ∷ 6 ∷ 5 ∷ 4 ∷ 3 ∷ 2 ∷ 1 ∷ []

module_lists : map is_module_list ([] ∷ (2147483647 ∷ []) ∷ (0 ∷ []) ∷ (1 ∷ 2 ∷ 1 ∷ []) ∷ eight ∷ (9 ∷ eight) ∷ [])
    ≡ false ∷ true ∷ false ∷ false ∷ true ∷ false ∷ []
unfolding eight
module_lists = refl

digests : map is_digest (replicate 31 1 ∷ replicate 32 255 ∷ replicate 33 1 ∷ replicate 32 256 ∷ []) ≡ false ∷ true ∷ false ∷ false ∷ []
digests = refl

-- a group of so many percent, with two more as its thresholds
of_percent : ℕ → GroupDefinition
of_percent p = record { percentage = p; success = 50; error = 100 }

-- even groups are 1 to 50; a definition is of each group, and the last is of 100 percent
groupings : map is_grouping (evenly 0 ∷ evenly 1 ∷ evenly 50 ∷ evenly 51 ∷ []) ≡ false ∷ true ∷ true ∷ false ∷ []
groupings = refl

named_groups : map (λ ps. is_grouping (defined (map of_percent ps)))
    ((99 ∷ []) ∷ (100 ∷ []) ∷ (10 ∷ 99 ∷ []) ∷ (100 ∷ 1 ∷ 100 ∷ []) ∷ (0 ∷ 100 ∷ []) ∷ (101 ∷ 100 ∷ []) ∷ replicate 50 100 ∷ replicate 51 100 ∷ [])
    ≡ false ∷ true ∷ false ∷ true ∷ false ∷ false ∷ true ∷ false ∷ []
unfolding of_percent
named_groups = refl

two_counts : is_grouping (record { count = 2; definitions = of_percent 100 ∷ [] }) ≡ false
unfolding of_percent
two_counts = refl

plan_by : Grouping → RolloutPlan
plan_by groups = record { name = []; set_number = 1; filter_text = []; groups = groups; success = 80; error = 20 }

-- a group has its definition's rule, and one that isn't there the plan's
rules : map (rule_at (plan_by (defined (of_percent 10 ∷ of_percent 100 ∷ [])))) (0 ∷ 1 ∷ 2 ∷ 3 ∷ [])
    ≡ record { percentage = None; success = 80; error = 20 } ∷ record { percentage = Some 10; success = 50; error = 100 }
    ∷ record { percentage = Some 100; success = 50; error = 100 } ∷ record { percentage = None; success = 80; error = 20 } ∷ []
unfolding of_percent plan_by
rules = refl

even_rules : map (rule_at (plan_by (evenly 2))) (1 ∷ 2 ∷ []) ≡ record { percentage = None; success = 80; error = 20 }
    ∷ record { percentage = None; success = 80; error = 20 } ∷ []
unfolding plan_by
even_rules = refl
