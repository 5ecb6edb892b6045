-- The body that puts targets: an array of objects.
use Rattle.std.specs.Prelude.{List, [], Bool, ◌&&◌, map, length, Option, Some, option_map, option_and_then, codes}
use Rattle.std.specs.Option.{option_map_or}
use Rattle.serde_json.specs.Data.{Data}
use Rattle.serde_json.specs.Find.{get}
use Rattle.artifact_pieces.specs.Digests.{digest_of}
use Rattle.rollout_model.specs.Limits.{limits}
use Rattle.rollout_model.specs.Rules.{are_distinct_words, is_between, kept_if, is_tag_list, is_token, is_word}
use Rattle.rollout_model.specs.declared.target_row.TargetRow.{TargetRow}
use Rattle.mgmt_objects.specs.Bodies.{string_member, text_in, text_member}
use Rattle.mgmt_objects.specs.Traverse.{array_of}

-- an object's `controllerId`, `name`, the digest of its `securityToken`, and its `tags`: at most 16, none twice, and none where
-- it is missing
abbrev pub target_row_of : Data → Option TargetRow
target_row_of d =
    option_and_then (λ id. option_and_then (λ name. option_and_then (λ digest. option_map
    (λ tags. record { id = id; name = name; digest = digest; tags = tags })
    (option_and_then (kept_if is_tag_list) (option_map_or (array_of (text_in is_word)) (get (codes "tags") d) (Some []))))
    (option_map digest_of (option_and_then (kept_if is_token) (string_member (codes "securityToken") d)))) (text_member (codes "name") d))
    (option_and_then (text_in is_word) (get (codes "controllerId") d))

-- 1 to 100 rows, no two of one id
abbrev pub are_posted : List TargetRow → Bool
are_posted rows = is_between 1 limits.posted_targets (length rows) && are_distinct_words (map (λ (row : TargetRow). row.id) rows)
