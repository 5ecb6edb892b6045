-- Who a device says it is.
use Rattle.std.specs.Prelude.{ℕ, List, codes, take, drop, bytes_eq, Option, Some, None, option_and_then, option_map, if◌then◌else◌}
use Rattle.http_wire.specs.Messages.{WireMessage}
use Rattle.artifact_pieces.specs.Digests.{digest_of}
use Rattle.rollout_model.specs.Rules.{kept_if, is_token}
use Rattle.rollout_model.specs.declared.credential.Credential.{Credential}
use Rattle.mgmt_api.specs.Reading.{path_word}
use Rattle.http_wire.specs.Fields.{fields_named, value_of_one}

-- what stands behind the scheme, as written, and the one space behind it
abbrev pub after_scheme : List ℕ → Option (List ℕ)
after_scheme value = if bytes_eq (take 12 value) (codes "TargetToken ") then Some (drop 12 value) else None

-- the digest of the token that such a value shows
abbrev pub digest_of_value : List ℕ → Option (List ℕ)
digest_of_value value = option_map digest_of (option_and_then (kept_if is_token) (after_scheme value))

-- the id in the path, and the digest of the token in the field, where there is exactly one
abbrev pub credential_of : WireMessage → Option Credential
credential_of m =
    option_and_then (λ id. option_map (λ digest. record { id = id; digest = digest })
    (option_and_then digest_of_value (value_of_one (fields_named (codes "authorization") m.fields)))) (path_word m 4)
