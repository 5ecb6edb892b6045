-- Digests of contents and their texts.
use Rattle.std.specs.Prelude.{◌≡◌, true, ℕ, List, Option, Some, None, Result, Ok, Err}
use Rattle.hex.specs.Hex.{encode_lower, decode_sized}
use Rattle.hex.specs.declared.error.FromHexError.{FromHexError}
use Rattle.rollout_model.specs.Limits.{limits}
use Rattle.rollout_model.specs.Rules.{is_digest}
use Rattle.sha2.specs.Sha256.{sha256}

-- the digest of some contents (FIPS 180-4)
abbrev pub digest_of : List ℕ → List ℕ
digest_of contents = sha256 contents

-- a digest as hexadecimal digits, in lower case
abbrev pub digest_digits : List ℕ → List ℕ
digest_digits digest = encode_lower digest

abbrev pub decoded : Result (List ℕ) FromHexError → Option (List ℕ)
decoded (Ok bytes) = Some bytes
decoded (Err e) = None

-- the digest that a text names: twice as many hexadecimal digits as a digest has bytes, of either case
abbrev pub digest_named : List ℕ → Option (List ℕ)
digest_named text = decoded (decode_sized text limits.digest_length)

-- the digits of a digest name it
abbrev pub DigestsAreReadBack : Type 0
DigestsAreReadBack = (digest : List ℕ) → is_digest digest ≡ true → digest_named (digest_digits digest) ≡ Some digest
