-- The one form of a head: request line, fields, empty line.
use Rattle.std.specs.Prelude.{◌≡◌, ℕ, Bool, ◌||◌, ◌==◌, List, ◌∷◌, ◌++◌, slice_index, All, codes}
use Rattle.std.specs.List.{flat_map, list_any}
use Rattle.std.specs.Char.{is_ascii_alphanumeric}
use Rattle.httparse.specs.Ascii.{space, colon, crlf_bytes}
use Rattle.httparse.specs.Grammar.{AllPass, IsToken, is_value_byte, trim_ows}

-- a field as it stands: its name, and what is between the colon and the line's end
pub record FieldLine : Type 0 where
  pub name : List ℕ
  pub raw : List ℕ

-- the parts of a head
pub record HeadParts : Type 0 where
  pub method : List ℕ
  pub target : List ℕ
  pub lines : List FieldLine

-- METHOD SP TARGET SP HTTP/1.1, the fields, each its name, a colon and its value, and the empty line; CR LF ends each line
unfoldable pub head_text : HeadParts → List ℕ
head_text h =
    h.method ++ space ∷ h.target ++ space ∷ codes "HTTP/1.1" ++ crlf_bytes
    ++ flat_map (λ (l : FieldLine). l.name ++ colon ∷ l.raw ++ crlf_bytes) h.lines ++ crlf_bytes

-- a byte of a target in origin form
unfoldable pub is_target_byte : ℕ → Bool
is_target_byte b = is_ascii_alphanumeric b || list_any (λ c. c == b) (codes "/?:@-._~!$&'()*+,;=%")

-- a slash, and then bytes of a target
abbrev pub IsOriginForm : List ℕ → Type 0
IsOriginForm target = (slice_index target 0 ≡ 47) × AllPass is_target_byte target

-- the region is the text of this head, each part of which has its form; that of a field's name is a token, and that of its value
-- tabs, spaces and visible bytes (RFC 9110, sections 5.1 and 5.5)
pub record SpellsHead (region : List ℕ) (h : HeadParts) : Type 0 where
  pub method : IsToken h.method
  pub target : IsOriginForm h.target
  pub lines : All (λ (l : FieldLine). IsToken l.name × AllPass is_value_byte l.raw) h.lines
  pub text : region ≡ head_text h

-- a field's name and its value
abbrev pub NameAndValue : Type 0
NameAndValue = List ℕ × List ℕ

-- spaces and tabs at either end are no part of a value
abbrev pub name_and_value : FieldLine → NameAndValue
name_and_value l = (l.name, trim_ows l.raw)
