-- How a head is read: words on spans and lists of fields, for the private functions.
use Rattle.std.specs.Prelude.{◌≡◌, ℕ, ◌<◌, ◌≤◌, Bool, true, not, ◌&&◌, ◌==◌, if◌then◌else◌, List, [], ◌∷◌, length, take, map, All}
use Rattle.httparse.specs.Ascii.{line_feed, carriage_return}
use Rattle.httparse.specs.Spans.{span_bytes, header_bytes, IsWithin, IsHeaderWithin}
use Rattle.httparse.specs.declared.spans.RequestSpans.{RequestSpans}
use Rattle.http_wire.specs.declared.head.HeadSpans.{HeadSpans}
use Rattle.http_wire.specs.declared.fields.FieldsOfName.{FieldsOfName}
use Rattle.http_wire.specs.declared.fields.FieldsOfName.TheVariants.{Absent, Once, Repeated}
use Rattle.http_wire.specs.Heads.{IsOriginForm, NameAndValue}
use Rattle.http_wire.specs.Messages.{IsHeadWith}
use Rattle.http_wire.specs.Inbox.{field_view}

-- each LF follows a CR; the byte before the first is given
abbrev pub lf_follows_cr : ℕ → List ℕ → Bool
lf_follows_cr previous [] = true
lf_follows_cr previous (b ∷ bytes) = (if b == line_feed then previous == carriage_return else true) && lf_follows_cr b bytes

-- neither CR nor LF
abbrev pub is_no_line_break : ℕ → Bool
is_no_line_break b = not (b == carriage_return) && not (b == line_feed)

-- the head is all of the region, in HTTP/1.1 and with a target in origin form
pub record IsStrict (region : List ℕ) (r : RequestSpans) : Type 0 where
  pub len : r.len ≡ length region
  pub version : r.version ≡ 1
  pub target : IsOriginForm (span_bytes region r.path)

-- the names and the values under the spans
abbrev pub fields_at : List ℕ → HeadSpans → List NameAndValue
fields_at region s = map (header_bytes region) (take s.field_count s.fields)

-- the spans lie in the region, and cover the parts of its head
pub record IsHeadAt (region : List ℕ) (s : HeadSpans) : Type 0 where
  pub method : IsWithin (length region) s.method
  pub target : IsWithin (length region) s.target
  pub count : s.field_count ≤ length s.fields
  pub fields : All (IsHeaderWithin (length region)) (take s.field_count s.fields)
  pub head : IsHeadWith region (span_bytes region s.method) (span_bytes region s.target) (fields_at region s)

-- how many fields there are, and the one
abbrev pub AreOfName : List NameAndValue → FieldsOfName → Type 0
AreOfName fields Absent = fields ≡ []
AreOfName fields (Once f) = fields ≡ field_view f ∷ []
AreOfName fields Repeated = 1 < length fields
