-- The bytes of replies.
use Rattle.std.specs.Prelude.{◌≡◌, ℕ, Bool, false, if◌then◌else◌, List, [], ◌++◌, length, codes, unwrap_or}
use Rattle.std.specs.Fmt.{decimal}
use Rattle.http.specs.StatusCode.{code_digits, reason_phrase}
use Rattle.rollout_model.specs.declared.Refusal.{Refusal}
use Rattle.rollout_model.specs.declared.Refusal.TheVariants.{BadImportLine}
use Rattle.rollout_model.specs.Refusals.{refusal_row}
use Rattle.http_wire.specs.declared.reply.Answer.{Answer}
pub use Rattle.http_wire.specs.declared.reply.ContentType.{ContentType}
pub use Rattle.http_wire.specs.declared.reply.ContentType.TheVariants.{Json, Octets, Text, Csv}

abbrev pub content_type_text : ContentType → List ℕ
content_type_text Json = codes "application/json"
content_type_text Octets = codes "application/octet-stream"
content_type_text Text = codes "text/plain; charset=utf-8"
content_type_text Csv = codes "text/csv; charset=utf-8"

-- the reason phrase of a status
unfoldable pub reason : ℕ → List ℕ
reason status = unwrap_or (reason_phrase status) []

-- the status line, the fields and the empty line; the reply after which the connection ends says so
abbrev pub reply_head : ℕ → ContentType → Bool → ℕ → List ℕ
reply_head status kind ends size =
    (codes "HTTP/1.1 " ++ code_digits status ++ codes " " ++ reason status) ++ codes "\r\nContent-Type: " ++ content_type_text kind
    ++ codes "\r\nContent-Length: " ++ decimal size ++ codes "\r\n" ++ (if ends then codes "Connection: close\r\n" else []) ++ codes "\r\n"

-- head and body
abbrev pub reply_text : ℕ → ContentType → Bool → List ℕ → List ℕ
reply_text status kind ends body = reply_head status kind ends (length body) ++ body

-- the text of an answer, after which the connection goes on
abbrev pub answer_text : Answer → List ℕ
answer_text a = reply_text a.status a.content_type false a.body.items

-- ---- refusals

-- the line of an import that is refused
abbrev pub line_member : Refusal → List ℕ
line_member (BadImportLine line) = codes ",\"line\":" ++ decimal line
line_member refusal = []

-- the object that says why
abbrev pub refusal_body : Refusal → List ℕ
refusal_body refusal =
    codes "{\"error\":\"" ++ (refusal_row refusal).name ++ codes "\"" ++ line_member refusal
    ++ codes ",\"number\":" ++ decimal (refusal_row refusal).number ++ codes "}"

-- an answer has the status of the refusal's row and the object that says why
pub record TellsOf (refusal : Refusal) (answer : Answer) : Type 0 where
  pub status : answer.status ≡ (refusal_row refusal).status
  pub content_type : answer.content_type ≡ Json
  pub body : answer.body.items ≡ refusal_body refusal

-- the whole text of a refusal, by its row of the table
unfoldable pub refusal_text : Refusal → List ℕ
refusal_text refusal = reply_text (refusal_row refusal).status Json (refusal_row refusal).ends (refusal_body refusal)
