-- Computed examples: they guard the definitions against slips.
use Rattle.http_wire.proofs.Common.{◌≡◌, ℕ, ◌+◌, true, false, List, [], ◌∷◌, ◌++◌, Some, None, refl, codes, decimal, replicate, map, Ok, Err, flat_map}
use Rattle.http_wire.proofs.Common.{fields_named, value_of_one}
use Rattle.http_wire.proofs.Common.{limits, TooLarge, BadLength, BadCoding, line_ends}
use Rattle.std.specs.Fmt.{digits}
use Rattle.httparse.specs.Grammar.{trim_ows}
use Rattle.rollout_model.specs.declared.Refusal.TheVariants as refusals
use Rattle.http_wire.specs.Heads.{is_target_byte}
use Rattle.http_wire.specs.BodyLengths.{body_length}
use Rattle.http_wire.specs.Targets.{path_of, query_text}
use Rattle.http_wire.specs.Replies.{reason, reply_text, refusal_body, refusal_text, Octets, Text, Csv}

-- ---- lengths of bodies

no_length : body_length [] ≡ Ok 0
unfolding body_length
no_length = refl

length_over : body_length ((codes "Content-LENGTH", decimal (limits.body_length + 1)) ∷ []) ≡ Err TooLarge
unfolding body_length digits
length_over = refl

length_at_limit : body_length ((codes "Content-LENGTH", codes "000" ++ decimal limits.body_length) ∷ []) ≡ Ok limits.body_length
unfolding body_length digits
length_at_limit = refl

length_long : body_length ((codes "content-length", codes "99999999999999999999") ∷ []) ≡ Err TooLarge
unfolding body_length
length_long = refl

length_twice : body_length ((codes "content-length", codes "9999999") ∷ (codes "x", []) ∷ (codes "content-length", codes "9999999") ∷ []) ≡ Err BadLength
unfolding body_length
length_twice = refl

length_empty : body_length ((codes "content-length", []) ∷ []) ≡ Err BadLength
unfolding body_length
length_empty = refl

length_signed : body_length ((codes "content-length", codes "+3") ∷ []) ≡ Err BadLength
unfolding body_length
length_signed = refl

coding_first : body_length ((codes "content-length", codes "+3") ∷ (codes "Transfer-Encoding", codes "x") ∷ []) ≡ Err BadCoding
unfolding body_length
coding_first = refl

-- ---- lines of a head

three_lines : line_ends (codes "GET / HTTP/1.1\r\nA:b\r\n\r\n") ≡ 3
three_lines = refl

lone_breaks : line_ends (codes "a\r\r\n\n\r\n\r") ≡ 2
lone_breaks = refl

abbrev head_with : ℕ → List ℕ
head_with count = codes "GET / HTTP/1.1\r\n" ++ flat_map (λ (line : List ℕ). line) (replicate count (codes "a:\r\n")) ++ codes "\r\n"

most_fields : line_ends (head_with 32) ≡ 34
most_fields = refl

-- ---- bytes of a target and a value

target_bytes : map is_target_byte (codes "/?:@-._~!$&'()*+,;=%az09AZ") ≡ replicate 26 true
unfolding is_target_byte
target_bytes = refl

no_target_bytes : map is_target_byte (codes "\"#<>[\\]^`{|} " ++ 128 ∷ []) ≡ replicate 14 false
unfolding is_target_byte
no_target_bytes = refl

trimmed : trim_ows (9 ∷ 32 ∷ 97 ∷ 32 ∷ 98 ∷ 32 ∷ 9 ∷ []) ≡ codes "a b"
unfolding trim_ows
trimmed = refl

-- ---- targets and fields

path_only : (path_of (codes "/a/b") ≡ codes "/a/b") × (query_text (codes "/a/b") ≡ [])
path_only = (refl, refl)

path_and_query : (path_of (codes "/a?b?c") ≡ codes "/a") × (query_text (codes "/a?b?c") ≡ codes "b?c")
path_and_query = (refl, refl)

one_of_name : value_of_one (fields_named (codes "authorization") ((codes "a", []) ∷ (codes "Authorization", codes "x") ∷ [])) ≡ Some (codes "x")
one_of_name = refl

two_of_name : value_of_one (fields_named (codes "a") ((codes "a", []) ∷ (codes "A", codes "x") ∷ [])) ≡ None
two_of_name = refl

-- ---- replies

reasons : map reason (200 ∷ 201 ∷ 400 ∷ 401 ∷ 403 ∷ 404 ∷ 405 ∷ 409 ∷ 410 ∷ 413 ∷ 431 ∷ 500 ∷ 501 ∷ 503 ∷ [])
    ≡ codes "OK" ∷ codes "Created" ∷ codes "Bad Request" ∷ codes "Unauthorized" ∷ codes "Forbidden" ∷ codes "Not Found" ∷ codes "Method Not Allowed"
    ∷ codes "Conflict" ∷ codes "Gone" ∷ codes "Payload Too Large" ∷ codes "Request Header Fields Too Large" ∷ codes "Internal Server Error"
    ∷ codes "Not Implemented" ∷ codes "Service Unavailable" ∷ []
unfolding reason
reasons = refl

exists_text : refusal_text refusals.Exists
    ≡ codes "HTTP/1.1 409 Conflict\r\nContent-Type: application/json\r\nContent-Length: 29\r\n\r\n{\"error\":\"exists\",\"number\":5}"
unfolding refusal_text reason digits
exists_text = refl

too_large_text : refusal_text refusals.TooLarge
    ≡ codes
    "HTTP/1.1 413 Payload Too Large\r\nContent-Type: application/json\r\nContent-Length: 32\r\nConnection: close\r\n\r\n{\"error\":\"too_large\",\"number\":9}"
unfolding refusal_text reason digits
too_large_text = refl

coding_text : refusal_text refusals.BadCoding
    ≡ codes
    "HTTP/1.1 501 Not Implemented\r\nContent-Type: application/json\r\nContent-Length: 30\r\nConnection: close\r\n\r\n{\"error\":\"coding\",\"number\":21}"
unfolding refusal_text reason digits
coding_text = refl

import_line_body : refusal_body (refusals.BadImportLine 4) ≡ codes "{\"error\":\"import_line\",\"line\":4,\"number\":14}"
unfolding digits
import_line_body = refl

types : (reply_text 200 Octets false [] ≡ codes "HTTP/1.1 200 OK\r\nContent-Type: application/octet-stream\r\nContent-Length: 0\r\n\r\n")
    × (reply_text 200 Text false (codes "x") ≡ codes "HTTP/1.1 200 OK\r\nContent-Type: text/plain; charset=utf-8\r\nContent-Length: 1\r\n\r\nx")
    × (reply_text 200 Csv false [] ≡ codes "HTTP/1.1 200 OK\r\nContent-Type: text/csv; charset=utf-8\r\nContent-Length: 0\r\n\r\n")
unfolding reason digits
types = (refl, refl, refl)
