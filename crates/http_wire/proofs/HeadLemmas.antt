-- The strict heads are those of httparse's grammar in which each LF follows a CR, apart empty line comes
-- first, the version is 1.1 and the target is in origin form.
use Rattle.http_wire.proofs.Common.{◌≡◌, ◌≢◌, ℕ, Bool, ◌+◌, ◌<◌, ◌≤◌, true, cond, eqb, ◌==◌, ◌||◌, List, [], ◌∷◌, ◌++◌, codes, map, length, get_or, take, drop}
use Rattle.http_wire.proofs.Common.{refl, sym, ap, ◌∙◌}
use Rattle.http_wire.proofs.Common.{subst, arith, append_assoc, inl, inr, IsAscii, All, flat_map, and_parts, and_from, eqb-true, cases_lt, not_from_false}
use Rattle.http_wire.proofs.Common.{ne_eqb, false≢true, append-nil, get_or_past, length-map, drop_all, limits, FieldLine, HeadParts}
use Rattle.http_wire.proofs.Common.{IsOriginForm, SpellsHead, name_and_value, line_ends, HasFewFields, lf_follows_cr, is_no_line_break, IsStrict}
use Rattle.http_wire.proofs.Common.{IsHeadAt}
use Rattle.std.specs.List.{list_any}
use Rattle.std.specs.Int.{is_in_range}
use Rattle.std.proofs.lemmas.Bool.Decides.{nat_tests}
use Rattle.std.proofs.lemmas.List.Elements.{All-head, All-tail, All-weaker, All-map}
use Rattle.std.proofs.lemmas.Str.{IsUtf8-from_ascii}
use Rattle.httparse.specs.Grammar.{is_token_byte, is_uri_byte, is_value_byte, AllPass, IsToken, LineEnd, crlf, lf, print_end, print_blank, print_version}
use Rattle.httparse.specs.Grammar.{Field, print_field, IsField, print_section, RequestHead, print_request, ReadsRequest}
use Rattle.httparse.specs.Spans as Spans
use Rattle.httparse.specs.declared.spans.RequestSpans.{RequestSpans}
use Rattle.httparse.specs.declared.spans.HeaderSpan.{HeaderSpan}
use Rattle.httparse.proofs.GrammarLemmas.{print_request-append, cons-append}
use Rattle.http_wire.specs.Heads.{head_text, is_target_byte}
use Rattle.httparse.specs.Ascii.{colon, crlf_bytes}

-- ---- between the two trees

abbrev pub field_of : FieldLine → Field
field_of l = record { name = l.name; raw = l.raw; end = crlf }

abbrev pub line_of : Field → FieldLine
line_of f = record { name = f.name; raw = f.raw }

abbrev pub as_request : HeadParts → RequestHead
as_request h = record {
  blank = [];
  method = h.method;
  target = h.target;
  minor = 1;
  line_end = crlf;
  fields = map field_of h.lines;
  last = crlf;
}

abbrev pub parts_of : RequestHead → HeadParts
parts_of r = record { method = r.method; target = r.target; lines = map line_of r.fields }

same_lines : (ls : List FieldLine) → flat_map print_field (map field_of ls) ≡ flat_map (λ (l : FieldLine). l.name ++ colon ∷ l.raw ++ crlf_bytes) ls
same_lines [] = refl
same_lines (l ∷ ls) = ap (λ t. (l.name ++ colon ∷ l.raw ++ crlf_bytes) ++ t) (same_lines ls)

pub request_text : (h : HeadParts) → print_request (as_request h) ≡ head_text h
unfolding print_request head_text
request_text h = grind (arith, same_lines, append_assoc)

pub same_names : (ls : List FieldLine) → map Spans.name_and_value (map field_of ls) ≡ map name_and_value ls
same_names [] = refl
same_names (l ∷ ls) = ap (λ t. name_and_value l ∷ t) (same_names ls)

-- ---- classes of bytes

-- the ranges in the order of the codes, which the code tests, and the marks between them
pub is_target_byte_by_ranges : (b : ℕ) → is_target_byte b
    ≡ (((is_in_range 97 122 b || is_in_range 63 90 b) || is_in_range 36 59 b) || list_any (λ c. c == b) (codes "!=_~"))
unfolding is_target_byte
is_target_byte_by_ranges b = grind (arith, nat_tests)

target_is_uri : (b : ℕ) → is_target_byte b ≡ true → (is_uri_byte b ≡ true) × (b < 128)
unfolding is_target_byte
target_is_uri b h = grind (arith, nat_tests)

token_no_break : (b : ℕ) → is_token_byte b ≡ true → (b ≢ 13) × (b ≢ 10)
unfolding is_token_byte
token_no_break b h = (λ e. grind (arith, nat_tests), λ e. grind (arith, nat_tests))

target_no_break : (b : ℕ) → is_uri_byte b ≡ true → (b ≢ 13) × (b ≢ 10)
target_no_break b h = (λ e. grind (arith, nat_tests), λ e. grind (arith, nat_tests))

value_no_break : (b : ℕ) → is_value_byte b ≡ true → (b ≢ 13) × (b ≢ 10)
value_no_break b h = (λ e. grind (arith, nat_tests), λ e. grind (arith, nat_tests))

-- ---- from a strict head to httparse's

abbrev NoBreaks : List ℕ → Type 0
NoBreaks bytes = All (λ b. (b ≢ 13) × (b ≢ 10)) bytes

-- bytes without a break change nothing
lf_passes : (xs ys : List ℕ) (p : ℕ) → NoBreaks xs → ((q : ℕ) → lf_follows_cr q ys ≡ true) → lf_follows_cr p (xs ++ ys) ≡ true
lf_passes [] ys p plain rest = rest p
lf_passes (x ∷ xs) ys p plain rest =
    let P : ℕ → Type 0 = λ b. (b ≢ 13) × (b ≢ 10) in
    and_from _ _ (cond_true x (All-head P x xs plain).1) (lf_passes xs ys x (All-tail P x xs plain) rest)
  where
    cond_true : (b : ℕ) → b ≢ 10 → cond (eqb b 10) (eqb p 13) true ≡ true
    cond_true b ne = grind (arith, nat_tests)

-- the bytes of a class without a break have none
no_breaks : (P : ℕ → Bool) → ((b : ℕ) → P b ≡ true → (b ≢ 13) × (b ≢ 10)) → (bytes : List ℕ) → AllPass P bytes → NoBreaks bytes
no_breaks P apart bytes = All-weaker (λ b. P b ≡ true) (λ b. (b ≢ 13) × (b ≢ 10)) apart bytes

-- one field line, regrouped
line_regroup : (n r e f rest : List ℕ) → ((n ++ 58 ∷ r ++ e) ++ f) ++ rest ≡ n ++ 58 ∷ (r ++ (e ++ (f ++ rest)))
line_regroup n r e f rest = simp (append_assoc, cons-append)

-- the form of a field as it stands
abbrev IsFieldLine : FieldLine → Type 0
IsFieldLine l = IsToken l.name × AllPass is_value_byte l.raw

lines_pass : (ls : List FieldLine) (rest : List ℕ) → All IsFieldLine ls → ((q : ℕ) → lf_follows_cr q rest ≡ true)
    → (q : ℕ) → lf_follows_cr q (flat_map print_field (map field_of ls) ++ rest) ≡ true
lines_pass [] rest fine after q = after q
lines_pass (l ∷ ls) rest fine after q =
    let here : IsFieldLine l = All-head IsFieldLine l ls fine in
    let tail = flat_map print_field (map field_of ls) in
    let next : (p : ℕ) → lf_follows_cr p (13 ∷ 10 ∷ (tail ++ rest)) ≡ true = λ p. lines_pass ls rest (All-tail IsFieldLine l ls fine) after 10 in
    let value : (p : ℕ) → lf_follows_cr p (58 ∷ (l.raw ++ 13 ∷ 10 ∷ (tail ++ rest))) ≡ true =
    λ p. lf_passes l.raw _ 58 (no_breaks is_value_byte value_no_break l.raw here.1) next in
    ap (lf_follows_cr q) (line_regroup l.name l.raw (print_end crlf) tail rest)
    ∙ lf_passes l.name _ q (no_breaks is_token_byte token_no_break l.name here.0.1) value

-- the text of a strict head, nested to the right
abbrev nested : (method target : List ℕ) (end : LineEnd) (fields : List Field) (last : LineEnd) → List ℕ
nested method target end fields last =
    method ++ 32 ∷ (target ++ 32 ∷ (print_version 1 ++ (print_end end ++ (flat_map print_field fields ++ (print_end last ++ [])))))

pub spelled_text : (region : List ℕ) (h : HeadParts) → SpellsHead region h → region ≡ nested h.method h.target crlf (map field_of h.lines) crlf
spelled_text region h s =
    s.text ∙ sym (request_text h) ∙ sym (append-nil (print_request (as_request h))) ∙ print_request-append (as_request h) []
    ∙ ap (λ t. h.method ++ 32 ∷ (h.target ++ 32 ∷ (print_version 1 ++ (print_end crlf ++ t))))
    (append_assoc (flat_map print_field (map field_of h.lines)) (print_end crlf) [])

target_ascii : (target : List ℕ) → AllPass is_target_byte target → IsAscii target
target_ascii target all k = elim (cases_lt k (length target)) [
  | inl l ↦ (target_is_uri (get_or target k 0) (all k 0 l)).1
  | inr g ↦ let e = get_or_past target k 0 g in subst (λ (b : ℕ). b < 128) (sym e) (omega arith)
]

uri_of_target : (target : List ℕ) → AllPass is_target_byte target → AllPass is_uri_byte target
uri_of_target target = All-weaker (λ b. is_target_byte b ≡ true) (λ b. is_uri_byte b ≡ true) (λ b h. (target_is_uri b h).0) target

not_empty : (target : List ℕ) → get_or target 0 0 ≡ 47 → 0 < length target
not_empty [] e = absurd (omega arith)
not_empty (b ∷ bs) e = omega arith

-- a strict head is a head of httparse's grammar
pub spelled_reads : (region : List ℕ) (h : HeadParts) → SpellsHead region h → ReadsRequest region (as_request h) []
spelled_reads region h s = (
  record {
    method = s.method;
    target = (not_empty h.target s.target.0, uri_of_target h.target s.target.1);
    target_text = IsUtf8-from_ascii h.target (target_ascii h.target s.target.1);
    minor = omega arith;
    fields = All-map IsField field_of h.lines
        (All-weaker IsFieldLine (λ l. IsField (field_of l)) (λ l x. record { name = x.0; raw = x.1 }) h.lines s.lines);
  },
  s.text ∙ sym (request_text h) ∙ sym (append-nil (print_request (as_request h))),
)

-- in which each LF follows a CR
pub spelled_pairs : (region : List ℕ) (h : HeadParts) → SpellsHead region h → lf_follows_cr 0 region ≡ true
spelled_pairs region h s =
    let fields = map field_of h.lines in
    let rest = print_end crlf ++ [] in
    let section : (q : ℕ) → lf_follows_cr q (flat_map print_field fields ++ rest) ≡ true = lines_pass h.lines rest s.lines (λ q. refl) in
    let version : (q : ℕ) → lf_follows_cr q (32 ∷ (print_version 1 ++ (print_end crlf ++ (flat_map print_field fields ++ rest)))) ≡ true = λ q. section 10 in
    let target : (q : ℕ) → lf_follows_cr q (32 ∷ (h.target ++ 32 ∷ (print_version 1 ++ (print_end crlf ++ (flat_map print_field fields ++ rest))))) ≡ true =
    λ q. lf_passes h.target _ 32 (no_breaks is_uri_byte target_no_break h.target (uri_of_target h.target s.target.1)) version in
    ap (lf_follows_cr 0) (spelled_text region h s) ∙ lf_passes h.method _ 0 (no_breaks is_token_byte token_no_break h.method s.method.1) target

first_of_token : (bytes rest : List ℕ) → IsToken bytes → is_no_line_break (get_or (bytes ++ rest) 0 0) ≡ true
first_of_token [] rest t = absurd (omega (arith, t.0))
first_of_token (b ∷ bs) rest t = let apart = token_no_break b (All-head (λ b. is_token_byte b ≡ true) b bs t.1) in no_break b apart
  where
    no_break : (b : ℕ) → (b ≢ 13) × (b ≢ 10) → is_no_line_break b ≡ true
    no_break b apart = and_from _ _ (not_from_false _ (ne_eqb b 13 apart.0)) (not_from_false _ (ne_eqb b 10 apart.1))

pub spelled_first : (region : List ℕ) (h : HeadParts) → SpellsHead region h → is_no_line_break (get_or region 0 0) ≡ true
spelled_first region h s = ap (λ r. is_no_line_break (get_or r 0 0)) (spelled_text region h s) ∙ first_of_token h.method _ s.method

-- ---- how many fields

line_ends_skip : (xs ys : List ℕ) → line_ends ys ≤ line_ends (xs ++ ys)
line_ends_skip [] ys = omega arith
line_ends_skip (x ∷ xs) ys = omega (arith, line_ends_skip xs ys)

lines_count : (ls : List FieldLine) (rest : List ℕ) → length ls + line_ends rest ≤ line_ends (flat_map print_field (map field_of ls) ++ rest)
lines_count [] rest = omega arith
lines_count (l ∷ ls) rest = grind (arith, lines_count ls, line_ends_skip, append_assoc, cons-append)

pub few_lines : (region : List ℕ) (h : HeadParts) → SpellsHead region h → HasFewFields region → length (map field_of h.lines) ≤ limits.fields
few_lines region h s room =
    let fields = flat_map print_field (map field_of h.lines) in
    let count = lines_count h.lines (13 ∷ 10 ∷ []) in
    let front = h.method ++ 32 ∷ (h.target ++ 32 ∷ print_version 1) in
    let skip = line_ends_skip front (13 ∷ 10 ∷ (fields ++ 13 ∷ 10 ∷ [])) in
    let regroup : front ++ 13 ∷ 10 ∷ (fields ++ 13 ∷ 10 ∷ []) ≡ nested h.method h.target crlf (map field_of h.lines) crlf = simp (append_assoc, cons-append) in
    omega (arith, count, skip, ap line_ends regroup, ap line_ends (spelled_text region h s), length-map h.lines field_of, room)

-- ---- from httparse's head to the strict one

lf_skips : (xs ys : List ℕ) (p : ℕ) → NoBreaks xs → p ≢ 13 → lf_follows_cr p (xs ++ ys) ≡ true → (q : ℕ) × (q ≢ 13) × (lf_follows_cr q ys ≡ true)
lf_skips [] ys p plain apart h = (p, apart, h)
lf_skips (x ∷ xs) ys p plain apart h =
    let P : ℕ → Type 0 = λ b. (b ≢ 13) × (b ≢ 10) in
    lf_skips xs ys x (All-tail P x xs plain) (All-head P x xs plain).0 (and_parts _ _ h).1

end_is : (e : LineEnd) (ys : List ℕ) (p : ℕ) → p ≢ 13 → lf_follows_cr p (print_end e ++ ys) ≡ true → (e ≡ crlf) × (lf_follows_cr 10 ys ≡ true)
end_is crlf ys p apart h = (refl, h)
end_is lf ys p apart h = absurd (apart (eqb-true p 13 (and_parts _ _ h).0))

ends_are : (fs : List Field) (last : LineEnd) (p : ℕ) → p ≢ 13 → All IsField fs → lf_follows_cr p (flat_map print_field fs ++ (print_end last ++ [])) ≡ true
    → (map field_of (map line_of fs) ≡ fs) × (last ≡ crlf)
ends_are [] last p apart fine h = (refl, (end_is last [] p apart h).0)
ends_are (f ∷ fs) last p apart fine h =
    let here = All-head IsField f fs fine in
    let tail = flat_map print_field fs in
    let whole = sym (ap (lf_follows_cr p) (line_regroup f.name f.raw (print_end f.end) tail (print_end last ++ []))) ∙ h in
    let name = lf_skips f.name _ p (no_breaks is_token_byte token_no_break f.name here.name.1) apart whole in
    let value = lf_skips f.raw _ 58 (no_breaks is_value_byte value_no_break f.raw here.raw) (λ e. omega arith) name.2 in
    let end = end_is f.end _ value.0 value.1 value.2 in
    let later = ends_are fs last 10 (λ e. omega arith) (All-tail IsField f fs fine) end.1 in
    let same : field_of (line_of f) ≡ f = ap (λ (e : LineEnd). record { name = f.name; raw = f.raw; end = e }) (sym end.0) in
    (λ i. same i ∷ later.0 i, later.1)

no_blank : (es : List LineEnd) (ys : List ℕ) → is_no_line_break (get_or (print_blank es ++ ys) 0 0) ≡ true → es ≡ []
no_blank [] ys h = refl
no_blank (crlf ∷ es) ys h = absurd (false≢true h)
no_blank (lf ∷ es) ys h = absurd (false≢true h)

-- the strict head that httparse read
pub strict_from : (region : List ℕ) (r : RequestHead) → ReadsRequest region r [] → is_no_line_break (get_or region 0 0) ≡ true
    → lf_follows_cr 0 region ≡ true → r.minor ≡ 1 → as_request (parts_of r) ≡ r
strict_from region r reads first pairs version =
    let text = reads.1 ∙ print_request-append r [] in
    let blank = no_blank r.blank _ (sym (ap (λ t. is_no_line_break (get_or t 0 0)) text) ∙ first) in
    let lines = flat_map print_field r.fields in
    let after = print_end r.line_end ++ (print_section r.fields r.last ++ []) in
    let plain : region ≡ nested r.method r.target r.line_end r.fields r.last =
    text
    ∙ ap (λ (b : List LineEnd). print_blank b ++ (r.method ++ 32 ∷ (r.target ++ 32 ∷ (print_version r.minor ++ after)))) blank
    ∙ ap (λ (m : ℕ). r.method ++ 32 ∷ (r.target ++ 32 ∷ (print_version m ++ after))) version
    ∙ ap (λ (t : List ℕ). r.method ++ 32 ∷ (r.target ++ 32 ∷ (print_version 1 ++ (print_end r.line_end ++ t)))) (append_assoc lines (print_end r.last) [])
    in
    let method = lf_skips r.method _ 0 (no_breaks is_token_byte token_no_break r.method reads.0.method.1) (λ e. omega arith)
    (sym (ap (lf_follows_cr 0) plain) ∙ pairs) in
    let target = lf_skips r.target _ 32 (no_breaks is_uri_byte target_no_break r.target reads.0.target.1) (λ e. omega arith) method.2 in
    let end = end_is r.line_end _ 49 (λ e. omega arith) target.2 in
    let fields = ends_are r.fields r.last 10 (λ e. omega arith) reads.0.fields end.1 in
    λ i. record {
      blank = sym blank i;
      method = r.method;
      target = r.target;
      minor = sym version i;
      line_end = sym end.0 i;
      fields = fields.0 i;
      last = sym fields.1 i;
    }

-- what `parse_head` hands out
pub head_at : (region : List ℕ) (headers : List HeaderSpan) (r : RequestSpans) → Spans.IsRequestWithin region headers r → Spans.IsRequestOf region headers r
    → HasFewFields region → is_no_line_break (get_or region 0 0) ≡ true → lf_follows_cr 0 region ≡ true → IsStrict region r
    → IsHeadAt region (record { method = r.method; target = r.path; fields = headers; field_count = r.headers })
head_at region headers r within of room first pairs strict =
    let h = of.0 in
    let at = of.1 in
    let none : drop r.len region ≡ [] = drop_all r.len region (omega (arith, strict.len)) in
    let reads : ReadsRequest region h [] = subst (λ (rest : List ℕ). ReadsRequest region h rest) none at.reads in
    let same = strict_from region h reads first pairs (sym at.version ∙ strict.version) in
    let parts = parts_of h in
    let fields : All IsFieldLine parts.lines =
    All-map IsFieldLine line_of h.fields
    (All-weaker IsField (λ f. IsFieldLine (line_of f)) (λ f x. (x.name, x.raw)) h.fields reads.0.fields) in
    let len : r.len ≤ length region = within.section.len_fits in
    record {
      method = (within.method.0, omega (arith, within.method.1));
      target = (within.path.0, omega (arith, within.path.1));
      count = within.section.count_fits;
      fields = subst (λ (n : ℕ). All (Spans.IsHeaderWithin n) (take r.headers headers)) strict.len within.section.headers_fit;
      head = record {
        few = room;
        head = parts;
        spells = record {
          method = reads.0.method;
          target = subst IsOriginForm at.path strict.target;
          lines = fields;
          text = reads.1 ∙ append-nil (print_request h) ∙ ap print_request (sym same) ∙ request_text parts;
        };
        method_is = at.method;
        target_is = at.path;
        fields_are = at.fields ∙ ap (map Spans.name_and_value) (sym (ap (λ (x : RequestHead). x.fields) same)) ∙ same_names parts.lines;
      };
    }

-- what httparse answers at a strict head is strict
pub strict_of : (region : List ℕ) (headers : List HeaderSpan) (r : RequestSpans) (h : HeadParts) → SpellsHead region h
    → Spans.IsRequestAt region headers r (as_request h) → IsStrict region r
strict_of region headers r h s at = grind (arith, request_text)
