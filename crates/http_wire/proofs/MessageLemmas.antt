-- At the front of the bytes stands one message, one fault or neither, and more bytes leave it there.
use Rattle.http_wire.proofs.Common.{◌≡◌, ℕ, ◌+◌, ◌<◌, ◌≤◌, ◌⊎◌, List, [], ◌∷◌, ◌++◌, length, map, take, drop, refl, sym, ap, ◌∙◌, subst, arith, append_assoc}
use Rattle.http_wire.proofs.Common.{inl, inr, Result, Ok, Err, Option, Some, None, append-nil, ◌^◌, length-append, take_at, drop_at}
use Rattle.http_wire.proofs.Common.{take-append-drop, length-take-le, cond_both, ltb-false, limits}
use Rattle.http_wire.proofs.Common.{WireFault, TooLarge, BadHead, BadLength, HeadTooLarge, BadCoding, HasRegion, HasNoRegion, HasFewFields, line_ends}
use Rattle.http_wire.proofs.Common.{FieldLine, HeadParts, SpellsHead, NameAndValue, name_and_value, length_of, length_by}
use Rattle.http_wire.proofs.Common.{WireMessage, IsHeadWith, IsMessage, IsBadRegion, IsFault, IsUndecided, Begins, HasMessages, EndsAs}
use Rattle.http_wire.proofs.Common.{message_of, StandsInFront, HandsOut, End, Input, Cut, Fault}
use Rattle.httparse.proofs.GrammarLemmas.{request_unique}
use Rattle.http_wire.specs.BodyLengths.{body_length}
use Rattle.http_wire.specs.declared.message.Message.{Message}
use Rattle.http_wire.specs.Fronts.{IsUndecidedBelow, StandsFirst}
use Rattle.http_wire.specs.declared.message.NoMessage.TheVariants.{Wants}
use Rattle.http_wire.proofs.RegionLemmas.{region_unique, region_append, no_region_append}
use Rattle.http_wire.proofs.HeadLemmas.{field_of, line_of, as_request, parts_of, spelled_reads}

-- ---- one head

lines_back : (ls : List FieldLine) → map line_of (map field_of ls) ≡ ls
lines_back [] = refl
lines_back (l ∷ ls) = ap (λ t. l ∷ t) (lines_back ls)

parts_back : (h : HeadParts) → parts_of (as_request h) ≡ h
parts_back h = ap (λ (ls : List FieldLine). record { method = h.method; target = h.target; lines = ls }) (lines_back h.lines)

pub spells_unique : (region : List ℕ) (h k : HeadParts) → SpellsHead region h → SpellsHead region k → h ≡ k
spells_unique region h k s t =
    let same = (request_unique region (as_request h) (as_request k) [] [] (spelled_reads region h s) (spelled_reads region k t)).0 in
    sym (parts_back h) ∙ ap parts_of same ∙ parts_back k

pub fields_unique : (region m t n u : List ℕ) (fs gs : List NameAndValue) → IsHeadWith region m t fs → IsHeadWith region n u gs
    → (m ≡ n) × (t ≡ u) × (fs ≡ gs)
fields_unique region m t n u fs gs a b =
    let same = spells_unique region a.head b.head a.spells b.spells in (
      a.method_is ∙ ap (λ (h : HeadParts). h.method) same ∙ sym b.method_is,
      a.target_is ∙ ap (λ (h : HeadParts). h.target) same ∙ sym b.target_is,
      a.fields_are ∙ ap (λ (h : HeadParts). map name_and_value h.lines) same ∙ sym b.fields_are,
    )

-- ---- a region that is a head is at no other fault

-- the region's head, and the length of the body that it says
pub record IsGood (region method target : List ℕ) (fields : List NameAndValue) (n : ℕ) : Type 0 where
  pub head : IsHeadWith region method target fields
  pub body : body_length fields ≡ Ok n

err_is_not_ok : (region m t : List ℕ) (fs : List NameAndValue) (n : ℕ) → IsGood region m t fs n → (f : WireFault)
    → (method target : List ℕ) × (fields : List NameAndValue) × IsHeadWith region method target fields × (body_length fields ≡ Err f) → ⊥
err_is_not_ok region m t fs n good f (method, target, fields, head, err) =
    let same = (fields_unique region _ _ _ _ _ _ good.head head).2 in
    let clash : ◌≡◌ {A = Result ℕ WireFault} (Ok n) (Err f) = sym good.body ∙ ap body_length same ∙ err in cc

pub good_is_not_bad : (region m t : List ℕ) (fs : List NameAndValue) (n : ℕ) → IsGood region m t fs n → (f : WireFault) → IsBadRegion region f → ⊥
good_is_not_bad region m t fs n good HeadTooLarge bad = omega (arith, good.head.few, bad)
good_is_not_bad region m t fs n good BadHead bad = bad.1 good.head.head good.head.spells
good_is_not_bad region m t fs n good TooLarge bad = err_is_not_ok region m t fs n good TooLarge bad
good_is_not_bad region m t fs n good BadLength bad = err_is_not_ok region m t fs n good BadLength bad
good_is_not_bad region m t fs n good BadCoding bad = err_is_not_ok region m t fs n good BadCoding bad

-- ---- the length of a body, or its fault

abbrev IsBodyFault : WireFault → Type 0
IsBodyFault HeadTooLarge = ⊥
IsBodyFault BadHead = ⊥
IsBodyFault TooLarge = Unit {0}
IsBodyFault BadLength = Unit {0}
IsBodyFault BadCoding = Unit {0}

abbrev IsOfBody : Result ℕ WireFault → Type 0
IsOfBody (Ok n) = n ≤ limits.body_length
IsOfBody (Err f) = IsBodyFault f

length_of_body : (text : List ℕ) → IsOfBody (length_of text)
length_of_body text = grind (arith, cond_both, ltb-false)

by_of_body : (codings fs : List NameAndValue) → IsOfBody (length_by codings fs)
by_of_body [] [] = omega arith
by_of_body [] (f ∷ []) = length_of_body f.1
by_of_body [] (f ∷ g ∷ fs) = tt
by_of_body (coding ∷ codings) fs = tt

of_body : (fields : List NameAndValue) (r : Result ℕ WireFault) → body_length fields ≡ r → IsOfBody r
unfolding body_length
of_body fields r is = grind (arith, by_of_body)

pub body_fault : (region m t : List ℕ) (fs : List NameAndValue) (f : WireFault) → IsHeadWith region m t fs → body_length fs ≡ Err f → IsBadRegion region f
body_fault region m t fs HeadTooLarge head err = absurd (of_body fs _ err)
body_fault region m t fs BadHead head err = absurd (of_body fs _ err)
body_fault region m t fs TooLarge head err = (m, t, fs, head, err)
body_fault region m t fs BadLength head err = (m, t, fs, head, err)
body_fault region m t fs BadCoding head err = (m, t, fs, head, err)

-- ---- what stands at the front

short_body : (bytes region after m t : List ℕ) (fs : List NameAndValue) (n : ℕ) → HasRegion bytes region after → IsGood region m t fs n
    → length after < n → IsUndecided bytes
short_body bytes region after m t fs n has good short = record {
  no_message = λ r rest message.
      let same = region_unique bytes region message.region after _ has message.has in
      let head : IsHeadWith region r.method r.target r.fields = subst (λ (x : List ℕ). IsHeadWith x r.method r.target r.fields) (sym same.0) message.head in
      let fields = (fields_unique region _ _ _ _ _ _ good.head head).2 in
      let sizes : ◌≡◌ {A = Result ℕ WireFault} (Ok n) (Ok (length r.body)) = sym good.body ∙ ap body_length fields ∙ message.body in
      let size : n ≡ length r.body = cc in
      omega (arith, ap length same.1, length-append r.body rest);
  no_fault = λ f fault. elim fault [
    | inl bad ↦
        let same = region_unique bytes region bad.0 after bad.1 has bad.2 in
        good_is_not_bad region m t fs n good f (subst (λ (x : List ℕ). IsBadRegion x f) (sym same.0) bad.3)
    | inr long ↦ long.0 _ _ has
  ];
}

-- a head and its body have so many bytes
pub fits : (bytes region after m t : List ℕ) (fs : List NameAndValue) (n : ℕ) → HasRegion bytes region after → IsGood region m t fs n
    → length region + n < 2 ^ 64
fits bytes region after m t fs n has good = omega (arith, has.limit, of_body fs _ good.body)

-- until all of the body is there
pub missing_body : (bytes region after m t : List ℕ) (fs : List NameAndValue) (n : ℕ) → HasRegion bytes region after → IsGood region m t fs n
    → length after < n → StandsFirst bytes (Err (Wants (length region + n)))
missing_body bytes region after m t fs n has good short = (
  omega (arith, short, ap length has.split, length-append region after),
  λ more few. short_body (bytes ++ more) region (after ++ more) m t fs n (region_append bytes region after more has) good
      (omega (arith, few, ap length has.split, length-append bytes more, length-append region after, length-append after more)),
)

-- one more byte at least where a head may still end
pub missing_head : (bytes : List ℕ) → HasNoRegion bytes → length bytes < limits.head_length → StandsFirst bytes (Err (Wants (length bytes + 1)))
missing_head bytes none short =
    (omega arith, λ more few. subst IsUndecided (sym (append_nothing bytes more (omega (arith, few, length-append bytes more)))) undecided)
  where
    undecided : IsUndecided bytes
    undecided = record {
      no_message = λ m rest message. none _ _ message.has;
      no_fault = λ f fault. elim fault [
        | inl bad ↦ none _ _ bad.2
        | inr long ↦ omega (arith, short, long.1)
      ];
    }

    append_nothing : (a b : List ℕ) → length b ≡ 0 → a ++ b ≡ a
    append_nothing a [] e = append-nil a
    append_nothing a (x ∷ b) e = absurd (omega (arith, e))

pub undecided_yet : (wanted : ℕ) (bytes : List ℕ) → IsUndecidedBelow wanted bytes → length bytes < wanted → IsUndecided bytes
undecided_yet wanted bytes below few =
    subst IsUndecided (append-nil bytes) (below [] (omega (arith, few, ap length (append-nil bytes))))

pub whole_message : (bytes region after m t : List ℕ) (fs : List NameAndValue) (n : ℕ) → HasRegion bytes region after → IsGood region m t fs n
    → n ≤ length after → IsMessage bytes (record { method = m; target = t; fields = fs; body = take n after }) (drop n after)
whole_message bytes region after m t fs n has good long = grind (arith, take-append-drop, length-take-le)

-- ---- one reading

good_of : (bytes : List ℕ) (m : WireMessage) (rest : List ℕ) (message : IsMessage bytes m rest)
    → IsGood message.region m.method m.target m.fields (length m.body)
good_of bytes m rest message = record { head = message.head; body = message.body }

same_parts : (m n : WireMessage) → (m.method ≡ n.method) × (m.target ≡ n.target) × (m.fields ≡ n.fields) → m.body ≡ n.body → m ≡ n
same_parts m n heads body = λ i. record { method = heads.0 i; target = heads.1 i; fields = heads.2 i; body = body i }

pub message_unique : (bytes : List ℕ) (m n : WireMessage) (r q : List ℕ) → IsMessage bytes m r → IsMessage bytes n q → (m ≡ n) × (r ≡ q)
message_unique bytes m n r q a b =
    let same = region_unique bytes a.region b.region _ _ a.has b.has in
    let head : IsHeadWith a.region n.method n.target n.fields = subst (λ (x : List ℕ). IsHeadWith x n.method n.target n.fields) (sym same.0) b.head in
    let heads = fields_unique a.region _ _ _ _ _ _ a.head head in
    let sizes : ◌≡◌ {A = Result ℕ WireFault} (Ok (length m.body)) (Ok (length n.body)) = sym a.body ∙ ap body_length heads.2 ∙ b.body in
    let size : length m.body ≡ length n.body = cc in
    let body : m.body ≡ n.body = sym (take_at m.body r (length m.body) refl) ∙ ap (take (length m.body)) same.1 ∙ take_at n.body q (length m.body) (sym size) in
    let rest : r ≡ q = sym (drop_at m.body r (length m.body) refl) ∙ ap (drop (length m.body)) same.1 ∙ drop_at n.body q (length m.body) (sym size) in
    (same_parts m n heads body, rest)

pub message_is_no_fault : (bytes : List ℕ) (m : WireMessage) (rest : List ℕ) → IsMessage bytes m rest → (f : WireFault) → IsFault bytes f → ⊥
message_is_no_fault bytes m rest message f fault = elim fault [
  | inl bad ↦
      let same = region_unique bytes message.region bad.0 _ bad.1 message.has bad.2 in
      good_is_not_bad message.region _ _ _ _ (good_of bytes m rest message) f (subst (λ (x : List ℕ). IsBadRegion x f) (sym same.0) bad.3)
  | inr long ↦ long.0 _ _ message.has
]

-- ---- more bytes

pub message_append : (bytes : List ℕ) (m : WireMessage) (rest more : List ℕ) → IsMessage bytes m rest → IsMessage (bytes ++ more) m (rest ++ more)
message_append bytes m rest more message = grind (arith, append_assoc, region_append)

pub fault_append : (bytes more : List ℕ) (f : WireFault) → IsFault bytes f → IsFault (bytes ++ more) f
fault_append bytes more f fault = elim fault [
  | inl bad ↦ inl (bad.0, bad.1 ++ more, region_append bytes bad.0 bad.1 more bad.2, bad.3)
  | inr long ↦ inr (no_region_append bytes more long.1 long.0, omega (arith, long.1, length-append bytes more), long.2)
]

pub begins_append : (fed : List ℕ) (given : List WireMessage) (left more : List ℕ) → Begins fed given left → Begins (fed ++ more) given (left ++ more)
begins_append fed [] left more b = ap (λ (x : List ℕ). x ++ more) b
begins_append fed (m ∷ ms) left more b = (b.0 ++ more, message_append fed m b.0 more b.1, begins_append b.0 ms left more b.2)

-- one more message is handed out
pub begins_push : (fed : List ℕ) (given : List WireMessage) (left after : List ℕ) (m : WireMessage) → Begins fed given left → IsMessage left m after
    → Begins fed (given ++ m ∷ []) after
begins_push fed [] left after m b message = (after, subst (λ (x : List ℕ). IsMessage x m after) (sym b) message, refl)
begins_push fed (n ∷ ns) left after m b message = (b.0, b.1, begins_push b.0 ns left after m b.2 message)

-- ---- streams

-- the fault is one of the length
abbrev HasLengthFault : List ℕ → WireFault → Type 0
HasLengthFault region f = (method target : List ℕ) × (fields : List NameAndValue) × IsHeadWith region method target fields × (body_length fields ≡ Err f)

abbrev HasFormFault : List ℕ → WireFault → Type 0
HasFormFault region f = (f ≡ BadHead) × HasFewFields region × ((h : HeadParts) → SpellsHead region h → ⊥)

abbrev HasSizeFault : List ℕ → WireFault → Type 0
HasSizeFault region f = (f ≡ HeadTooLarge) × (limits.fields + 2 < line_ends region)

classes : (region : List ℕ) (f : WireFault) → IsBadRegion region f → HasSizeFault region f ⊎ (HasFormFault region f ⊎ HasLengthFault region f)
classes region f bad = grind arith

bad_unique : (region : List ℕ) (f g : WireFault) → IsBadRegion region f → IsBadRegion region g → f ≡ g
bad_unique region f g x y = elim (classes region f x) [
  | inl a ↦ grind (arith, classes region g y)
  | inr (inl a) ↦ grind (arith, classes region g y)
  | inr (inr a) ↦ elim (classes region g y) [
    | inl b ↦ grind arith
    | inr (inl b) ↦ absurd (b.2 a.3.head a.3.spells)
    | inr (inr b) ↦
        let same = (fields_unique region _ _ _ _ _ _ a.3 b.3).2 in
        let errs : ◌≡◌ {A = Result ℕ WireFault} (Err f) (Err g) = sym a.4 ∙ ap body_length same ∙ b.4 in
        cc
  ]
]

-- two faults of the same bytes are one
pub fault_unique : (bytes : List ℕ) (f g : WireFault) → IsFault bytes f → IsFault bytes g → f ≡ g
fault_unique bytes f g a b = elim a [
  | inl x ↦ elim b [
    | inl y ↦
        let same = region_unique bytes x.0 y.0 _ _ x.2 y.2 in
        bad_unique x.0 f g x.3 (subst (λ (r : List ℕ). IsBadRegion r g) (sym same.0) y.3)
    | inr y ↦ absurd (y.0 _ _ x.2)
  ]
  | inr x ↦ elim b [
    | inl y ↦ absurd (x.0 _ _ y.2)
    | inr y ↦ x.2 ∙ sym y.2
  ]
]

-- nothing begins with a message
no_message_in_nothing : (m : WireMessage) (rest : List ℕ) → IsMessage [] m rest → ⊥
no_message_in_nothing m rest message = omega (arith, message.has.size, ap length message.has.split, length-append message.region (m.body ++ rest))

no_fault_in_nothing : (f : WireFault) → IsFault [] f → ⊥
no_fault_in_nothing f fault = elim fault [
  | inl bad ↦ omega (arith, bad.2.size, ap length bad.2.split, length-append bad.0 bad.1)
  | inr long ↦ omega (arith, long.1)
]

-- where a stream ends no message begins
no_message_at_end : (rest : List ℕ) (e : End) → EndsAs rest e → (m : WireMessage) (after : List ℕ) → IsMessage rest m after → ⊥
no_message_at_end rest Input ends m after message = no_message_in_nothing m after (subst (λ (x : List ℕ). IsMessage x m after) ends message)
no_message_at_end rest Cut ends m after message = ends.1.no_message m after message
no_message_at_end rest (Fault f) ends m after message = message_is_no_fault rest m after message f ends

ends_unique : (rest : List ℕ) (e f : End) → EndsAs rest e → EndsAs rest f → e ≡ f
ends_unique rest Input Input a b = refl
ends_unique rest Input Cut a b = absurd (omega (arith, ap length a, b.0))
ends_unique rest Input (Fault g) a b = absurd (no_fault_in_nothing g (subst (λ (x : List ℕ). IsFault x g) a b))
ends_unique rest Cut Input a b = absurd (omega (arith, ap length b, a.0))
ends_unique rest Cut Cut a b = refl
ends_unique rest Cut (Fault g) a b = absurd (a.1.no_fault g b)
ends_unique rest (Fault f) Input a b = absurd (no_fault_in_nothing f (subst (λ (x : List ℕ). IsFault x f) b a))
ends_unique rest (Fault f) Cut a b = absurd (b.1.no_fault f a)
ends_unique rest (Fault f) (Fault g) a b = ap Fault (fault_unique rest f g a b)

-- A stream has one reading.
pub reads_unique : (bytes : List ℕ) (ms ns : List WireMessage) (e f : End) → HasMessages bytes ms e → HasMessages bytes ns f → (ms ≡ ns) × (e ≡ f)
reads_unique bytes [] [] e f a b = grind (arith, ends_unique)
reads_unique bytes [] (n ∷ ns) e f a b =
    absurd (no_message_at_end bytes e (subst (λ (x : List ℕ). EndsAs x e) (sym a.1) a.2) n b.1.0 b.1.1)
reads_unique bytes (m ∷ ms) [] e f a b =
    absurd (no_message_at_end bytes f (subst (λ (x : List ℕ). EndsAs x f) (sym b.1) b.2) m a.1.0 a.1.1)
reads_unique bytes (m ∷ ms) (n ∷ ns) e f a b =
    let same = message_unique bytes m n a.1.0 b.1.0 a.1.1 b.1.1 in
    let later = reads_unique a.1.0 ms ns e f (a.0, a.1.2, a.2) (b.0, subst (λ (x : List ℕ). Begins x ns b.0) (sym same.1) b.1.2, b.2) in
    (λ i. same.0 i ∷ later.0 i, later.1)

-- ---- what a call hands out

pub message_shorter : (bytes : List ℕ) (m : WireMessage) (rest : List ℕ) → IsMessage bytes m rest → length rest + 1 ≤ length bytes
message_shorter bytes m rest message = grind (arith, length-append)

same_front : (bytes left : List ℕ) → left ≡ bytes → (fed : List ℕ) (given : List WireMessage) → Begins fed given bytes → Begins fed (given ++ []) left
same_front bytes left same fed given b = grind (arith, append-nil)

pub hands_out : (bytes left : List ℕ) (r : Option (Result Message WireFault)) → StandsInFront bytes r left → HandsOut bytes r left
hands_out bytes left None a = record { answer = a; so_far = same_front bytes left a.1; progress = omega (arith, ap length a.1) }
hands_out bytes left (Some (Err f)) a = record { answer = a; so_far = same_front bytes left a.1; progress = omega (arith, ap length a.1) }
hands_out bytes left (Some (Ok m)) a = record {
  answer = a;
  so_far = λ fed given b. begins_push fed given bytes left (message_of m) b a;
  progress = omega (arith, message_shorter bytes (message_of m) left a);
}
