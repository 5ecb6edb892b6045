-- What the attributes that a device gives come to.
use Rattle.desk_commands.proofs.Common.{◌≡◌, ◌<◌, ◌+◌, ℕ, Bool, true, false, cond, ◌||◌, ◌&&◌, not, nat_eq, List, [], ◌∷◌, ◌++◌, length, get_or, take, Option}
use Rattle.desk_commands.proofs.Common.{None, option_map, refl, sym, ap, ◌∙◌, arith, is_some, list_any, pointwise, and_parts, map-append, AddsAttribute}
use Rattle.desk_commands.proofs.Common.{SetsAttribute, are_sorted, attributed, attributes_of, in_byte_order, keys_of, with_changed, same_bytes, contains_word}
use Rattle.desk_commands.proofs.Common.{with_word, with_words, Bytes, Attribute, Credential, PutAttributes, Records, step_records, Target, with_attribute}
use Rattle.desk_commands.proofs.Common.{with_attributes, target_of, IsSorted, above_more, not_above, sorted_with_all, with_there, same_pointwise, same_refl}
use Rattle.desk_commands.proofs.Common.{same_sym, same_true, GivesAttribute, GivesAttributes, attributed_with, has_attribute, keys_after, not-true, or_parts}
use Rattle.std.proofs.lemmas.Bool.{not-false}
use Rattle.rollout_machine.specs.Verdicts.{target_keys as keys_there}
use Rattle.rollout_model.specs.Pairs.{is_same_attribute}
use Rattle.desk_records.proofs.Attributes.{attributes_sorted, keys_with}
use Rattle.desk_commands.specs.private.Attributes.{ViewsAttributes}
use Rattle.campaign_core.proofs.CheckLemmas.{first_passes}
use Rattle.campaign_core.specs.Checks.{IsAttributesView, attributes_refusal}
use Rattle.campaign_core.specs.declared.checks.targets.AttributesView.{AttributesView}
use Rattle.desk_commands.proofs.ByteOrderLemmas.{count_with}
use Rattle.desk_commands.proofs.PutLemmas.{one_more}
use Rattle.desk_commands.proofs.TagLemmas.{has_all, pointwise_is}
use Rattle.desk_commands.proofs.TargetLemmas.{change_twice, find_changed, found, keys_sorted, there, unchanged}

-- ---- keys

pub any_key : (k : Bytes) (bs : List Attribute) → list_any (λ (b : Attribute). pointwise nat_eq b.key k) bs ≡ contains_word k (keys_of bs)
any_key k [] = refl
any_key k (b ∷ bs) = λ i. (same_pointwise b.key k ∙ same_sym b.key k) i || any_key k bs i

-- a key is among those given since, or among those that were had
pub has_since : (k : Bytes) (had since : List Attribute) → contains_word k (keys_after since had)
    ≡ (list_any (λ (b : Attribute). pointwise nat_eq b.key k) since || list_any (λ (b : Attribute). pointwise nat_eq b.key k) had)
has_since k had since = has_all k (keys_of since) (keys_of had) ∙ sym (λ i. any_key k since i || any_key k had i)

keys_given : (given had : List Attribute) → keys_of (with_attributes given had) ≡ keys_after given had
keys_given [] had = refl
keys_given (a ∷ more) had = keys_given more (with_attribute a had) ∙ ap (with_words (keys_of more)) (keys_with a had)

-- ---- values

same_attribute : (b a : Attribute) → is_same_attribute b a ≡ true → b ≡ a
same_attribute b a it = grind (arith, and_parts, pointwise_is b.key a.key, pointwise_is b.value a.value)

-- an attribute is among others with another key
among_with : (a e : Attribute) (bs : List Attribute) → same_bytes a.key e.key ≡ false → has_attribute a bs ≡ true → has_attribute a (with_attribute e bs) ≡ true
among_with a e [] apart among = grind arith
among_with a e (b ∷ bs) apart among = grind (arith, same_attribute b a, same_sym a.key e.key, among_with a e bs apart)

-- it stays where its key isn't given
stays : (a : Attribute) (given had : List Attribute) → contains_word a.key (keys_of given) ≡ false → has_attribute a had ≡ true
    → has_attribute a (with_attributes given had) ≡ true
stays a [] had apart among = among
stays a (e ∷ more) had apart among = grind (arith, stays a more (with_attribute e had), or_parts, among_with)

key_among : (a : Attribute) (bs : List Attribute) → has_attribute a bs ≡ true → contains_word a.key (keys_of bs) ≡ true
key_among a [] among = grind arith
key_among a (b ∷ bs) among = grind (arith, same_attribute b a, same_refl a.key, key_among a bs)

-- an attribute that is there, among keys in byte order, changes nothing
with_same : (a : Attribute) (bs : List Attribute) → IsSorted (keys_of bs) → has_attribute a bs ≡ true → with_attribute a bs ≡ bs
with_same a [] sorted among = grind arith
with_same a (b ∷ bs) sorted among =
    let others = with_same a bs sorted.1 in
    let above = above_more a.key b.key (keys_of bs) in
    let none = not_above a.key (keys_of bs) in
    grind (arith, same_attribute b a, same_true a.key b.key, same_refl a.key, key_among a bs, not_above b.key (keys_of bs), others, above, none)

-- ---- one attribute

module _ (id : Bytes) (had since : List Attribute) (a : Attribute) (r next : Records) where
  keys_now : GivesAttribute id had since a r next → keys_of (attributes_of (target_of r id)) ≡ keys_after since had
  keys_now h = ap keys_of h.so_far ∙ keys_given since had

  pub adds_one : (has : Bool) → has ≡ contains_word a.key (keys_after since had) → has ≡ false → GivesAttribute id had since a r next
      → AddsAttribute id a r next
  adds_one has is new h = record { is_there = h.is_there; is_new = ap (contains_word a.key) (keys_now h) ∙ sym is ∙ new; next_is = h.next_is }

  pub sets_one : (has : Bool) → has ≡ contains_word a.key (keys_after since had) → has ≡ true → GivesAttribute id had since a r next → SetsAttribute id a r next
  sets_one has is old h = record { is_there = ap (contains_word a.key) (keys_now h) ∙ sym is ∙ old; next_is = h.next_is }

  pub keeps_one : (kept : Bool) → kept ≡ (not (contains_word a.key (keys_of since)) && has_attribute a had) → kept ≡ true → are_sorted r.targets ≡ true
      → GivesAttribute id had since a r next → next ≡ r
  keeps_one kept is stands sorted h = grind (arith, and_parts, stays, not-true, unchanged, with_same, keys_sorted)

-- ---- attributes one after the other

give_more : (given : List Attribute) (a : Attribute) (bs : List Attribute) → with_attributes (given ++ a ∷ []) bs ≡ with_attribute a (with_attributes given bs)
give_more [] a bs = refl
give_more (x ∷ given) a bs = give_more given a (with_attribute x bs)

pub more_attributes : (id : Bytes) (had given : List Attribute) (a : Attribute) (r next : Records) → GivesAttributes id had (given ++ a ∷ []) r next
    → (mid : Records) × GivesAttributes id had given r mid × GivesAttribute id had given a mid next
more_attributes id had given a r next h =
    let it = there (target_of r id) h.is_there in
    let now = find_changed r id (attributed_with given) (λ t. refl) ∙ ap (option_map (attributed_with given)) it.1 in (
      with_changed r id (attributed_with given),
      record { is_there = h.is_there; had_is = h.had_is; next_is = refl },
      record {
        is_there = ap is_some now;
        so_far = ap attributes_of now ∙ ap (with_attributes given) (sym (h.had_is ∙ ap attributes_of it.1));
        next_is = h.next_is
            ∙ ap (λ (f : Target → Target). with_changed r id f) (λ i. λ t. record t { attributes = give_more given a t.attributes i })
            ∙ sym (change_twice r id (attributed_with given) (λ t. refl) (attributed a));
      },
    )

-- ---- how many keys are new

last_word : (us : List Bytes) (w : Bytes) (vs : List Bytes) → with_words (us ++ w ∷ []) vs ≡ with_word w (with_words us vs)
last_word [] w vs = refl
last_word (u ∷ us) w vs = last_word us w (with_word u vs)

keys_more : (earlier : List Attribute) (a : Attribute) (had : List Attribute) → keys_after (earlier ++ a ∷ []) had ≡ with_word a.key (keys_after earlier had)
keys_more earlier a had = grind (arith, map-append, last_word)

-- so many are new once this one is counted
pub counted_key : (given had : List Attribute) (a : Attribute) (i : ℕ) → i < length given → a ≡ get_or given i a → (has : Bool)
    → has ≡ contains_word a.key (keys_after (take i given) had) → (n m : ℕ) → m ≡ cond has n (n + 1) → IsSorted (keys_of had)
    → length had + n ≡ length (keys_after (take i given) had) → length had + m ≡ length (keys_after (take (i + 1) given) had)
counted_key given had a i below is has new n m next sorted so_far =
    let before = keys_after (take i given) had in
    let more = ap (λ l. length (keys_after l had)) (one_more given a i below is) ∙ ap length (keys_more (take i given) a had) in
    let old = with_there a.key before (sorted_with_all (keys_of (take i given)) (keys_of had) sorted) in
    grind (arith, more, old, count_with a.key before, new, next, so_far)

-- ---- the device

-- a device that is known has its target
known_there : (device : Credential) (ts : List Target) → list_any (λ (x : Target). same_bytes x.id device.id && same_bytes x.digest device.digest) ts ≡ true
    → is_some (found device.id ts) ≡ true
known_there device [] is = grind arith
known_there device (t ∷ ts) is = grind (arith, known_there device ts)

-- ---- the command

keys_read : (o : Option Target) → keys_there o ≡ keys_of (attributes_of o)
keys_read o = grind arith

pub given_viewed : (known : Bool) (given had : List Attribute) (count added : ℕ) → count ≡ length had
    → (in_byte_order (keys_of had) ≡ true → length had + added ≡ length (keys_after given had))
    → ViewsAttributes known given had (record { misses_device = not known; count = count; added = added })
given_viewed known given had count added size all device r is read sorted = record {
  misses_device = ap not is;
  count_after = ap (λ n. n + added) size
      ∙ all (ap (λ bs. in_byte_order (keys_of bs)) read ∙ attributes_sorted device.id r.targets (and_parts _ _ sorted).1)
      ∙ ap (λ ks. length (with_words (keys_of given) ks)) (ap keys_of read ∙ sym (keys_read (target_of r device.id)));
}

pub gives_all : (r : Records) (device : Credential) (given had : List Attribute) → had ≡ attributes_of (target_of r device.id) → (view : AttributesView)
    → IsAttributesView view device given r → attributes_refusal view ≡ None
    → GivesAttributes device.id had given r (step_records r (PutAttributes device given))
gives_all r device given had read view is passes = grind (arith, first_passes, known_there, not-false)
