-- A read of a record, by the records that the reader has left.
use Rattle.desk_files.proofs.Common.{◌≡◌, ◌<◌, ◌≤◌, ◌==◌, ◌&&◌, ℕ, zero, suc, List, [], ◌∷◌, ◌++◌, length, Bool, true, false, cond, Some, None, Bor}
use Rattle.desk_files.proofs.Common.{refl, sym, ◌∙◌, subst, arith, inl, Reader, GivesRecords, GivesNext, known, Record}
use Rattle.csv.specs.Machine.{Read, after_end, ends_at_end, ends_with, field_after, fields_after, in_field, is_byte, is_end, next_record, start_field}
use Rattle.csv.specs.Machine.{start_record, step}
use Rattle.csv.specs.Reading.{Reached, ReadRecord, Ready, default_config, reader_state, reader_trim, records_from, took_first}
use Rattle.csv.specs.declared.parser.Action.{Action}
use Rattle.csv.specs.declared.parser.Action.TheVariants as act
use Rattle.csv.specs.declared.parser.Config.{Config}
use Rattle.csv.specs.declared.parser.State.{State}
use Rattle.csv.specs.declared.parser.State.TheVariants as st
use Rattle.csv.specs.declared.parser.Terminator.{Terminator}
use Rattle.csv.specs.declared.reader.Trim.TheVariants as trim
use Rattle.csv.proofs.ReadFacts.{rows-end, rows-more}

-- a byte that ends a record leaves the machine between two
abbrev Parts : State × Action → Type 0
Parts q = is_end q.1 ≡ true → ends_at_end q.0 ≡ false

parts_if : (b : Bool) (x y : State × Action) → Parts x → Parts y → Parts (cond b x y)
parts_if b x y px py = grind arith

after_end_parts : (t : Terminator) (c : ℕ) → Parts (after_end t c, act.EndRecord)
after_end_parts t c e = grind arith

in_field_parts : (cfg : Config) (c : ℕ) → Parts (in_field cfg c)
in_field_parts cfg c =
    parts_if (c == cfg.delimiter) (st.StartField, act.EndField) _ (λ e. cc)
    (parts_if (ends_with cfg.terminator c) (after_end cfg.terminator c, act.EndRecord) (st.InField, act.Copy) (after_end_parts cfg.terminator c) (λ e. cc))

start_field_parts : (cfg : Config) (c : ℕ) → Parts (start_field cfg c)
start_field_parts cfg c = parts_if (cfg.quoting && (c == cfg.quote)) (st.InQuoted, act.Skip) (in_field cfg c) (λ e. cc) (in_field_parts cfg c)

start_record_parts : (cfg : Config) (c : ℕ) → Parts (start_record cfg c)
start_record_parts cfg c =
    parts_if (ends_with cfg.terminator c) (st.StartRecord, act.Skip) _ (λ e. cc)
    (parts_if (is_byte cfg.comment c) (st.InComment, act.Skip) (start_field cfg c) (λ e. cc) (start_field_parts cfg c))

step_parts : (cfg : Config) (s : State) (c : ℕ) → Parts (step cfg s c)
step_parts cfg st.StartRecord c = start_record_parts cfg c
step_parts cfg st.StartField c = start_field_parts cfg c
step_parts cfg st.InField c = in_field_parts cfg c
step_parts cfg st.InQuoted c =
    parts_if (cfg.quoting && (c == cfg.quote)) (st.AfterQuote, act.Skip)
    (cond (cfg.quoting && is_byte cfg.escape c) (st.InEscape, act.Skip) (st.InQuoted, act.Copy)) (λ e. cc)
    (parts_if (cfg.quoting && is_byte cfg.escape c) (st.InEscape, act.Skip) (st.InQuoted, act.Copy) (λ e. cc) (λ e. cc))
step_parts cfg st.InEscape c = λ e. cc
step_parts cfg st.AfterQuote c = parts_if (cfg.quoting && cfg.double_quote && (c == cfg.quote)) (st.InQuoted, act.Copy) (in_field cfg c) (λ e. cc)
    (in_field_parts cfg c)
step_parts cfg st.InComment c = parts_if (c == 10) (st.StartRecord, act.Skip) (st.InComment, act.Skip) (λ e. cc) (λ e. cc)
step_parts cfg st.AfterCr c = parts_if (c == 10) (st.StartRecord, act.Skip) (start_record cfg c) (λ e. cc) (start_record_parts cfg c)

-- behind a record the machine is between two, and no more bytes are left than before
abbrev Leaves : List ℕ → Read → Type 0
Leaves xs p = (ends_at_end p.1 ≡ false) × (length p.2 ≤ length xs)

at_end : (b : Bool) (r p : Read) → Leaves [] r → cond b (Some r) None ≡ Some p → Leaves [] p
at_end b r p leaves e = grind arith

longer : (c : ℕ) (xs : List ℕ) (p : Read) → Leaves xs p → Leaves (c ∷ xs) p
longer c xs p leaves = (leaves.0, omega (arith, leaves.1))

leaves_byte : (cfg : Config) (s : State) (fields : List (List ℕ)) (field : List ℕ) (c : ℕ) (rest : List ℕ) (p : Read)
    → (next_record cfg (step cfg s c).0 (fields_after (step cfg s c).1 fields field) (field_after (step cfg s c).1 c field) rest ≡ Some p → Leaves rest p)
    → next_record cfg s fields field (c ∷ rest) ≡ Some p → Leaves rest p
unfolding next_record
leaves_byte cfg s fields field c rest p later e = grind (arith, step_parts)

leaves : (cfg : Config) (s : State) (fields : List (List ℕ)) (field xs : List ℕ) (p : Read) → next_record cfg s fields field xs ≡ Some p → Leaves xs p
unfolding next_record
leaves cfg s fields field [] p e = at_end (ends_at_end s) (fields ++ (field ∷ []), st.StartRecord, []) p (refl, omega arith) e
leaves cfg s fields field (c ∷ rest) p e =
    longer c rest p (leaves_byte cfg s fields field c rest p
    (leaves cfg (step cfg s c).0 (fields_after (step cfg s c).1 fields field) (field_after (step cfg s c).1 c field) rest p) e)

-- between two records, one takes a byte at least
pub takes_bytes : (cfg : Config) (s : State) (xs : List ℕ) (p : Read) → ends_at_end s ≡ false → next_record cfg s [] [] xs ≡ Some p → (ends_at_end p.1 ≡ false)
    × (length p.2 < length xs)
unfolding next_record
takes_bytes cfg s [] p between e = cc (rw between at e)
takes_bytes cfg s (c ∷ rest) p between e =
    let h = leaves_byte cfg s [] [] c rest p (leaves cfg (step cfg s c).0 (fields_after (step cfg s c).1 [] []) (field_after (step cfg s c).1 c []) rest p) e in
    (h.0, omega (arith, h.1))

-- ---- what is left

end_left : (n : ℕ) (s : State) (xs : List ℕ) → length xs < n → next_record default_config s [] [] xs ≡ None → records_from default_config n s xs ≡ []
unfolding records_from
end_left n s xs enough none = grind arith

more_left : (n : ℕ) (s : State) (xs : List ℕ) (p : Read) → ends_at_end s ≡ false → length xs < n → next_record default_config s [] [] xs ≡ Some p
    → (m : ℕ) × (records_from default_config n s xs ≡ p.0 ∷ records_from default_config m p.1 p.2) × (length p.2 < m) × (ends_at_end p.1 ≡ false)
unfolding records_from
more_left zero s xs p between enough e = absurd (omega arith)
more_left (suc n) s xs p between enough e =
    let h = takes_bytes default_config s xs p between e in
    (n, rw e refl, omega (arith, h.1), h.0)

-- the end of the records
pub gives_end : (old new : Reader (Bor (List ℕ))) (fields : List (List ℕ)) → ReadRecord known old new false fields → (records : List Record)
    → GivesRecords old records
    → GivesNext records new false fields
gives_end old new fields read records g =
    let none : records ≡ [] = g.left
    ∙ end_left g.turns (reader_state old) g.rest g.enough (rows-end known old new fields default_config g.rest g.config g.source read) in
    subst (λ rs. GivesNext rs new false fields) (sym none) refl

-- a record, and those that are left behind it
pub gives_more : (old new : Reader (Bor (List ℕ))) (fields : List (List ℕ)) → took_first new ≡ true → ReadRecord known old new true fields
    → (records : List Record) → GivesRecords old records → GivesNext records new true fields
unfolding Reached
gives_more old new fields took read records g =
    let (z, source, (p, next, same, (state, rest))) = rows-more known old new fields default_config (reader_state old) g.rest g.rest [] g.config g.source
    (refl, refl) read in
    let (m, unrolled, enough, between) = more_left g.turns (reader_state old) g.rest p g.between g.enough next in
    let behind : GivesRecords new (records_from default_config m p.1 p.2) = record {
      trim = read.3 ∙ g.trim;
      ready = inl took;
      config = read.2 ∙ g.config;
      rest = z;
      source = source;
      between = rw (← state) between;
      turns = m;
      enough = rw (← rest) enough;
      left = rw (state, rest) refl;
    } in
    subst (λ rs. GivesNext rs new true fields) (sym (g.left ∙ unrolled)) (refl, same, behind)

-- a read, by the records that the reader had left
pub next_gives : (old new : Reader (Bor (List ℕ))) (found : Bool) (fields : List (List ℕ)) → (reader_trim old ≡ trim.None → took_first new ≡ true)
    → (reader_trim old ≡ trim.None → Ready old → ReadRecord known old new found fields)
    → (records : List Record) → GivesRecords old records → GivesNext records new found fields
next_gives old new true fields took reads records g = gives_more old new fields (took g.trim) (reads g.trim g.ready) records g
next_gives old new false fields took reads records g = gives_end old new fields (reads g.trim g.ready) records g
