-- The table of artifacts agrees where records of accepted commands are held.
use Rattle.desk_verify.proofs.Common.{held_rows, place_within, has_got, Artifacts, ◌<◌, ◌^◌, ◌≡◌, ℕ, suc, ◌+◌, true, List, length, slice_get, Some, refl, sym}
use Rattle.desk_verify.proofs.HeldRows.{IsItem, item_of}
use Rattle.desk_verify.proofs.Common.{ap, subst, ◌∙◌, arith, add-one, option_to_list, Database, contains_had, is_digest, item_numbered, CommandList}
use Rattle.desk_verify.proofs.Common.{ArtifactRecord, records, IsValid, limits_hold, ArePieces, artifact_row, piece_numbered, pieces_in, HoldsRecords}
use Rattle.desk_verify.proofs.Common.{ledger_of, Pieces, HoldsTables, Tables, is_in_range, is_number_in, is_small, SaysArtifact, AgreesArtifacts, All-contains}
use Rattle.desk_verify.proofs.Common.{stored, IsWhole, KeepsRules, all_keep, all_whole, digest_is_one}
use Rattle.std.proofs.lemmas.Option.{slice_get_past}
use Rattle.desk_records.proofs.HeldArtifacts.{held_pieces}

-- its row says it
module _ (h : CommandList) (d : ℕ) {a : ArtifactRecord} (at : slice_get (records h).artifacts d ≡ Some a) where
  pub is_whole : IsWhole a
  is_whole = All-contains IsWhole (records h).artifacts a (all_whole h) (contains_had (records h).artifacts a (has_got (records h).artifacts d a at))

  pub its_digest : is_digest a.digest ≡ true
  its_digest = ap is_digest is_whole.1 ∙ digest_is_one a.contents

module _ (h : CommandList) (valid : IsValid h) (d : ℕ) {a : ArtifactRecord} (at : slice_get (records h).artifacts d ≡ Some a) where
  pub keeps_rules : KeepsRules a
  keeps_rules = All-contains KeepsRules (records h).artifacts a (all_keep h valid) (contains_had (records h).artifacts a (has_got (records h).artifacts d a at))

  pub small_size : a.size < 2 ^ 32
  small_size = omega (arith, (is_whole h d at).0, keeps_rules.few)

  pub is_artifact : SaysArtifact (artifact_row (suc d) a) (record { number = suc d; artifact = stored a })
  is_artifact = record {
    number_is = is_number_in (suc d)
        (is_in_range (suc d) (omega arith) (omega (arith, place_within (records h).artifacts d a at, (limits_hold h valid).artifacts)));
    shows = record { module_number = refl; filename = refl; size = refl; digest = refl };
    kept = rw (keeps_rules.module_number, keeps_rules.filename, is_small a.size small_size, its_digest h d at) refl;
  }

-- the pieces of the artifact at a place of the list
its_pieces : (artifacts : List ArtifactRecord) (number k : ℕ) (a : ArtifactRecord) → item_numbered artifacts number ≡ Some a
    → option_to_list (piece_numbered artifacts number (k + 1)) ≡ option_to_list (slice_get (pieces_in a.contents) k)
its_pieces artifacts number k a is = grind (arith, add-one)

pub artifacts_agree : (h : CommandList) → IsValid h → (db : Database) (t : Tables) → HoldsRecords db (records h) → HoldsTables db t → AgreesArtifacts t
artifacts_agree h valid db t held holds row among = record {
  artifact = record { number = suc it.d; artifact = stored it.one };
  is = subst (λ r. SaysArtifact r (record { number = suc it.d; artifact = stored it.one })) (sym it.is) (is_artifact h valid it.d it.got);
  whole = record {
    contents = it.one.contents;
    size = sym (is_whole h it.d it.got).0;
    digest = sym (is_whole h it.d it.got).1;
    pieces = λ k piece is. grind (arith, its_pieces (records h).artifacts (suc it.d) k it.one it.got, is, pieces (k + 1));
    end = let last = length (pieces_in it.one.contents) in
        let past = slice_get_past (pieces_in it.one.contents) last (omega arith) in
        grind (arith, its_pieces (records h).artifacts (suc it.d) last it.one it.got, past, pieces (last + 1));
  };
}
  where
    it : IsItem artifact_row (records h).artifacts row
    it = item_of artifact_row (records h).artifacts (held_rows db (ledger_of (records h)) held t holds Artifacts) row among

    pieces : (place : ℕ) → ArePieces (t Pieces) (suc it.d) place (option_to_list (piece_numbered (records h).artifacts (suc it.d) place))
    pieces place = held_pieces db (ledger_of (records h)) held t holds (suc it.d) place (omega arith)
