use Rattle.rollout_desk.proofs.Common.{◌≡◌, bytes_of, piece_numbered}
use Rattle.desk_store.specs.Readable.{IsReadable}
use Rattle.desk_verify.proofs.ReadableRecords.{readable}
use Rattle.rollout_desk.proofs.LookLemmas.{fails_at, looks_at}
use Rattle.rollout_desk.proofs.look.read_piece.Goals as goal

pub returns-clause-looks : goal.returns-clause-looks
returns-clause-looks g c = looks_at _ _ (λ r found. bytes_of found ≡ piece_numbered r.artifacts c.args.number c.args.place)
    (λ b a x finds r seen. (finds.reads.finds r seen).1) _ c.look.ensures

pub returns-clause-fails : goal.returns-clause-fails
returns-clause-fails g c = fails_at _ _ IsReadable (λ b a finds. finds.fails) readable _ c.look.ensures
