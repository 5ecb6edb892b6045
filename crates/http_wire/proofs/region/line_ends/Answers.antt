use Rattle.http_wire.proofs.Common.{◌≡◌, length, ap, ◌∙◌, arith, list_all, is_byte, places}
use Rattle.http_wire.proofs.LineLemmas.{follows, pairs_at, reads_places}
use Rattle.http_wire.proofs.region.line_ends.Goals as goal

pub loop-place-init : goal.loop-place-init
loop-place-init c =
    let bytes = c.args.bytes.now in
    let both = reads_places bytes in
    let same : c.into_iter-place-iterator.result ≡ places (is_byte 10) bytes = c.into_iter-place-iterator.ensures.into_iter_gives
    ∙ c.memchr_iter-place-items.ensures.value in
    record {
      all = omega (arith, ap (pairs_at bytes) same ∙ both.0);
      few = omega (arith, ap length c.into_iter-place-iterator.ensures.into_iter_gives, c.memchr_iter-place-items.ensures.len);
      strict =
          ap (list_all (follows bytes)) same ∙ both.1;
      next = tt;
      finite = tt;
    }
