use Rattle.request_target.proofs.Common.{◌≡◌, ℕ, List, ◌++◌, map}
use Rattle.std.specs.Str.Lossy.{utf8_lossy}
use Rattle.form_urlencoded.specs.Form.{decode}
use Rattle.form_urlencoded.specs.Parse.{owned_pairs_left}
use Rattle.request_target.specs.Pairs.{seen, query_pairs}
use Rattle.request_target.proofs.pairs.read_pairs.Given as goal

abbrev pub invariant-loop-item : goal.invariant-loop-item
invariant-loop-item l =
    map seen l.pairs.items ++ map (λ (p : List ℕ × List ℕ). (utf8_lossy (decode p.0), utf8_lossy (decode p.1))) (owned_pairs_left l.item-iterator)
    ≡ query_pairs l.query
