use Rattle.ddi_api.proofs.Common.{◌≡◌, ◌∷◌, [], ◌++◌, Some, string_bytes, sym, ap, ◌∙◌, append_assoc, Entry}
use Rattle.ddi_api.proofs.ConfigLemmas.{attribute_at, attributes_more, attributes_refused}
use Rattle.ddi_api.proofs.config_body.read_attributes.Goals as goal

pub returns-in-Err : goal.returns-in-Err
returns-in-Err c =
    let l = c.loop-key in
    let done = l.invariant.0 in
    let e : Entry = (c.in-Some.key.now, c.in-Some.value.now) in
    let left = c.next.new.self in
    let all : c.args.members.now.entries ≡ done ++ e ∷ left = l.invariant.1 ∙ ap (λ es. done ++ es) c.in-Some.ensures.steps in
    let key : c.as_str.result.now ≡ string_bytes e.0 = c.as_str.ensures.value in
    rw all (attributes_refused done left e l.attributes c.in-Err.e l.invariant.2 (rw key at c.in-Err.ensures))

pub loop-key-preserved : goal.loop-key-preserved
loop-key-preserved c =
    let l = c.loop-key in
    let done = l.invariant.0 in
    let e : Entry = (c.in-Some.key.now, c.in-Some.value.now) in
    let left = c.next.new.self in
    let all : c.args.members.now.entries ≡ done ++ e ∷ left = l.invariant.1 ∙ ap (λ es. done ++ es) c.in-Some.ensures.steps in
    let key : c.as_str.result.now ≡ string_bytes e.0 = c.as_str.ensures.value in
    let one : attribute_at e ≡ Some c.in-Ok.attribute = rw key at c.in-Ok.ensures in (
      done ++ e ∷ [],
      all ∙ sym (append_assoc done (e ∷ []) left),
      rw c.in_ok-push.ensures.ok (attributes_more done e l.attributes c.in-Ok.attribute l.invariant.2 one),
    )
