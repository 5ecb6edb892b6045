use Rattle.http_wire.proofs.Common.{◌≡◌, ℕ, ◌+◌, ◌-◌, ◌<◌, List, length, take, drop, ap, refl, ◌∙◌, subst, Some, None, Ok, arith, drop-drop}
use Rattle.http_wire.proofs.Common.{take_rest, length-drop, WireMessage, IsMessage, IsUndecided}
use Rattle.http_wire.proofs.MessageLemmas.{hands_out, undecided_yet}
use Rattle.http_wire.proofs.inbox.Inbox.next.Goals as goal

-- the bytes from a place on are what is not yet handed out
unread : (shown items value : List ℕ) (start : ℕ) → shown ≡ items → drop start items ≡ value → take (length shown - start) (drop start shown) ≡ value
unread shown items value start same view = take_rest shown start ∙ ap (drop start) same ∙ view

moved_on : (shown items value : List ℕ) (start len : ℕ) (m : WireMessage) → shown ≡ items → drop start items ≡ value
    → IsMessage (take (length shown - start) (drop start shown)) m (drop len (take (length shown - start) (drop start shown)))
    → IsMessage value m (drop (start + len) items)
moved_on shown items value start len m same view message = grind (arith, unread, drop-drop)

pub returns-then-len-at : goal.returns-then-len-at
returns-then-len-at c =
    let left = drop c.self.inside.start c.self.inside.bytes.items in
    let few : length left < c.self.inside.wanted = omega (arith, c.if-len-at.true, c.len.ensures, length-drop c.self.inside.start c.self.inside.bytes.items) in
    let undecided = subst IsUndecided c.self.view_is (undecided_yet c.self.inside.wanted left c.self.invariant.1 few) in
    ((refl, λ _. tt, hands_out _ _ None (undecided, c.self.view_is)), record { after_borrow = tt })

pub returns-in-Err-Wants : goal.returns-in-Err-Wants
returns-in-Err-Wants c =
    let first = rw c.in-Err-Wants.field-0-is at c.in-Err-Wants.ensures in
    let whole = unread c.deref.result.now c.self.inside.bytes.items c.args.self.now c.self.inside.start c.deref.ensures.value c.self.view_is in
    let undecided = subst IsUndecided whole (undecided_yet _ _ first.1 first.0) in
    ((refl, λ _. tt, hands_out _ _ None (undecided, c.self.view_is)), record { after_borrow = tt })

pub returns-in-Ok : goal.returns-in-Ok
returns-in-Ok c =
    let at = moved_on c.deref.result.now c.self.inside.bytes.items c.args.self.now c.self.inside.start c.in-Ok.len _ c.deref.ensures.value c.self.view_is
    c.in-Ok.ensures.1 in
    ((refl, λ _. tt, hands_out _ _ (Some (Ok c.in-Ok.message)) at), record { after_borrow = tt })
