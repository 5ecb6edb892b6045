use Rattle.ddi_api.proofs.Common.{◌≡◌, ℕ, List, [], ◌∷◌, ◌++◌, ap, ◌∙◌, print, quoted}
use Rattle.std.proofs.lemmas.List.{append-nil}
use Rattle.json.specs.Token.{Token, string}
use Rattle.serde_json.proofs.OnLiterals.{serde_json_on_literals}
use Rattle.ddi_api.proofs.object.with_string.Goals as goal

print-string : (s : List ℕ) → print (string s ∷ []) ≡ quoted s
unfolding serde_json_on_literals
print-string s = append-nil (quoted s)

pub returns : goal.returns
returns c =
    let s = c.args.string.now in
    let old = c.args.text.items in
    let writes = c.in_ok-string.ensures in
    let before : c.string.new.self.before ≡ old = writes.room.0 ∙ c.new-writer.ensures.before in
    let tokens : c.string.new.self.tokens ≡ string s ∷ [] = writes.ok ∙ ap (λ (ts : List Token). ts ++ string s ∷ []) c.new-writer.ensures.tokens in
    c.into_inner.ensures.items ∙ ap (λ t. t ++ print c.string.new.self.tokens) before ∙ ap (λ (ts : List Token). old ++ print ts) tokens
    ∙ ap (λ t. old ++ t) (print-string s)
