use Rattle.ddi_api.proofs.Common.{rules, ◌≡◌, ℕ, List, [], ◌++◌, codes, ◌∙◌, append-nil, append_assoc, quoted, action_path, offer_kind}
use Rattle.ddi_api.proofs.object.with_offer.Goals as goal

regroup : (old a b c d e : List ℕ) → old ++ a ++ b ++ c ++ d ++ e ≡ old ++ (a ++ (b ++ (c ++ (d ++ (e ++ [])))))
regroup old a b c d e = simp (append-nil, append_assoc)

pub returns : goal.returns
returns c =
    let old = c.args.text.items in
    let kind = offer_kind c.args.offer.canceling in
    let path = quoted (action_path c.args.id.now kind c.args.offer.action) in
    let written : c.extend_from_slice-4.new.self.items ≡ old ++ codes "\"" ++ kind ++ codes "\":{\"href\":" ++ path ++ codes "}" = search rules in
    written ∙ regroup old (codes "\"") kind (codes "\":{\"href\":") path (codes "}")
