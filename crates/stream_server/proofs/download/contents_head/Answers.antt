use Rattle.stream_server.proofs.Common.{ℕ, List, ◌++◌, ap, ◌∙◌, codes}
use Rattle.stream_server.proofs.ContentsLemmas.{head_text}
use Rattle.stream_server.proofs.download.contents_head.Goals as goal

pub returns : goal.returns
returns c =
    let sized = c.as_bytes.ensures.value ∙ c.format.ensures.text in
    let start = c.in_ok-head.ensures.items in
    let more = c.in_ok-extend_from_slice.ensures.items in
    c.in_ok-extend_from_slice-2.ensures.items ∙ ap (λ (t : List ℕ). t ++ codes "\r\n\r\n") (more ∙ (λ i. start i ++ sized i)) ∙ head_text c.args.size
