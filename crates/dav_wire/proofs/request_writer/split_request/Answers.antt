use Rattle.std.proofs.Common.{◌∙◌, ◌++◌, ap, List, ℕ, length, append_assoc}
use Rattle.std.proofs.lemmas.List.{take-append-drop}
use Rattle.dav_wire.specs.Requests.{depth_line, host_line, length_lines, request_text, start_line}
use Rattle.dav_wire.proofs.request_writer.split_request.Goals as goal

pub returns-clause-whole : goal.returns-clause-whole
unfolding request_text
returns-clause-whole c =
    let body = c.body_of-body.result.now in
    let text = c.in_ok-text.text in
    let call = c.args.call.now in
    let parts = c.split_body.ensures in
    ap (λ (t : List ℕ). t ++ c.split_body.result.1.now) c.in_ok-append.ensures.ok
    ∙ append_assoc text c.split_body.result.0.now c.split_body.result.1.now
    ∙ ap (λ (t : List ℕ). text ++ t)
    ((λ i. parts.first i ++ parts.rest i) ∙ take-append-drop 65536 body)
    ∙ c.in_ok-text.ensures body
    ∙ ap (λ (b : List ℕ). start_line call
    ++ (host_line c.args.host.now ++ (depth_line call ++ (length_lines (length b) ++ b))))
    c.body_of-body.ensures
