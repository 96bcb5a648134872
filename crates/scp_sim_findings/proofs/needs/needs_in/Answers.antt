use Rattle.std.proofs.Common.{List, ℕ, Bor, ◌∙◌, ap, flat_map, map}
use Rattle.scp_sim_findings.specs.Needs.{need_text}
use Rattle.scp_sim_findings.proofs.needs.needs_in.Goals as goal

pub returns : goal.returns
returns c =
    c.in_ok-needs.ensures
    ∙ ap (λ (ls : List (Bor (List ℕ))). flat_map need_text (map (λ (line : Bor (List ℕ)). line.now) ls)) c.as_slice.ensures.value
    ∙ ap (λ (ls : List (List ℕ)). flat_map need_text ls) c.in_ok-lines.ensures
