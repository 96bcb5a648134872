use Rattle.std.proofs.Common.{List, ℕ, Bor, ◌∙◌, ap, map, subst}
use Rattle.scp_sim_findings.specs.inside.Reaching.{Reaches}
use Rattle.scp_sim_findings.specs.Shrunk.{text_of}
use Rattle.scp_sim_findings.proofs.shrinking.smaller.Goals as goal

pub returns-then-branch-clause-reaches : goal.returns-then-branch-clause-reaches
returns-then-branch-clause-reaches c =
    subst (λ (t : List ℕ). Reaches c.args.aim.now t)
    (c.as_slice-2.ensures.value ∙ c.in_ok-text.ensures ∙ ap (λ (ls : List (Bor (List ℕ))). text_of (map (λ (line : Bor (List ℕ)). line.now) ls)) c.as_slice.ensures.value)
    (c.in_ok-reaches.ensures c.if-branch.true)
