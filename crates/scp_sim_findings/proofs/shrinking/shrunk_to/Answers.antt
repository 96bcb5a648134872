use Rattle.std.proofs.Common.{List, ℕ, Bor, ◌∙◌, ap, map, subst, sym}
use Rattle.scp_sim_findings.specs.inside.Reaching.{Reaches}
use Rattle.scp_sim_findings.specs.Shrunk.{text_of}
use Rattle.scp_sim_findings.proofs.shrinking.shrunk_to.Goals as goal

pub returns-clause-part : goal.returns-clause-part
returns-clause-part c = record {
  lines = map (λ (line : Bor (List ℕ)). line.now) c.in_ok-left.left.items;
  smaller = c.in_ok-left.ensures.part;
  is = c.in_ok-text.ensures ∙ ap (λ (ls : List (Bor (List ℕ))). text_of (map (λ (line : Bor (List ℕ)). line.now) ls)) c.as_slice.ensures.value;
}

pub returns-clause-reaches : goal.returns-clause-reaches
returns-clause-reaches c =
    subst (λ (t : List ℕ). Reaches c.args.aim.now t)
    (sym (c.in_ok-text.ensures ∙ ap (λ (ls : List (Bor (List ℕ))). text_of (map (λ (line : Bor (List ℕ)). line.now) ls)) c.as_slice.ensures.value))
    c.in_ok-left.ensures.reaches
