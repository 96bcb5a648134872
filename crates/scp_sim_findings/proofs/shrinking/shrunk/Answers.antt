use Rattle.std.proofs.Common.{List, ℕ, Bor, ◌≡◌, ◌∙◌, ap, map, subst}
use Rattle.scp_script_hints.specs.scp_script.specs.Words.{lines_of}
use Rattle.scp_sim_findings.specs.declared.shrinking.Aim.{Aim}
use Rattle.scp_sim_findings.specs.inside.Reaching.{Reaches}
use Rattle.scp_sim_findings.specs.Shrunk.{IsPartOf, text_of}
use Rattle.scp_sim_findings.proofs.Aiming.{of_some, comes_of, alike_of}
use Rattle.scp_sim_findings.proofs.shrinking.shrunk.Goals as goal

pub shrunk_to-requires : goal.shrunk_to-requires
shrunk_to-requires c = record {
  reaches =
      subst (λ (t : List ℕ). Reaches c.in-Some.aim t)
      (c.as_slice-2.ensures.value ∙ c.in_ok-text.ensures ∙ ap (λ (ls : List (Bor (List ℕ))). text_of (map (λ (line : Bor (List ℕ)). line.now) ls)) c.as_slice.ensures.value)
      (of_some (λ (aim : Aim). Reaches aim c.as_slice-2.result.now) _ c.in-Some.aim c.in-Some.is c.in_ok-found.ensures.reaches);
}

pub returns-in_ok-smaller-in-Some-clause-part : goal.returns-in_ok-smaller-in-Some-clause-part
returns-in_ok-smaller-in-Some-clause-part c = subst (λ (ls : List (List ℕ)). IsPartOf ls c.in_ok-smaller-in-Some.smaller.items) c.in_ok-lines.ensures c.in_ok-smaller-in-Some.ensures.part

pub returns-in_ok-smaller-in-Some-clause-comes : goal.returns-in_ok-smaller-in-Some-clause-comes
returns-in_ok-smaller-in-Some-clause-comes c =
    comes_of c.args.finding c.args.judging.now c.in-Some.aim c.in_ok-smaller-in-Some.smaller.items
    (of_some (λ (aim : Aim). aim.finding ≡ c.args.finding) _ c.in-Some.aim c.in-Some.is c.in_ok-found.ensures.finding)
    (of_some (λ (aim : Aim). aim.judging ≡ c.args.judging.now) _ c.in-Some.aim c.in-Some.is c.in_ok-found.ensures.judging)
    c.in_ok-smaller-in-Some.ensures.reaches

pub returns-in_ok-smaller-in-Some-clause-alike : goal.returns-in_ok-smaller-in-Some-clause-alike
returns-in_ok-smaller-in-Some-clause-alike c =
    alike_of c.args.finding c.in-Some.aim (text_of (lines_of c.args.script.now)) c.in_ok-smaller-in-Some.smaller.items
    (of_some (λ (aim : Aim). aim.finding ≡ c.args.finding) _ c.in-Some.aim c.in-Some.is c.in_ok-found.ensures.finding)
    (subst (λ (t : List ℕ). Reaches c.in-Some.aim t)
    (c.as_slice-2.ensures.value ∙ c.in_ok-text.ensures ∙ ap (λ (ls : List (Bor (List ℕ))). text_of (map (λ (line : Bor (List ℕ)). line.now) ls)) c.as_slice.ensures.value ∙ ap (λ (ls : List (List ℕ)). text_of ls) c.in_ok-lines.ensures)
    (of_some (λ (aim : Aim). Reaches aim c.as_slice-2.result.now) _ c.in-Some.aim c.in-Some.is c.in_ok-found.ensures.reaches))
    c.in_ok-smaller-in-Some.ensures.reaches
