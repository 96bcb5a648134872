use Rattle.std.proofs.Common.{◌≡◌, ◌++◌, List, ℕ, Bor, sym, ap, ◌∙◌, append_assoc, subst, take, drop}
use Rattle.std.specs.Prelude.{map}
use Rattle.std.proofs.lemmas.List.{take-append-drop}
use Rattle.scp_sim_findings.specs.Shrunk.{IsSmaller}
use Rattle.scp_sim_findings.proofs.Keeping.{kept, middle_out}
use Rattle.scp_sim_findings.proofs.shrinking.without.Goals as goal

pub returns : goal.returns
returns c =
    let f : Bor (List ℕ) → List ℕ = λ line. line.now in
    let front = c.split_at.result.0.now in
    let out = c.split_at-2.result.0.now in
    let back = c.split_at-2.result.1.now in
    let all : front ++ (out ++ back) ≡ c.args.lines.now = simp (c.split_at.ensures.front, c.split_at.ensures.back, c.split_at-2.ensures.front, c.split_at-2.ensures.back, take-append-drop) in
    let some : c.extend_from_slice.new.self.items ≡ front ++ (kept f out ++ back) =
    c.in_ok-extend_from_slice.ensures.items ∙ ap (λ (s : List (Bor (List ℕ))). s ++ back) (c.in_ok-add_kept.ensures ∙ ap (λ (s : List (Bor (List ℕ))). s ++ kept f out) c.in_ok-some.ensures.items) ∙ append_assoc front (kept f out) back in
    subst (λ (l : List (Bor (List ℕ))). IsSmaller (map f c.extend_from_slice.new.self.items) (map f l)) all
    (subst (λ (s : List (Bor (List ℕ))). IsSmaller (map f s) (map f (front ++ (out ++ back)))) (sym some)
    (middle_out f front out back))
