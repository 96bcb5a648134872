-- Where a statement was said, and where it was taken.
use Rattle.std.proofs.Common.{◌≡◌, ℕ, Bool, Option, nat_eq, eq-eqb, sym, ap, ◌∙◌}
use Rattle.std.specs.Prelude.{◌&&◌}
use Rattle.scp_words.specs.scp_envelope.specs.declared.statement.Statement.{Statement}
use Rattle.scp_draw_marks.specs.Lines.{are_same}

-- the same of statements that are equal
pub both_same : (one same other alike : Option Statement) (result : Bool) → result ≡ are_same one other → one ≡ same → other ≡ alike → result ≡ are_same same alike
both_same one same other alike result is first second = is ∙ ap (λ (s : Option Statement). are_same s other) first ∙ ap (λ (s : Option Statement). are_same same s) second

-- a test that comes behind another one, which is true
pub behind_equal : (one other : ℕ) (result rest : Bool) → one ≡ other → result ≡ rest → result ≡ (nat_eq one other && rest)
behind_equal one other result rest equal is = is ∙ ap (λ (b : Bool). b && rest) (sym (eq-eqb one other equal))
