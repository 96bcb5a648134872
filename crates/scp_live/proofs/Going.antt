-- A node that heard more, and then more again.
use Rattle.std.proofs.Common.{◌≡◌, Bool, true, false, List, [], ◌∷◌, ◌++◌, refl, sym, ◌∙◌, ap, subst, append_assoc, append-nil, ℕ}
use Rattle.std.specs.Prelude.{◌||◌}
use Rattle.scp_again.specs.scp_core.specs.History.{Exchange}
use Rattle.scp_again.specs.scp_core.specs.Kv.{NodeView, LedgerTheorem}
use Rattle.scp_again.specs.scp_driver.specs.Kv.{kv_says}
use Rattle.scp_turn.specs.Kv.{Does, Goes, Noting, Watched}
use Rattle.scp_turn.specs.Episode.{finds_full, is_full_reply}
use Rattle.scp_turn.proofs.Causes.{clash, fell}

pub does_on : (a b c : NodeView) (x y : List Exchange) → Does a x b → Does b y c → Does a (x ++ y) c
does_on a b c [] y p q = subst (λ (v : NodeView). Does v y c) p q
does_on a b c (e ∷ x) y p q = (p.0, p.1, does_on p.0 b c x y p.2 q)

-- a node that heard this much more
abbrev pub Heard : NodeView → NodeView → (List Exchange → Type 0) → Type 0
Heard a b Is = Goes a b (λ old heard new. Is heard)

pub heard_nothing : (a : NodeView) (Is : List Exchange → Type 0) → Is [] → Heard a a Is
heard_nothing a Is is = record { heard = []; is = is; does = refl; theorem = λ past h. subst (λ (p : List Exchange). LedgerTheorem p a) (sym (append-nil past)) h }

pub heard_as : (a b : NodeView) (P Q : List Exchange → Type 0) → ((heard : List Exchange) → P heard → Q heard) → Heard a b P → Heard a b Q
heard_as a b P Q f g = record { heard = g.heard; is = f g.heard g.is; does = g.does; theorem = g.theorem }

pub heard_then : (a b c : NodeView) (P Q R : List Exchange → Type 0) → ((x y : List Exchange) → P x → Q y → R (x ++ y)) → Heard a b P → Heard b c Q → Heard a c R
heard_then a b c P Q R both f s = record {
  heard = f.heard ++ s.heard;
  is = both f.heard s.heard f.is s.is;
  does = does_on a b c f.heard s.heard f.does s.does;
  theorem = λ past h. subst (λ (p : List Exchange). LedgerTheorem p c) (append_assoc past f.heard s.heard) (s.theorem (past ++ f.heard) (f.theorem past h));
}

pub unsaid : (a b : NodeView) (P : List Exchange → Type 0) → Heard a b P → Heard a b (λ heard. Unit {0})
unsaid a b P g = heard_as a b P (λ heard. Unit {0}) (λ heard p. tt) g

-- a node that runs found no full journal
pub none_full : (a b : NodeView) (heard : List Exchange) → Does a heard b → b.failed ≡ false → finds_full heard ≡ true → ⊥
none_full a b heard does runs found = clash b.failed runs (fell kv_says heard a b does found)

pub heard_running : (a b : NodeView) (P : List Exchange → Type 0) → b.failed ≡ false → Heard a b P → Heard a b (λ heard. P heard × (finds_full heard ≡ true → ⊥))
heard_running a b P runs g = record { heard = g.heard; is = (g.is, λ found. none_full a b g.heard g.does runs found); does = g.does; theorem = g.theorem }

or_true : (b : Bool) → (b || true) ≡ true
or_true true = refl
or_true false = refl

-- a full journal that was found later was found
pub found_later : (x y : List Exchange) → finds_full y ≡ true → finds_full (x ++ y) ≡ true
found_later [] y e = e
found_later (step ∷ x) y e = ap (λ (b : Bool). is_full_reply step.1 || b) (found_later x y e) ∙ or_true (is_full_reply step.1)

or_before : (c d : Bool) → ((c || d) ≡ true → ⊥) → d ≡ true → ⊥
or_before c d none found = none (ap (λ (b : Bool). c || b) found ∙ or_true c)

or_behind : (c d e : Bool) → ((c || d) ≡ true → ⊥) → (c || e) ≡ true → e ≡ true
or_behind true d e none found = absurd (none refl)
or_behind false d e none found = found

-- what wasn't found at first was found later
pub found_behind : (x y : List Exchange) → (finds_full x ≡ true → ⊥) → finds_full (x ++ y) ≡ true → finds_full y ≡ true
found_behind [] y none found = found
found_behind (step ∷ x) y none found = found_behind x y (or_before (is_full_reply step.1) (finds_full x) none) (or_behind (is_full_reply step.1) (finds_full x) (finds_full (x ++ y)) none found)

pub none_found : finds_full [] ≡ true → ⊥
none_found found = let none : false ≡ true = found in cc

-- what was noted of steps, and then of more
pub watched_on : {W : Type 0} (Note : Noting W) (number : ℕ) (w v z : W) (a b c : NodeView) (x y : List Exchange) → Watched Note number w a x b v → Watched Note number v b y c z → Watched Note number w a (x ++ y) c z
watched_on {W} Note number w v z a b c [] y p q = subst (λ (m : NodeView). Watched Note number w m y c z) p.0 (subst (λ (u : W). Watched Note number u b y c z) p.1 q)
watched_on {W} Note number w v z a b c (e ∷ x) y p q = (p.0, p.1, p.2, p.3, watched_on Note number p.1 v z p.0 b c x y p.4 q)
