-- Nodes that heard more, and then more again.
use Rattle.std.proofs.Common.{◌≡◌, ◌+◌, ℕ, suc, Bool, false, List, [], ◌∷◌, ◌++◌, length, refl, sym, ◌∙◌, subst, append_assoc, append-nil, arith}
use Rattle.std.specs.Prelude.{◌||◌, ◌↔◌}
use Rattle.scp_turn.specs.Kv.{Noting}
use Rattle.scp_turn.specs.Turn.{IsStillReply}
use Rattle.scp_turn.specs.Heard.{Nodes, Heard, HaveHeard, Then, InOrder, Noted, With}
use Rattle.scp_turn.specs.Rounds.{IsStill}
use Rattle.scp_turn.specs.Network.{Hear}
use Rattle.scp_turn.specs.inside.Carrying.{Acts}
use Rattle.scp_turn.proofs.Going as going

-- ---- nothing, and one after the other

pub hear_nothing : (nodes : Nodes) (Is : Nodes → List Heard → Nodes → Type 0) → Is nodes [] nodes → Hear nodes nodes Is
hear_nothing nodes Is is = record { heard = []; is = is; count = refl; have = λ past h. subst (λ (p : List Heard). HaveHeard p nodes) (sym (append-nil past)) h }

pub hear_as : (a b : Nodes) (P Q : Nodes → List Heard → Nodes → Type 0) → ((heard : List Heard) → P a heard b → Q a heard b) → Hear a b P → Hear a b Q
hear_as a b P Q f h = record { heard = h.heard; is = f h.heard h.is; count = h.count; have = h.have }

pub hear_then : (a b c : Nodes) (P Q R : Nodes → List Heard → Nodes → Type 0) → ((x y : List Heard) → P a x b → Q b y c → R a (x ++ y) c) → Hear a b P → Hear b c Q → Hear a c R
hear_then a b c P Q R both f s = record {
  heard = f.heard ++ s.heard;
  is = both f.heard s.heard f.is s.is;
  count = s.count ∙ f.count;
  have = λ past h. subst (λ (p : List Heard). HaveHeard p c) (append_assoc past f.heard s.heard) (s.have (past ++ f.heard) (f.have past h));
}

-- ---- what moves nothing

-- one of both moved something exactly where both together did
pub moved_or : (x y : List Heard) (a b r : Bool) → r ≡ (a || b) → ((a ≡ false) ↔ IsStill x) → ((b ≡ false) ↔ IsStill y) → (r ≡ false) ↔ IsStill (x ++ y)
moved_or x y a b r is p q = going.moved_or (λ (h : Heard). IsStillReply h.reply) x y a b r is p q

-- ---- what was noted

pub noted_on : {W : Type 0} (Note : Noting W) (w v z : W) (a b c : Nodes) (x y : List Heard) → Noted Note w v a x b → Noted Note v z b y c → Noted Note w z a (x ++ y) c
noted_on Note w v z a b c [] y p q = subst (λ u. Noted Note u z a y c) p.1 (subst (λ (n : Nodes). Noted Note v z n y c) p.0 q)
noted_on Note w v z a b c (h ∷ x) y p q = (p.0, p.1, p.2, p.3, noted_on Note p.1 v z p.0 b c x y p.4 q)

-- ---- acts

-- what acts do, and whether they moved something
abbrev pub Did : (Nodes → List Heard → Nodes → Type 0) → Bool → Nodes → List Heard → Nodes → Type 0
Did Is moved a heard b = Is a heard b × ((moved ≡ false) ↔ IsStill heard)

pub acts_nothing : {W : Type 0} (Note : Noting W) (w : W) (nodes : Nodes) (Is : Nodes → List Heard → Nodes → Type 0) → Is nodes [] nodes → Acts (Noted Note w w) nodes nodes Is false
acts_nothing Note w nodes Is is = hear_nothing nodes (With (Noted Note w w) (Did Is false)) ((is, (λ e. tt, λ s. refl)), (refl, refl))

pub acts_as : (Also : Nodes → List Heard → Nodes → Type 0) (a b : Nodes) (P Q : Nodes → List Heard → Nodes → Type 0) (moved : Bool) → ((heard : List Heard) → P a heard b → Q a heard b) → Acts Also a b P moved → Acts Also a b Q moved
acts_as Also a b P Q moved f h = hear_as a b (With Also (Did P moved)) (With Also (Did Q moved)) (λ heard p. ((f heard p.0.0, p.0.1), p.1)) h

pub acts_on : {W : Type 0} (Note : Noting W) (w v z : W) (a b c : Nodes) (P Q R : Nodes → List Heard → Nodes → Type 0) (m n r : Bool) → r ≡ (m || n) → ((x y : List Heard) → P a x b → Q b y c → R a (x ++ y) c) → Acts (Noted Note w v) a b P m → Acts (Noted Note v z) b c Q n → Acts (Noted Note w z) a c R r
acts_on Note w v z a b c P Q R m n r is both f s =
    hear_then a b c (With (Noted Note w v) (Did P m)) (With (Noted Note v z) (Did Q n)) (With (Noted Note w z) (Did R r))
    (λ x y p q. ((both x y p.0.0 q.0.0, moved_or x y m n r is p.0.1 q.0.1), noted_on Note w v z a b c x y p.1 q.1)) f s

pub both_then : (P Q : Nodes → List Heard → Nodes → Type 0) (a b c : Nodes) (x y : List Heard) → P a x b → Q b y c → Then P Q a (x ++ y) c
both_then P Q a b c x y p q = record { mid = b; first = x; rest = y; split = refl; one = p; two = q }

pub acts_then : {W : Type 0} (Note : Noting W) (w v z : W) (a b c : Nodes) (P Q : Nodes → List Heard → Nodes → Type 0) (m n r : Bool) → r ≡ (m || n) → Acts (Noted Note w v) a b P m → Acts (Noted Note v z) b c Q n → Acts (Noted Note w z) a c (Then P Q) r
acts_then Note w v z a b c P Q m n r is f s = acts_on Note w v z a b c P Q (Then P Q) m n r is (both_then P Q a b c) f s

-- the next of several in order
pub acts_next : {W : Type 0} (Note : Noting W) (w v z : W) (a b c : Nodes) (Is : ℕ → Nodes → List Heard → Nodes → Type 0) (k : ℕ) (m n r : Bool) → r ≡ (m || n) → Acts (Noted Note w v) a b (InOrder Is k) m → Acts (Noted Note v z) b c (Is (k + 1)) n → Acts (Noted Note w z) a c (InOrder Is (k + 1)) r
acts_next Note w v z a b c Is k m n r is f s =
    let e : k + 1 ≡ suc k = omega arith in
    subst (λ (j : ℕ). Acts (Noted Note w z) a c (InOrder Is j) r) (sym e) (acts_then Note w v z a b c (InOrder Is k) (Is (suc k)) m n r is f (subst (λ (j : ℕ). Acts (Noted Note v z) b c (Is j) n) e s))
