-- A node that heard more, and then more again.
use Rattle.std.proofs.Common.{◌≡◌, ◌≢◌, ℕ, Bool, true, false, List, [], ◌∷◌, ◌++◌, refl, sym, ◌∙◌, ap, subst, append_assoc, append-nil}
use Rattle.std.specs.Prelude.{◌||◌, ◌↔◌}
use Rattle.std.specs.List.{AllByRecursion}
use Rattle.std.proofs.lemmas.List.{map-append}
use Rattle.scp_core.specs.scp_driver.specs.Driver.{Says}
use Rattle.scp_core.specs.declared.event.Event.{Event}
use Rattle.scp_core.specs.declared.event.Reply.{Reply}
use Rattle.scp_core.specs.declared.event.Reply.TheVariants as reply
use Rattle.scp_core.specs.History.{Exchange}
use Rattle.scp_core.specs.Node.{NodeView, Step}
use Rattle.scp_core.specs.Theorem.{LedgerTheorem}
use Rattle.scp_turn.specs.Watch.{Noting, Watched}
use Rattle.scp_turn.specs.Turn.{Does, Goes, IsStill, IsStillReply, events_of}
use Rattle.scp_turn.specs.inside.Acting.{Acts}

-- ---- steps, one after the other

module _ {D : Type 0} (says : Says D) where
  does_on : (a b c : NodeView D) (x y : List Exchange) → Does says a x b → Does says b y c → Does says a (x ++ y) c
  does_on a b c [] y p q = subst (λ (v : NodeView D). Does says v y c) p q
  does_on a b c (e ∷ x) y p q = (p.0, p.1, does_on p.0 b c x y p.2 q)

  pub watched_on : {W : Type 0} (Note : Noting D W) (number : ℕ) (w v z : W) (a b c : NodeView D) (x y : List Exchange) → Watched says Note number w a x b v → Watched says Note number v b y c z → Watched says Note number w a (x ++ y) c z
  watched_on Note number w v z a b c [] y p q = subst (λ u. Watched says Note number u a y c z) p.1 (subst (λ (n : NodeView D). Watched says Note number v n y c z) p.0 q)
  watched_on Note number w v z a b c (e ∷ x) y p q = (p.0, p.1, p.2, p.3, watched_on Note number p.1 v z p.0 b c x y p.4 q)

  pub goes_nothing : (a : NodeView D) (Is : NodeView D → List Exchange → NodeView D → Type 0) → Is a [] a → Goes says a a Is
  goes_nothing a Is is = record { heard = []; is = is; does = refl; theorem = λ past h. subst (λ (p : List Exchange). LedgerTheorem says p a) (sym (append-nil past)) h }

  pub goes_as : (a b : NodeView D) (P Q : NodeView D → List Exchange → NodeView D → Type 0) → ((heard : List Exchange) → Does says a heard b → P a heard b → Q a heard b) → Goes says a b P → Goes says a b Q
  goes_as a b P Q f g = record { heard = g.heard; is = f g.heard g.does g.is; does = g.does; theorem = g.theorem }

  pub goes_then : (a b c : NodeView D) (P Q R : NodeView D → List Exchange → NodeView D → Type 0) → ((x y : List Exchange) → Does says a x b → Does says b y c → P a x b → Q b y c → R a (x ++ y) c) → Goes says a b P → Goes says b c Q → Goes says a c R
  goes_then a b c P Q R both f s = record {
    heard = f.heard ++ s.heard;
    is = both f.heard s.heard f.does s.does f.is s.is;
    does = does_on a b c f.heard s.heard f.does s.does;
    theorem = λ past h. subst (λ (p : List Exchange). LedgerTheorem says p c) (append_assoc past f.heard s.heard) (s.theorem (past ++ f.heard) (f.theorem past h));
  }

-- ---- what moves nothing

pub all_on : {X : Type 0} (P : X → Type 0) (xs ys : List X) → AllByRecursion P xs → AllByRecursion P ys → AllByRecursion P (xs ++ ys)
all_on P [] ys p q = q
all_on P (x ∷ xs) ys p q = (p.0, all_on P xs ys p.1 q)

pub all_apart : {X : Type 0} (P : X → Type 0) (xs ys : List X) → AllByRecursion P (xs ++ ys) → AllByRecursion P xs × AllByRecursion P ys
all_apart P [] ys p = (tt, p)
all_apart P (x ∷ xs) ys p = let rest = all_apart P xs ys p.1 in ((p.0, rest.0), rest.1)

or_first : (a b r : Bool) → r ≡ (a || b) → r ≡ false → a ≡ false
or_first true b r e h = sym e ∙ h
or_first false b r e h = refl

or_second : (a b r : Bool) → r ≡ (a || b) → r ≡ false → b ≡ false
or_second true b r e h = absurd cc
or_second false b r e h = sym e ∙ h

or_neither : (a b r : Bool) → r ≡ (a || b) → a ≡ false → b ≡ false → r ≡ false
or_neither a b r e p q = cc (e, p, q)

-- a reply by which nothing moved, and nothing was sent
pub still_else : (r : Reply) → r ≢ reply.Moved → ((bytes : List ℕ) → r ≢ reply.Sent bytes) → IsStillReply r
still_else reply.Accepted m s = tt
still_else reply.Moved m s = absurd (m refl)
still_else (reply.Sent bytes) m s = absurd (s bytes refl)
still_else reply.Idle m s = tt
still_else reply.Blocked m s = tt
still_else reply.Full m s = tt
still_else reply.NotOpen m s = tt
still_else reply.AlreadyOpen m s = tt
still_else reply.LivesSpent m s = tt
still_else reply.NoLink m s = tt
still_else reply.Failed m s = tt
still_else reply.JournalFull m s = tt
still_else reply.NoMemory m s = tt

-- one of both moved something exactly where both together did
pub moved_or : {X : Type 0} (P : X → Type 0) (xs ys : List X) (a b r : Bool) → r ≡ (a || b) → ((a ≡ false) ↔ AllByRecursion P xs) → ((b ≡ false) ↔ AllByRecursion P ys) → (r ≡ false) ↔ AllByRecursion P (xs ++ ys)
moved_or P xs ys a b r is p q = (
  λ e. all_on P xs ys (p.0 (or_first a b r is e)) (q.0 (or_second a b r is e)),
  λ all. let parts = all_apart P xs ys all in or_neither a b r is (p.1 parts.0) (q.1 parts.1),
)

-- ---- acts

module _ {D : Type 0} (says : Says D) where
  pub acts_nothing : {W : Type 0} (Note : Noting D W) (number : ℕ) (w : W) (a : NodeView D) → Acts says Note number w a [] false a w
  acts_nothing Note number w a = goes_nothing says a (λ o heard n. (events_of heard ≡ []) × Watched says Note number w o heard n w × ((false ≡ false) ↔ IsStill heard)) (refl, (refl, refl), (λ e. tt, λ s. refl))

  pub acts_on : {W : Type 0} (Note : Noting D W) (number : ℕ) (w v z : W) (a b c : NodeView D) (xs ys : List Event) (m n r : Bool) → r ≡ (m || n) → Acts says Note number w a xs m b v → Acts says Note number v b ys n c z → Acts says Note number w a (xs ++ ys) r c z
  acts_on Note number w v z a b c xs ys m n r is f s =
      goes_then says a b c
      (λ o heard d. (events_of heard ≡ xs) × Watched says Note number w o heard d v × ((m ≡ false) ↔ IsStill heard))
      (λ o heard d. (events_of heard ≡ ys) × Watched says Note number v o heard d z × ((n ≡ false) ↔ IsStill heard))
      (λ o heard d. (events_of heard ≡ xs ++ ys) × Watched says Note number w o heard d z × ((r ≡ false) ↔ IsStill heard))
      (λ x y done next p q. (
        map-append (λ (e : Exchange). e.0) x y ∙ ap (λ (l : List Event). l ++ events_of y) p.0 ∙ ap (λ (l : List Event). xs ++ l) q.0,
        watched_on says Note number w v z a b c x y p.1 q.1,
        moved_or (λ (e : Exchange). IsStillReply e.1) x y m n r is p.2 q.2,
      )) f s

  -- one step
  pub acts_one : {W : Type 0} (Note : Noting D W) (number : ℕ) (w z : W) (a b : NodeView D) (e : Event) (r : Reply) (moved : Bool) → Step says a e r b → ((past : List Exchange) → LedgerTheorem says past a → LedgerTheorem says (past ++ (e, r) ∷ []) b) → Note w number e r a b z → ((moved ≡ false) ↔ IsStillReply r) → Acts says Note number w a (e ∷ []) moved b z
  acts_one Note number w z a b e r moved step theorem noted still = record {
    heard = (e, r) ∷ [];
    is = (refl, (b, z, step, noted, (refl, refl)), (λ calm. (still.0 calm, tt), λ all. still.1 all.0));
    does = (b, step, refl);
    theorem = theorem;
  }
