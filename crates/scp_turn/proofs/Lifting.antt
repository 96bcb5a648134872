-- What one node of several heard is heard by them all.
use Rattle.std.proofs.Common.{◌≡◌, ◌≢◌, ◌<◌, ◌+◌, ℕ, zero, suc, Bool, true, false, List, [], ◌∷◌, ◌++◌, Some, map, length, get_or, nat_eq, refl, sym, ◌∙◌, ap, subst, append-nil, arith, ⊎_elim}
use Rattle.std.specs.Prelude.{slice_get, slice_set, ◌↔◌, if◌then◌else◌}
use Rattle.std.specs.List.{AllByRecursion}
use Rattle.std.proofs.lemmas.Bool.{cases_eq}
use Rattle.std.proofs.lemmas.Bool.Decides.{nat_tests}
use Rattle.std.proofs.lemmas.Grind.{flat_map-append}
use Rattle.std.proofs.lemmas.Option.{get_or_from_slice_get, slice_get_within}
use Rattle.std.proofs.lemmas.List.{length-set, get_or-set_same, get_or-set_other}
use Rattle.scp_core.specs.declared.event.Event.{Event}
use Rattle.scp_core.specs.declared.event.Reply.{Reply}
use Rattle.scp_core.specs.History.{Exchange}
use Rattle.scp_core.specs.Kv.{NodeView, Step, LedgerTheorem}
use Rattle.scp_turn.specs.Kv.{Noting, Watched, Goes}
use Rattle.scp_turn.specs.Turn.{IsStillReply, events_of, stage_events}
use Rattle.scp_turn.specs.Turn.{IsStill as IsStillAlone}
use Rattle.scp_turn.specs.Heard.{Nodes, Heard, exchange_at, past_at, HaveHeard, IsHeard, Noted}
use Rattle.scp_turn.specs.Rounds.{HearsAll, IsStill}
use Rattle.scp_turn.specs.Network.{IsAnswered}
use Rattle.scp_turn.specs.inside.Carrying.{Acts}

-- ---- a place of a list

set_here : {X : Type 0} (xs : List X) (k : ℕ) (x y : X) → slice_get xs k ≡ Some x → slice_get (slice_set xs k y) k ≡ Some y
set_here [] k x y e = absurd cc
set_here (z ∷ xs) zero x y e = refl
set_here (z ∷ xs) (suc k) x y e = set_here xs k x y e

set_same : {X : Type 0} (xs : List X) (k : ℕ) (x : X) → slice_get xs k ≡ Some x → slice_set xs k x ≡ xs
set_same [] k x e = refl
set_same (y ∷ ys) zero x e = cc
set_same (y ∷ ys) (suc k) x e = ap (λ zs. y ∷ zs) (set_same ys k x e)

set_twice : {X : Type 0} (xs : List X) (k : ℕ) (x y : X) → slice_set (slice_set xs k x) k y ≡ slice_set xs k y
set_twice [] k x y = refl
set_twice (z ∷ xs) zero x y = refl
set_twice (z ∷ xs) (suc k) x y = ap (λ zs. z ∷ zs) (set_twice xs k x y)

-- ---- what was heard, with the number of its node

abbrev pub heard_of : ℕ → Exchange → Heard
heard_of number x = record { node = number; event = x.0; reply = x.1 }

abbrev pub heard_at : ℕ → List Exchange → List Heard
heard_at number [] = []
heard_at number (x ∷ xs) = heard_of number x ∷ heard_at number xs

here : (k : ℕ) (x : Exchange) → exchange_at (k + 1) (heard_of (k + 1) x) ≡ x ∷ []
here k x = let same : nat_eq (k + 1) (k + 1) ≡ true = grind (arith, nat_tests) in ap (λ (b : Bool). if b then x ∷ [] else []) same

elsewhere : (k i : ℕ) (x : Exchange) → i ≢ k → exchange_at (i + 1) (heard_of (k + 1) x) ≡ []
elsewhere k i x apart = let other : nat_eq (k + 1) (i + 1) ≡ false = grind (arith, nat_tests) in ap (λ (b : Bool). if b then x ∷ [] else []) other

all_here : (k : ℕ) (xs : List Exchange) → past_at (k + 1) (heard_at (k + 1) xs) ≡ xs
all_here k [] = refl
all_here k (x ∷ xs) = ap (λ (l : List Exchange). l ++ past_at (k + 1) (heard_at (k + 1) xs)) (here k x) ∙ ap (λ (l : List Exchange). x ∷ l) (all_here k xs)

none_elsewhere : (k i : ℕ) (xs : List Exchange) → i ≢ k → past_at (i + 1) (heard_at (k + 1) xs) ≡ []
none_elsewhere k i [] apart = refl
none_elsewhere k i (x ∷ xs) apart = ap (λ (l : List Exchange). l ++ past_at (i + 1) (heard_at (k + 1) xs)) (elsewhere k i x apart) ∙ none_elsewhere k i xs apart

past_here : (k : ℕ) (past : List Heard) (xs : List Exchange) → past_at (k + 1) (past ++ heard_at (k + 1) xs) ≡ past_at (k + 1) past ++ xs
past_here k past xs = flat_map-append (exchange_at (k + 1)) past (heard_at (k + 1) xs) ∙ ap (λ (l : List Exchange). past_at (k + 1) past ++ l) (all_here k xs)

past_elsewhere : (k i : ℕ) (past : List Heard) (xs : List Exchange) → i ≢ k → past_at (i + 1) (past ++ heard_at (k + 1) xs) ≡ past_at (i + 1) past
past_elsewhere k i past xs apart = flat_map-append (exchange_at (i + 1)) past (heard_at (k + 1) xs) ∙ ap (λ (l : List Exchange). past_at (i + 1) past ++ l) (none_elsewhere k i xs apart) ∙ append-nil (past_at (i + 1) past)

-- the ledger theorem holds of each node still
have_more : (old : Nodes) (k : ℕ) (a b : NodeView) (xs : List Exchange) → slice_get old k ≡ Some a → ((past : List Exchange) → LedgerTheorem past a → LedgerTheorem (past ++ xs) b) → (past : List Heard) → HaveHeard past old → HaveHeard (past ++ heard_at (k + 1) xs) (slice_set old k b)
have_more old k a b xs at theorem past h = λ i d lt.
    let within : i < length old = omega (arith, length-set old k b, lt) in
    let here_too = slice_get_within old k a at in
    ⊎_elim
    (λ e. subst (λ (j : ℕ). LedgerTheorem (past_at (j + 1) (past ++ heard_at (k + 1) xs)) (get_or (slice_set old k b) j d)) (sym e)
    (subst (λ (p : List Exchange). LedgerTheorem p (get_or (slice_set old k b) k d)) (sym (past_here k past xs))
    (subst (λ (v : NodeView). LedgerTheorem (past_at (k + 1) past ++ xs) v) (sym (get_or-set_same old k b d here_too))
    (theorem (past_at (k + 1) past) (subst (λ (v : NodeView). LedgerTheorem (past_at (k + 1) past) v) (get_or_from_slice_get old k a d at) (h k d here_too))))))
    (λ apart. subst (λ (p : List Exchange). LedgerTheorem p (get_or (slice_set old k b) i d)) (sym (past_elsewhere k i past xs apart))
    (subst (λ (v : NodeView). LedgerTheorem (past_at (i + 1) past) v) (sym (get_or-set_other old k i b d apart)) (h i d within)))
    (cases_eq i k)

-- ---- what a node did is what the nodes did

record Lifted {W : Type 0} (Note : Noting W) (number : ℕ) (w : W) (old : Nodes) (xs : List Exchange) (new : Nodes) (z : W) : Type 0 where
  pub hears : HearsAll number (events_of xs) old (heard_at number xs) new
  pub noted : Noted Note w z old (heard_at number xs) new

lifted : {W : Type 0} (Note : Noting W) (k : ℕ) (xs : List Exchange) (old : Nodes) (a b : NodeView) (w z : W) → slice_get old k ≡ Some a → Watched Note (k + 1) w a xs b z → Lifted Note (k + 1) w old xs (slice_set old k b) z
lifted Note k [] old a b w z at p =
    let same : slice_set old k b ≡ old = ap (λ (v : NodeView). slice_set old k v) p.0 ∙ set_same old k a at in
    record { hears = (refl, same); noted = (same, p.1) }
lifted Note k (x ∷ xs) old a b w z at p =
    let mid = slice_set old k p.0 in
    let one : IsHeard old (heard_of (k + 1) x) mid = record { place = k; number = refl; before = a; was = at; after' = p.0; step = p.2; is = refl } in
    let rest = lifted Note k xs mid p.0 b p.1 z (set_here old k a p.0 at) p.4 in
    let twice = set_twice old k p.0 b in
    record {
      hears = record {
        mid = mid;
        first = heard_of (k + 1) x ∷ [];
        rest = heard_at (k + 1) xs;
        split = refl;
        one = (x.1, (refl, one));
        two = subst (λ (n : Nodes). HearsAll (k + 1) (events_of xs) mid (heard_at (k + 1) xs) n) twice rest.hears;
      };
      noted = (mid, p.1, one, p.3, subst (λ (n : Nodes). Noted Note p.1 z mid (heard_at (k + 1) xs) n) twice rest.noted);
    }

still_up : (number : ℕ) (xs : List Exchange) → IsStillAlone xs → IsStill (heard_at number xs)
still_up number [] s = tt
still_up number (x ∷ xs) s = (s.0, still_up number xs s.1)

still_down : (number : ℕ) (xs : List Exchange) → IsStill (heard_at number xs) → IsStillAlone xs
still_down number [] s = tt
still_down number (x ∷ xs) s = (s.0, still_down number xs s.1)

-- the stages of one of them
pub works : {W : Type 0} (Note : Noting W) (old : Nodes) (k links : ℕ) (a b : NodeView) (w z : W) (moved : Bool) → slice_get old k ≡ Some a → Goes a b (λ o heard n. (events_of heard ≡ stage_events links) × Watched Note (k + 1) w o heard n z × ((moved ≡ false) ↔ IsStillAlone heard)) → Acts (Noted Note w z) old (slice_set old k b) (HearsAll (k + 1) (stage_events links)) moved
works Note old k links a b w z moved at g =
    let up = lifted Note k g.heard old a b w z at g.is.1 in
    record {
      heard = heard_at (k + 1) g.heard;
      is = (
        (
          subst (λ (events : List Event). HearsAll (k + 1) events old (heard_at (k + 1) g.heard) (slice_set old k b)) g.is.0 up.hears,
          (λ calm. still_up (k + 1) g.heard (g.is.2.0 calm), λ still. g.is.2.1 (still_down (k + 1) g.heard still)),
        ),
        up.noted,
      );
      count = length-set old k b;
      have = have_more old k a b g.heard at g.theorem;
    }

-- one step of one of them
pub hear_one : {W : Type 0} (Note : Noting W) (old : Nodes) (k : ℕ) (a b : NodeView) (event : Event) (reply : Reply) (w z : W) → slice_get old k ≡ Some a → Step a event reply b → ((past : List Exchange) → LedgerTheorem past a → LedgerTheorem (past ++ (event, reply) ∷ []) b) → Note w (k + 1) event reply a b z → IsAnswered (Noted Note w z) old (k + 1) event reply (slice_set old k b)
hear_one Note old k a b event reply w z at step theorem noted =
    let one : IsHeard old (heard_of (k + 1) (event, reply)) (slice_set old k b) = record { place = k; number = refl; before = a; was = at; after' = b; step = step; is = refl } in
    record {
      heard = heard_of (k + 1) (event, reply) ∷ [];
      is = ((refl, one), (slice_set old k b, z, one, noted, (refl, refl)));
      count = length-set old k b;
      have = have_more old k a b ((event, reply) ∷ []) at theorem;
    }
