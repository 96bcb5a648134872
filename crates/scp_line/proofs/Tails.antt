-- The links of a script's nodes are open, and were opened as often, as its lines say.
use Rattle.std.proofs.Common.{◌≡◌, ◌≢◌, ◌≤◌, ◌+◌, ◌-◌, ℕ, Bool, true, false, cond, List, [], ◌∷◌, ◌++◌, Option, Some, None, nat_eq, nat_lt, refl, sym, ◌∙◌, ap, arith}
use Rattle.std.specs.Prelude.{◌&&◌, slice_get, slice_set}
use Rattle.std.proofs.lemmas.Bool.{eqb-true, eqb-false}
use Rattle.std.proofs.lemmas.Bool.Decides.{nat_tests}
use Rattle.std.proofs.lemmas.List.{map-set}
use Rattle.std.proofs.lemmas.List.Sums.{fold-append}
use Rattle.scp_turn.specs.scp_wire.specs.Shape.{Tail}
use Rattle.scp_turn.specs.scp_wire.specs.declared.link.Command.{Command as Local}
use Rattle.scp_turn.specs.scp_wire.specs.declared.link.Command.TheVariants.{Propose, Round, Timer, Tick, Ask}
use Rattle.scp_turn.specs.scp_core.specs.declared.event.Event.{Event}
use Rattle.scp_turn.specs.scp_core.specs.declared.event.Event.TheVariants as event
use Rattle.scp_turn.specs.scp_core.specs.Node.{LinkView, Accepts, with_link}
use Rattle.scp_turn.specs.scp_core.specs.Kv.{NodeView}
use Rattle.scp_turn.specs.Rounds.{link_of}
use Rattle.scp_report.specs.scp_script.specs.declared.command.Command.{Command}
use Rattle.scp_report.specs.scp_script.specs.declared.command.Command.TheVariants as script
use Rattle.scp_report.specs.scp_script.specs.Script.{opens, closes, is_open, lives}
use Rattle.scp_report.specs.scp_script.specs.Nodes.{NamesNodes}
use Rattle.scp_line.specs.Play.{event_by}
use Rattle.scp_line.specs.Links.{tail_at, tails, tail_said}
use Rattle.scp_line.proofs.Places.{set_here, set_there, map_at}

-- ---- what an accepted event makes of a link's tail

abbrev pub tail_on : ℕ → Tail → Event → Tail
tail_on l t (event.Open m) = cond (nat_eq l m) (record { life = t.life + 1; is_open = true }) t
tail_on l t (event.Send m bytes) = t
tail_on l t (event.Close m) = cond (nat_eq l m) (record { life = t.life; is_open = false }) t
tail_on l t (event.Local command) = t
tail_on l t (event.ReaderTake m) = t
tail_on l t (event.ReaderPut m) = t
tail_on l t event.PendTake = t
tail_on l t event.PendPut = t
tail_on l t event.SlotTake = t
tail_on l t event.SlotPut = t
tail_on l t event.ApplyTake = t
tail_on l t (event.Drain m) = t

pub linked : (v w : NodeView) (m : ℕ) (k : LinkView) → w ≡ with_link v m k → tails w ≡ slice_set (tails v) m (tail_at k)
linked v w m k e = ap (λ (u : NodeView). tails u) e ∙ map-set tail_at v.links m k

-- one link changed
changed : (v w : NodeView) (m : ℕ) (k k2 : LinkView) → slice_get v.links m ≡ Some k → w ≡ with_link v m k2 → (f : Tail → Tail) → tail_at k2 ≡ f (tail_at k) → (l : ℕ) (t : Tail) → slice_get (tails v) l ≡ Some t → slice_get (tails w) l ≡ Some (cond (nat_eq l m) (f t) t)
changed v w m k k2 there is f gives l t at = by_test (nat_eq l m) refl
  where
    was : slice_get (tails v) m ≡ Some (tail_at k)
    was = map_at tail_at v.links m k there

    by_test : (b : Bool) → nat_eq l m ≡ b → slice_get (tails w) l ≡ Some (cond b (f t) t)
    by_test true e =
        let same : l ≡ m = eqb-true l m e in
        let mine : tail_at k ≡ t = cc (at, was, same) in
        ap (λ (ts : List Tail). slice_get ts l) (linked v w m k2 is) ∙ ap (slice_get (slice_set (tails v) m (tail_at k2))) same ∙ set_here (tails v) m (tail_at k) (tail_at k2) was ∙ ap (λ (x : Tail). Some x) (gives ∙ ap f mine)
    by_test false e = ap (λ (ts : List Tail). slice_get ts l) (linked v w m k2 is) ∙ set_there (tails v) m l (tail_at k2) (eqb-false l m e) ∙ at

either : (b : Bool) (t : Tail) → cond b t t ≡ t
either true t = refl
either false t = refl

pub accepted_tail : (v w : NodeView) (e : Event) → Accepts v e w → (l : ℕ) (t : Tail) → slice_get (tails v) l ≡ Some t → slice_get (tails w) l ≡ Some (tail_on l t e)
accepted_tail v w (event.Open m) a l t at = changed v w m a.0 _ a.1 a.2.3 (λ (s : Tail). record { life = s.life + 1; is_open = true }) refl l t at
accepted_tail v w (event.Send m bytes) a l t at = changed v w m a.0 _ a.1 a.2.2 (λ (s : Tail). s) refl l t at ∙ ap (λ (x : Tail). Some x) (either (nat_eq l m) t)
accepted_tail v w (event.Close m) a l t at = changed v w m a.0 _ a.1 a.2.2 (λ (s : Tail). record { life = s.life; is_open = false }) refl l t at
accepted_tail v w (event.Local command) a l t at = ap (λ (u : NodeView). slice_get (tails u) l) a.2 ∙ at
accepted_tail v w (event.ReaderTake m) a l t at = absurd a
accepted_tail v w (event.ReaderPut m) a l t at = absurd a
accepted_tail v w event.PendTake a l t at = absurd a
accepted_tail v w event.PendPut a l t at = absurd a
accepted_tail v w event.SlotTake a l t at = absurd a
accepted_tail v w event.SlotPut a l t at = absurd a
accepted_tail v w event.ApplyTake a l t at = absurd a
accepted_tail v w (event.Drain m) a l t at = absurd a

-- ---- what lines make of it

-- what a line's event makes of it, at the node of a number
abbrev pub tail_by : ℕ → ℕ → Tail → Option (ℕ × Event) → Tail
tail_by number l t None = t
tail_by number l t (Some offered) = cond (nat_eq offered.0 number) (tail_on l t offered.1) t

same_link : (f g to : ℕ) → 1 ≤ f → 1 ≤ g → 1 ≤ to → f ≢ to → g ≢ to → nat_eq (link_of f to) (link_of g to) ≡ nat_eq f g
same_link f g to a b t p q = by_tests (nat_lt f to) (nat_lt g to) refl refl
  where
    by_tests : (x y : Bool) → nat_lt f to ≡ x → nat_lt g to ≡ y → nat_eq (cond x (f - 1) (f - 2)) (cond y (g - 1) (g - 2)) ≡ nat_eq f g
    by_tests true true e h = grind (arith, nat_tests)
    by_tests true false e h = grind (arith, nat_tests)
    by_tests false true e h = grind (arith, nat_tests)
    by_tests false false e h = grind (arith, nat_tests)

abbrev pub opens_or : ℕ → ℕ → Bool → Command → Bool
opens_or from to before command = cond (opens from to command) true (cond (closes from to command) false before)

abbrev pub counted : ℕ → ℕ → ℕ → Command → ℕ
counted from to n command = n + cond (opens from to command) 1 0

-- two tails are the same
abbrev same_tail : Tail → Tail → Type 0
same_tail s t = s ≡ t

-- a command of a node is no event of a link
local_line : (l n : ℕ) (b : Bool) (c : Local) (here : Bool) → cond here (tail_on l (record { life = n; is_open = b }) (event.Local c)) (record { life = n; is_open = b }) ≡ record { life = n + 0; is_open = b }
local_line l n b c true = ap (λ (k : ℕ). record { life = k; is_open = b }) (omega arith)
local_line l n b c false = ap (λ (k : ℕ). record { life = k; is_open = b }) (omega arith)

one_line : (from to : ℕ) → 1 ≤ from → 1 ≤ to → from ≢ to → (n : ℕ) (b : Bool) (command : Command) → NamesNodes command → tail_by to (link_of from to) (record { life = n; is_open = b }) (event_by command) ≡ record { life = counted from to n command; is_open = opens_or from to b command }
one_line from to f t apart n b (script.Caps capacities) ok = ap (λ (k : ℕ). record { life = k; is_open = b }) (omega arith)
one_line from to f t apart n b (script.Nodes count quorum) ok = ap (λ (k : ℕ). record { life = k; is_open = b }) (omega arith)
one_line from to f t apart n b (script.Set at set) ok = ap (λ (k : ℕ). record { life = k; is_open = b }) (omega arith)
one_line from to f t apart n b (script.Open from2 to2) ok = by_test (nat_eq to2 to) refl
  where
    by_test : (here : Bool) → nat_eq to2 to ≡ here → cond here (tail_on (link_of from to) (record { life = n; is_open = b }) (event.Open (link_of from2 to2))) (record { life = n; is_open = b }) ≡ record { life = n + cond (nat_eq from from2 && nat_eq to to2) 1 0; is_open = cond (nat_eq from from2 && nat_eq to to2) true b }
    by_test true e =
        let same : to2 ≡ to = eqb-true to2 to e in
        let mine : nat_eq (link_of from to) (link_of from2 to2) ≡ nat_eq from from2 = ap (λ (k : ℕ). nat_eq (link_of from to) (link_of from2 k)) same ∙ same_link from from2 to f ok.0.0 t apart (λ z. ok.2 (z ∙ sym same)) in
        let there : nat_eq to to2 ≡ true = grind (arith, nat_tests) in
        rw (mine, there) (by_from (nat_eq from from2))
      where
        by_from : (x : Bool) → same_tail (cond x (record { life = n + 1; is_open = true }) (record { life = n; is_open = b })) (record { life = n + cond (x && true) 1 0; is_open = cond (x && true) true b })
        by_from true = refl
        by_from false = ap (λ (k : ℕ). record { life = k; is_open = b }) (omega arith)
    by_test false e =
        let other : nat_eq to to2 ≡ false = grind (arith, nat_tests) in
        rw other (by_from (nat_eq from from2))
      where
        by_from : (x : Bool) → same_tail (record { life = n; is_open = b }) (record { life = n + cond (x && false) 1 0; is_open = cond (x && false) true b })
        by_from true = ap (λ (k : ℕ). record { life = k; is_open = b }) (omega arith)
        by_from false = ap (λ (k : ℕ). record { life = k; is_open = b }) (omega arith)
one_line from to f t apart n b (script.Close from2 to2) ok = by_test (nat_eq to2 to) refl
  where
    by_test : (here : Bool) → nat_eq to2 to ≡ here → cond here (tail_on (link_of from to) (record { life = n; is_open = b }) (event.Close (link_of from2 to2))) (record { life = n; is_open = b }) ≡ record { life = n + 0; is_open = cond (nat_eq from from2 && nat_eq to to2) false b }
    by_test true e =
        let same : to2 ≡ to = eqb-true to2 to e in
        let mine : nat_eq (link_of from to) (link_of from2 to2) ≡ nat_eq from from2 = ap (λ (k : ℕ). nat_eq (link_of from to) (link_of from2 k)) same ∙ same_link from from2 to f ok.0.0 t apart (λ z. ok.2 (z ∙ sym same)) in
        let there : nat_eq to to2 ≡ true = grind (arith, nat_tests) in
        rw (mine, there) (by_from (nat_eq from from2))
      where
        by_from : (x : Bool) → same_tail (cond x (record { life = n; is_open = false }) (record { life = n; is_open = b })) (record { life = n + 0; is_open = cond (x && true) false b })
        by_from true = ap (λ (k : ℕ). record { life = k; is_open = false }) (omega arith)
        by_from false = ap (λ (k : ℕ). record { life = k; is_open = b }) (omega arith)
    by_test false e =
        let other : nat_eq to to2 ≡ false = grind (arith, nat_tests) in
        rw other (by_from (nat_eq from from2))
      where
        by_from : (x : Bool) → same_tail (record { life = n; is_open = b }) (record { life = n + 0; is_open = cond (x && false) false b })
        by_from true = ap (λ (k : ℕ). record { life = k; is_open = b }) (omega arith)
        by_from false = ap (λ (k : ℕ). record { life = k; is_open = b }) (omega arith)
one_line from to f t apart n b (script.Send from2 to2 bytes) ok = by_test (nat_eq to2 to)
  where
    by_test : (here : Bool) → cond here (tail_on (link_of from to) (record { life = n; is_open = b }) (event.Send (link_of from2 to2) bytes)) (record { life = n; is_open = b }) ≡ record { life = n + 0; is_open = b }
    by_test true = ap (λ (k : ℕ). record { life = k; is_open = b }) (omega arith)
    by_test false = ap (λ (k : ℕ). record { life = k; is_open = b }) (omega arith)
one_line from to f t apart n b (script.Propose at slot value) ok = local_line (link_of from to) n b (Propose (record { 0 = slot }) value) (nat_eq at to)
one_line from to f t apart n b (script.Round at slot) ok = local_line (link_of from to) n b (Round (record { 0 = slot })) (nat_eq at to)
one_line from to f t apart n b (script.Timer at slot) ok = local_line (link_of from to) n b (Timer (record { 0 = slot })) (nat_eq at to)
one_line from to f t apart n b (script.Tick at) ok = local_line (link_of from to) n b Tick (nat_eq at to)
one_line from to f t apart n b (script.Ask from2 to2 slot) ok = local_line (link_of from to) n b (Ask (link_of to2 from2) (record { 0 = slot })) (nat_eq from2 to)
one_line from to f t apart n b script.Settle ok = ap (λ (k : ℕ). record { life = k; is_open = b }) (omega arith)
one_line from to f t apart n b (script.Wait at things) ok = ap (λ (k : ℕ). record { life = k; is_open = b }) (omega arith)
one_line from to f t apart n b (script.Report at) ok = ap (λ (k : ℕ). record { life = k; is_open = b }) (omega arith)

pub said_more : (from to : ℕ) → 1 ≤ from → 1 ≤ to → from ≢ to → (done : List Command) (command : Command) → NamesNodes command → tail_by to (link_of from to) (tail_said from to done) (event_by command) ≡ tail_said from to (done ++ command ∷ [])
said_more from to f t apart done command ok =
    one_line from to f t apart (lives from to done) (is_open from to done) command ok
    ∙ ap (λ (k : ℕ). record { life = k; is_open = opens_or from to (is_open from to done) command }) (sym (fold-append (counted from to) 0 done (command ∷ [])))
    ∙ ap (λ (b : Bool). record { life = lives from to (done ++ command ∷ []); is_open = b }) (sym (fold-append (opens_or from to) false done (command ∷ [])))
