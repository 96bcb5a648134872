-- A node comes to rest: it sends nothing.
use Rattle.std.proofs.Common.{◌≡◌, ◌<◌, ◌+◌, ℕ, zero, suc, Bool, true, false, List, [], ◌∷◌, ◌++◌, refl, sym, ◌∙◌, ap, subst, arith}
use Rattle.std.specs.Prelude.{◌↔◌}
use Rattle.std.specs.List.{AllByRecursion}
use Rattle.std.proofs.lemmas.Grind.{flat_map-append}
use Rattle.scp_core.specs.scp_types.specs.declared.limits.TheConstants.{ROUND_LIMIT}
use Rattle.scp_core.specs.scp_driver.specs.Driver.{Says}
use Rattle.scp_core.specs.declared.event.Event.{Event}
use Rattle.scp_core.specs.declared.event.Event.TheVariants as event
use Rattle.scp_core.specs.declared.event.Reply.{Reply}
use Rattle.scp_core.specs.declared.event.Reply.TheVariants as reply
use Rattle.scp_core.specs.History.{Exchange}
use Rattle.scp_core.specs.Node.{NodeView}
use Rattle.scp_turn.specs.Watch.{Noting, Watched}
use Rattle.scp_turn.specs.Turn.{Goes, events_of, reader_events, stage_events, links_of, IsStill, IsTurn}
use Rattle.scp_turn.specs.Rest.{AreMovingTurns, Rests}
use Rattle.scp_turn.specs.declared.sending.Sending.{Sending}
use Rattle.scp_turn.specs.Episode.{IsOfHost, sent_by, sent_in}
use Rattle.scp_turn.proofs.Going.{goes_nothing, goes_then, all_on, watched_on}
use Rattle.scp_turn.proofs.GoingOn.{Saying}

-- no drain
abbrev pub IsNoDrain : Event → Type 0
IsNoDrain (event.Drain l) = ⊥
IsNoDrain e = Unit {0}

sends_none : (e : Event) (r : Reply) → IsNoDrain e → sent_by e r ≡ []
sends_none (event.Open l) r none = refl
sends_none (event.Send l bytes) r none = refl
sends_none (event.Close l) r none = refl
sends_none (event.Local command) r none = refl
sends_none (event.ReaderTake l) r none = refl
sends_none (event.ReaderPut l) r none = refl
sends_none event.PendTake r none = refl
sends_none event.PendPut r none = refl
sends_none event.SlotTake r none = refl
sends_none event.SlotPut r none = refl
sends_none event.ApplyTake r none = refl
sends_none (event.Drain l) r none = absurd none

host_no_drain : (e : Event) → IsOfHost e → IsNoDrain e
host_no_drain (event.Open l) h = tt
host_no_drain (event.Send l bytes) h = tt
host_no_drain (event.Close l) h = tt
host_no_drain (event.Local command) h = tt
host_no_drain (event.ReaderTake l) h = tt
host_no_drain (event.ReaderPut l) h = tt
host_no_drain event.PendTake h = tt
host_no_drain event.PendPut h = tt
host_no_drain event.SlotTake h = tt
host_no_drain event.SlotPut h = tt
host_no_drain event.ApplyTake h = tt
host_no_drain (event.Drain l) h = absurd h

-- a host's event sends nothing itself
pub host_sends_none : (e : Event) (r : Reply) → IsOfHost e → sent_by e r ≡ []
host_sends_none e r h = sends_none e r (host_no_drain e h)

all_send_none : (heard : List Exchange) → AllByRecursion IsNoDrain (events_of heard) → sent_in heard ≡ []
all_send_none [] all = refl
all_send_none (x ∷ heard) all = ap (λ (l : List Sending). l ++ sent_in heard) (sends_none x.0 x.1 all.0) ∙ all_send_none heard all.1

readers : (links : ℕ) → AllByRecursion IsNoDrain (reader_events links)
readers zero = tt
readers (suc link) = all_on IsNoDrain (reader_events link) (event.ReaderTake link ∷ event.ReaderPut link ∷ []) (readers link) (tt, (tt, tt))

stages : (links : ℕ) → AllByRecursion IsNoDrain (stage_events links)
stages links = all_on IsNoDrain (reader_events links) (event.PendTake ∷ event.PendPut ∷ event.SlotTake ∷ event.SlotPut ∷ event.ApplyTake ∷ []) (readers links) (tt, (tt, (tt, (tt, (tt, tt)))))

module _ {D : Type 0} where
  turn_sends_none : (a b : NodeView D) (heard : List Exchange) → IsTurn a heard b → sent_in heard ≡ []
  turn_sends_none a b heard t = all_send_none heard (subst (λ (es : List Event). AllByRecursion IsNoDrain es) (sym t) (stages (links_of a)))

none_and_none : (x y heard : List Exchange) → heard ≡ x ++ y → sent_in x ≡ [] → sent_in y ≡ [] → sent_in heard ≡ []
none_and_none x y heard is p q =
    ap sent_in is ∙ flat_map-append (λ (e : Exchange). sent_by e.0 e.1) x y ∙ ap (λ (l : List Sending). l ++ sent_in y) p ∙ q

module _ {D : Type 0} (says : Says D) where
  turns_send_none : (n : ℕ) (a b : NodeView D) (heard : List Exchange) → AreMovingTurns says n a heard b → sent_in heard ≡ []
  turns_send_none zero a b heard t = ap sent_in t.0
  turns_send_none (suc n) a b heard t = none_and_none t.first t.rest heard t.split (turns_send_none n a t.mid t.first t.one) (turn_sends_none t.mid b t.rest t.two.1)

  -- a node that comes to rest sends nothing
  pub rest_sends_none : (calm : Bool) (a b : NodeView D) (heard : List Exchange) → Rests says calm a heard b → sent_in heard ≡ []
  rest_sends_none true a b heard r = none_and_none r.2.first r.2.rest heard r.2.split (turns_send_none r.0 a r.2.mid r.2.first r.2.one) (turn_sends_none r.2.mid b r.2.rest r.2.two.1)
  rest_sends_none false a b heard r = turns_send_none ROUND_LIMIT a b heard r

  -- ---- turns, which a watch is shown

  -- a turn, of which it is said whether it moved something
  abbrev pub Turns : {W : Type 0} → Noting D W → W → Bool → NodeView D → NodeView D → W → Type 0
  Turns {W} Note w moved old new z = Goes says old new (λ a heard b. IsTurn a heard b × Watched says Note 1 w a heard b z × ((moved ≡ false) ↔ IsStill heard))

  -- it rested so, and a watch was shown it
  abbrev pub RestsWatched : {W : Type 0} → Noting D W → Saying D → W → NodeView D → NodeView D → W → Type 0
  RestsWatched {W} Note Is w old new z = Goes says old new (λ a heard b. Is a heard b × Watched says Note 1 w a heard b z)

  pub none_yet : {W : Type 0} (Note : Noting D W) (w : W) (a : NodeView D) → RestsWatched Note (AreMovingTurns says 0) w a a w
  none_yet Note w a = goes_nothing says a (λ o heard n. AreMovingTurns says 0 o heard n × Watched says Note 1 w o heard n w) ((refl, refl), (refl, refl))

moving : (moved : Bool) (heard : List Exchange) → moved ≡ true → ((moved ≡ false) ↔ IsStill heard) → ¬ (IsStill heard)
moving moved heard is iff = λ still. let e : true ≡ false = sym is ∙ iff.1 still in absurd cc

module _ {D : Type 0} (says : Says D) where
  pub turn_more : {W : Type 0} (Note : Noting D W) (w v z : W) (a b c : NodeView D) (k : ℕ) (moved : Bool) → moved ≡ true → RestsWatched says Note (AreMovingTurns says k) w a b v → Turns says Note v moved b c z → RestsWatched says Note (AreMovingTurns says (k + 1)) w a c z
  turn_more Note w v z a b c k moved is g t =
      let e : k + 1 ≡ suc k = omega arith in
      subst (λ (j : ℕ). RestsWatched says Note (AreMovingTurns says j) w a c z) (sym e)
      (goes_then says a b c (λ o heard n. AreMovingTurns says k o heard n × Watched says Note 1 w o heard n v) (λ o heard n. IsTurn o heard n × Watched says Note 1 v o heard n z × ((moved ≡ false) ↔ IsStill heard)) (λ o heard n. AreMovingTurns says (suc k) o heard n × Watched says Note 1 w o heard n z)
      (λ x y done next p q. (record { mid = b; first = x; rest = y; split = refl; one = p.0; two = (next, q.0, moving moved y is q.2) }, watched_on says Note 1 w v z a b c x y p.1 q.1)) g t)

  pub comes_to_rest : {W : Type 0} (Note : Noting D W) (w v z : W) (a b c : NodeView D) (k : ℕ) (moved : Bool) → k < ROUND_LIMIT → moved ≡ false → RestsWatched says Note (AreMovingTurns says k) w a b v → Turns says Note v moved b c z → RestsWatched says Note (Rests says true) w a c z
  comes_to_rest Note w v z a b c k moved lt is g t =
      goes_then says a b c (λ o heard n. AreMovingTurns says k o heard n × Watched says Note 1 w o heard n v) (λ o heard n. IsTurn o heard n × Watched says Note 1 v o heard n z × ((moved ≡ false) ↔ IsStill heard)) (λ o heard n. Rests says true o heard n × Watched says Note 1 w o heard n z)
      (λ x y done next p q. ((k, lt, record { mid = b; first = x; rest = y; split = refl; one = p.0; two = (next, q.0, q.2.0 is) }), watched_on says Note 1 w v z a b c x y p.1 q.1)) g t

  pub goes_on : {W : Type 0} (Note : Noting D W) (w z : W) (a b : NodeView D) (k : ℕ) → k ≡ ROUND_LIMIT → RestsWatched says Note (AreMovingTurns says k) w a b z → RestsWatched says Note (Rests says false) w a b z
  goes_on Note w z a b k is g = subst (λ (j : ℕ). RestsWatched says Note (AreMovingTurns says j) w a b z) is g
