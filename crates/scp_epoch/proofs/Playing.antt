-- Episodes, one after the other.
use Rattle.std.proofs.Common.{◌≡◌, ℕ, zero, suc, Bool, true, false, List, [], ◌∷◌, ◌++◌, refl, sym, ◌∙◌, ap, subst, append_assoc, append-nil}
use Rattle.std.specs.Prelude.{Result, Ok, Err, IfOk, OnOk, IsErrOf, ◌||◌, ◌↔◌}
use Rattle.scp_again.specs.scp_types.specs.declared.fault.Fault.{Fault}
use Rattle.scp_again.specs.scp_types.specs.declared.fault.Fault.TheVariants.{JournalFull}
use Rattle.scp_again.specs.scp_types.specs.declared.limits.TheConstants.{ROUND_LIMIT}
use Rattle.scp_again.specs.scp_driver.specs.Driver.{Says}
use Rattle.scp_again.specs.scp_core.specs.declared.event.Event.{Event}
use Rattle.scp_again.specs.scp_core.specs.declared.event.Reply.{Reply}
use Rattle.scp_again.specs.scp_core.specs.declared.event.Reply.TheVariants.{Failed, NoLink, AlreadyOpen, LivesSpent, NotOpen, Full, Accepted, Blocked, Idle, Moved, Sent, NoMemory, JournalFull as FoundFull}
use Rattle.scp_again.specs.scp_core.specs.History.{Exchange}
use Rattle.scp_again.specs.scp_core.specs.Node.{NodeView}
use Rattle.scp_turn.specs.Episode.{Follows, FollowsOn, IsEpisode, is_full_reply, finds_full, sent_in}
use Rattle.scp_turn.specs.Rest.{AreMovingTurns, Rests}
use Rattle.scp_turn.specs.Turn.{Does, Goes}
use Rattle.scp_turn.specs.declared.playing.Played.{Played}
use Rattle.scp_epoch.specs.Played.{IsPlayed, ArePlayed}
use Rattle.scp_epoch.specs.inside.Playing.{Plays}
use Rattle.scp_epoch.proofs.Steps.{does_on}

or_right : (a b : Bool) → b ≡ true → (a || b) ≡ true
or_right true b e = refl
or_right false b e = e

-- what comes later finds it full too
full_later : (x y : List Exchange) → finds_full y ≡ true → finds_full (x ++ y) ≡ true
full_later [] y e = e
full_later (e ∷ x) y h = or_right (is_full_reply e.1) (finds_full (x ++ y)) (full_later x y h)

-- a refusal is one of whatever type
turn_err : {T U : Type 0} (f g : Fault) → IsErrOf {T = T} (Err f) g → IsErrOf {T = U} (Err f) g
turn_err f g e = let same : f ≡ g = cc in ap (λ (x : Fault). Err x) same

-- a call's end, when all was well
abbrev pub done : Result (Unit {0}) Fault
done = Ok tt

module _ {D : Type 0} (says : Says D) where
  -- one after the other
  pub played_on : (xs ys : List Event) (a b c : NodeView D) (x y : List Exchange) → ArePlayed says xs a x b → ArePlayed says ys b y c → ArePlayed says (xs ++ ys) a (x ++ y) c
  played_on [] ys a b c x y p q = subst (λ (h : List Exchange). ArePlayed says ys a (h ++ y) c) (sym p.0) (subst (λ (v : NodeView D). ArePlayed says ys v y c) p.1 q)
  played_on (e ∷ xs) ys a b c x y p q = record {
    mid = p.mid;
    first = p.first;
    rest = p.rest ++ y;
    split = ap (λ (h : List Exchange). h ++ y) p.split ∙ append_assoc p.first p.rest y;
    one = p.one;
    two = played_on xs ys p.mid b c p.rest y p.two q;
  }

  pub plays_none : (a : NodeView D) → Plays says [] done a a
  plays_none a = record { heard = []; does = refl; played = (refl, refl); full = λ e. absurd cc }

  -- first these, and then those
  pub plays_then : {T : Type 0} (result : Result T Fault) (xs ys : List Event) (a b c : NodeView D) → Plays says xs done a b → Plays says ys result b c → Plays says (xs ++ ys) result a c
  plays_then {T} result xs ys a b c p q = record {
    heard = p.heard ++ q.heard;
    does = does_on says a b c p.heard q.heard p.does q.does;
    played = played_if result q.played;
    full = λ e. full_later p.heard q.heard (q.full e);
  }
    where
      played_if : (r : Result T Fault) → OnOk r (ArePlayed says ys b q.heard c) → OnOk r (ArePlayed says (xs ++ ys) a (p.heard ++ q.heard) c)
      played_if (Ok t) h = played_on xs ys a b c p.heard q.heard p.played h
      played_if (Err f) h = tt

  -- it stops there
  pub plays_ends : {T U : Type 0} (f : Fault) (xs zs : List Event) (a b : NodeView D) → Plays says {T = T} xs (Err f) a b → Plays says {T = U} zs (Err f) a b
  plays_ends {T} {U} f xs zs a b p = record { heard = p.heard; does = p.does; played = tt; full = λ e. p.full (turn_err f JournalFull e) }

  pub plays_stop : {T U : Type 0} (f : Fault) (xs ys zs : List Event) (a b c : NodeView D) → Plays says xs done a b → Plays says {T = T} ys (Err f) b c → Plays says {T = U} zs (Err f) a c
  plays_stop {T} {U} f xs ys zs a b c p q = record {
    heard = p.heard ++ q.heard;
    does = does_on says a b c p.heard q.heard p.does q.does;
    played = tt;
    full = λ e. full_later p.heard q.heard (q.full (turn_err f JournalFull e));
  }

  -- what came of one event
  abbrev pub CameOf : Event → Result Played Fault → NodeView D → NodeView D → Type 0
  CameOf event r a b = Goes says a b (λ o heard n. IfOk r (λ played. IsEpisode says event played.reply o heard n × (played.sent.items ≡ sent_in heard)) × (IsErrOf r JournalFull ↔ (finds_full heard ≡ true)))

  pub plays_event : (event : Event) (played : Played) (a b : NodeView D) → CameOf event (Ok played) a b → Plays says (event ∷ []) done a b
  plays_event event played a b g = record {
    heard = g.heard;
    does = g.does;
    played = record { mid = b; first = g.heard; rest = []; split = sym (append-nil g.heard); one = (played.reply, g.is.0.0); two = (refl, refl) };
    full = λ e. absurd cc;
  }

  pub plays_refused : (event : Event) (f : Fault) (a b : NodeView D) → CameOf event (Err f) a b → Plays says {T = Unit {0}} (event ∷ []) (Err f) a b
  plays_refused event f a b g = record { heard = g.heard; does = g.does; played = tt; full = λ e. g.is.1.0 (turn_err f JournalFull e) }

-- ---- what is played is steps

module _ {D : Type 0} (says : Says D) where
  nothing_does : (a v : NodeView D) (heard : List Exchange) → (heard ≡ []) × (v ≡ a) → Does says a heard v
  nothing_does a v heard n = subst (λ (h : List Exchange). Does says a h v) (sym n.0) n.1

  turns_does : (k : ℕ) (a v : NodeView D) (heard : List Exchange) → AreMovingTurns says k a heard v → Does says a heard v
  turns_does zero a v heard h = nothing_does a v heard h
  turns_does (suc k) a v heard h = subst (λ (x : List Exchange). Does says a x v) (sym h.split) (does_on says a h.mid v h.first h.rest (turns_does k a h.mid h.first h.one) h.two.0)

  rests_does : (calm : Bool) (a v : NodeView D) (heard : List Exchange) → Rests says calm a heard v → Does says a heard v
  rests_does true a v heard h = subst (λ (x : List Exchange). Does says a x v) (sym h.2.split) (does_on says a h.2.mid v h.2.first h.2.rest (turns_does h.0 a h.2.mid h.2.first h.2.one) h.2.two.0)
  rests_does false a v heard h = turns_does ROUND_LIMIT a v heard h

  follows_does : (a v : NodeView D) (heard : List Exchange) → Follows says a heard v → Does says a heard v
  follows_does a v heard f = subst (λ (h : List Exchange). Does says a h v) (sym f.split) (does_on says a f.rested v f.turns f.drains (rests_does f.calm a f.rested f.turns f.rests) f.does)

  on_does : (r : Reply) (a v : NodeView D) (heard : List Exchange) → FollowsOn says r a heard v → Does says a heard v
  on_does Accepted a v heard f = follows_does a v heard f
  on_does Failed a v heard f = nothing_does a v heard f
  on_does NoLink a v heard f = nothing_does a v heard f
  on_does AlreadyOpen a v heard f = nothing_does a v heard f
  on_does LivesSpent a v heard f = nothing_does a v heard f
  on_does NotOpen a v heard f = nothing_does a v heard f
  on_does Full a v heard f = nothing_does a v heard f
  on_does Blocked a v heard f = nothing_does a v heard f
  on_does Idle a v heard f = nothing_does a v heard f
  on_does Moved a v heard f = nothing_does a v heard f
  on_does (Sent bytes) a v heard f = nothing_does a v heard f
  on_does FoundFull a v heard f = nothing_does a v heard f
  on_does NoMemory a v heard f = nothing_does a v heard f

  one_does : (e : Event) (a v : NodeView D) (heard : List Exchange) → IsPlayed says e a heard v → Does says a heard v
  one_does e a v heard h = subst (λ (l : List Exchange). Does says a l v) (sym h.1.is) (h.1.stepped, h.1.step, on_does h.0 h.1.stepped v h.1.rest h.1.follows)

  pub played_does : (events : List Event) (a v : NodeView D) (heard : List Exchange) → ArePlayed says events a heard v → Does says a heard v
  played_does [] a v heard h = nothing_does a v heard h
  played_does (e ∷ events) a v heard h = subst (λ (l : List Exchange). Does says a l v) (sym h.split) (does_on says a h.mid v h.first h.rest (one_does e a h.mid h.first h.one) (played_does events h.mid v h.rest h.two))
