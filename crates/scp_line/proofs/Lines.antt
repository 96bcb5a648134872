-- Lines that were done, one after the other, and why one wasn't.
use Rattle.std.proofs.Common.{◌≡◌, ◌+◌, ◌-◌, ℕ, Bool, true, false, cond, List, [], ◌∷◌, ◌++◌, Option, Some, None, length, nat_eq, refl, sym, ◌∙◌, ap, subst, append_assoc, append-nil, arith, inl, inr, ⊎_elim}
use Rattle.std.specs.Prelude.{Result, Ok, Err, All, slice_get}
use Rattle.std.proofs.lemmas.Bool.Decides.{nat_tests}
use Rattle.std.proofs.lemmas.Option.{slice_get_within}
use Rattle.scp_turn.specs.scp_types.specs.declared.fault.Fault.TheVariants.{Failed as failing, Full as full}
use Rattle.scp_turn.specs.scp_wire.specs.Shape.{Tail}
use Rattle.scp_turn.specs.scp_core.specs.declared.event.Event.{Event}
use Rattle.scp_turn.specs.scp_core.specs.declared.event.Event.TheVariants as event
use Rattle.scp_turn.specs.scp_core.specs.declared.event.Reply.{Reply}
use Rattle.scp_turn.specs.scp_core.specs.declared.event.Reply.TheVariants.{Failed, NoLink, AlreadyOpen, LivesSpent, NotOpen, Full, Accepted, Blocked, Idle, Moved, Sent, JournalFull, NoMemory}
use Rattle.scp_turn.specs.scp_core.specs.Node.{Accepts}
use Rattle.scp_turn.specs.scp_core.specs.Kv.{NodeView, Step}
use Rattle.scp_turn.specs.Kv.{Noting}
use Rattle.scp_turn.specs.Heard.{Nodes, Heard, IsHeard, HaveHeard, Then, Noted, With}
use Rattle.scp_turn.specs.Rounds.{RestsAs, Breaks, AllRun, HasFailed, link_of}
use Rattle.scp_turn.proofs.Hearing.{noted_on}
use Rattle.scp_turn.specs.Network.{Hear, NetworkView}
use Rattle.scp_report.specs.scp_script.specs.declared.command.Command.{Command}
use Rattle.scp_report.specs.scp_script.specs.declared.command.Command.TheVariants as script
use Rattle.scp_report.specs.scp_script.specs.Script.{node_count}
use Rattle.scp_report.specs.scp_script.specs.Nodes.{NamesNodes, IsSmall}
use Rattle.scp_line.specs.declared.playing.PlayFault.{PlayFault}
use Rattle.scp_line.specs.Play.{Answers, IsOffered, HearsBy, HearsAs, Hears, Played, ArePlayed, BreaksBy, LineBreaks, HasNoRoom, config_of, driven_in, event_by}
use Rattle.scp_line.specs.Nodes.{AreWho, Watching, brings_to_rest, IsMissed, Offers, Settles, Tries, GivesUp, ActsAgain, Acts, IsStoppedAt}
use Rattle.scp_line.specs.inside.Nodes.{IsStopped}
use Rattle.scp_line.proofs.Places.{set_here, get_set}
use Rattle.scp_line.specs.Links.{AreLinked, tails, tail_said}
use Rattle.scp_line.proofs.Tails.{tail_by, tail_on, said_more, accepted_tail}
use Rattle.scp_line.proofs.Staying.{AllStay, accepted_config, heard_stays, rests_stay}
use Rattle.scp_line.proofs.Standing.{StandsAt, stands_admitted, stands_named, stands_before, stands_count, few_nodes}
use Rattle.scp_line.proofs.Answering.{IsTaken, IsReadyFor, ready_for, ready_says, neither, has_no_room}

-- ---- what was heard, one after the other

with_then : {W : Type 0} (Note : Noting W) (w v z : W) (a b c : Nodes) (P Q : Nodes → List Heard → Nodes → Type 0) → Hear a b (With (Noted Note w v) P) → Hear b c (With (Noted Note v z) Q) → Hear a c (With (Noted Note w z) (Then P Q))
with_then Note w v z a b c P Q f s = record {
  heard = f.heard ++ s.heard;
  is = (record { mid = b; first = f.heard; rest = s.heard; split = refl; one = f.is.0; two = s.is.0 }, noted_on Note w v z a b c f.heard s.heard f.is.1 s.is.1);
  count = s.count ∙ f.count;
  have = λ past h. subst (λ (p : List Heard). HaveHeard p c) (append_assoc past f.heard s.heard) (s.have (past ++ f.heard) (f.have past h));
}

hear_as : (a b : Nodes) (P Q : Nodes → List Heard → Nodes → Type 0) → ((x : List Heard) → P a x b → Q a x b) → Hear a b P → Hear a b Q
hear_as a b P Q f h = record { heard = h.heard; is = f h.heard h.is; count = h.count; have = h.have }

with_as : (Also : Nodes → List Heard → Nodes → Type 0) (a b : Nodes) (P Q : Nodes → List Heard → Nodes → Type 0) → ((x : List Heard) → P a x b → Q a x b) → Hear a b (With Also P) → Hear a b (With Also Q)
with_as Also a b P Q f h = hear_as a b (With Also P) (With Also Q) (λ x p. (f x p.0, p.1)) h

hear_nothing : (a b : Nodes) (P : Nodes → List Heard → Nodes → Type 0) → b ≡ a → P a [] b → Hear a b P
hear_nothing a b P e is = record { heard = []; is = is; count = ap (λ (n : Nodes). length n) e; have = λ past h. subst (λ (n : Nodes). HaveHeard (past ++ []) n) (sym e) (subst (λ (p : List Heard). HaveHeard p a) (sym (append-nil past)) h) }

-- ---- what lines say

hears_rest : (driven : List Bool) (count : ℕ) (calm : Bool) (command : Command) → brings_to_rest command ≡ true → (a : Nodes) (x : List Heard) (b : Nodes) → RestsAs driven count calm a x b → HearsAs driven count calm command a x b
hears_rest driven count calm (script.Caps capacities) e a x b h = absurd cc
hears_rest driven count calm (script.Nodes n quorum) e a x b h = absurd cc
hears_rest driven count calm (script.Set at set) e a x b h = absurd cc
hears_rest driven count calm (script.Open from to) e a x b h = absurd cc
hears_rest driven count calm (script.Close from to) e a x b h = absurd cc
hears_rest driven count calm (script.Send from to bytes) e a x b h = absurd cc
hears_rest driven count calm (script.Propose at slot value) e a x b h = absurd cc
hears_rest driven count calm (script.Round at slot) e a x b h = absurd cc
hears_rest driven count calm (script.Timer at slot) e a x b h = absurd cc
hears_rest driven count calm (script.Tick at) e a x b h = absurd cc
hears_rest driven count calm (script.Ask from to slot) e a x b h = absurd cc
hears_rest driven count calm script.Settle e a x b h = h
hears_rest driven count calm (script.Wait at things) e a x b h = h
hears_rest driven count calm (script.Report at) e a x b h = absurd cc

rest_is_no_event : (command : Command) → brings_to_rest command ≡ true → event_by command ≡ None
rest_is_no_event (script.Caps capacities) e = absurd cc
rest_is_no_event (script.Nodes n quorum) e = absurd cc
rest_is_no_event (script.Set at set) e = absurd cc
rest_is_no_event (script.Open from to) e = absurd cc
rest_is_no_event (script.Close from to) e = absurd cc
rest_is_no_event (script.Send from to bytes) e = absurd cc
rest_is_no_event (script.Propose at slot value) e = absurd cc
rest_is_no_event (script.Round at slot) e = absurd cc
rest_is_no_event (script.Timer at slot) e = absurd cc
rest_is_no_event (script.Tick at) e = absurd cc
rest_is_no_event (script.Ask from to slot) e = absurd cc
rest_is_no_event script.Settle e = refl
rest_is_no_event (script.Wait at things) e = refl
rest_is_no_event (script.Report at) e = absurd cc

hears_event : (driven : List Bool) (count : ℕ) (calm : Bool) (command : Command) → brings_to_rest command ≡ false → (a : Nodes) (x : List Heard) (b : Nodes) → HearsBy driven count calm (event_by command) a x b → HearsAs driven count calm command a x b
hears_event driven count calm (script.Caps capacities) e a x b h = h
hears_event driven count calm (script.Nodes n quorum) e a x b h = h
hears_event driven count calm (script.Set at set) e a x b h = h
hears_event driven count calm (script.Open from to) e a x b h = h
hears_event driven count calm (script.Close from to) e a x b h = h
hears_event driven count calm (script.Send from to bytes) e a x b h = h
hears_event driven count calm (script.Propose at slot value) e a x b h = h
hears_event driven count calm (script.Round at slot) e a x b h = h
hears_event driven count calm (script.Timer at slot) e a x b h = h
hears_event driven count calm (script.Tick at) e a x b h = h
hears_event driven count calm (script.Ask from to slot) e a x b h = h
hears_event driven count calm script.Settle e a x b h = absurd cc
hears_event driven count calm (script.Wait at things) e a x b h = absurd cc
hears_event driven count calm (script.Report at) e a x b h = h

breaks_resting : (driven : List Bool) (count number : ℕ) (command : Command) → brings_to_rest command ≡ true → (a : Nodes) (x : List Heard) (b : Nodes) → Breaks driven count number a x b → LineBreaks driven count number command a x b
breaks_resting driven count number (script.Caps capacities) e a x b h = absurd cc
breaks_resting driven count number (script.Nodes n quorum) e a x b h = absurd cc
breaks_resting driven count number (script.Set at set) e a x b h = absurd cc
breaks_resting driven count number (script.Open from to) e a x b h = absurd cc
breaks_resting driven count number (script.Close from to) e a x b h = absurd cc
breaks_resting driven count number (script.Send from to bytes) e a x b h = absurd cc
breaks_resting driven count number (script.Propose at slot value) e a x b h = absurd cc
breaks_resting driven count number (script.Round at slot) e a x b h = absurd cc
breaks_resting driven count number (script.Timer at slot) e a x b h = absurd cc
breaks_resting driven count number (script.Tick at) e a x b h = absurd cc
breaks_resting driven count number (script.Ask from to slot) e a x b h = absurd cc
breaks_resting driven count number script.Settle e a x b h = h
breaks_resting driven count number (script.Wait at things) e a x b h = h
breaks_resting driven count number (script.Report at) e a x b h = absurd cc

breaks_behind : (driven : List Bool) (count number : ℕ) (command : Command) → brings_to_rest command ≡ false → (a : Nodes) (x : List Heard) (b : Nodes) → BreaksBy driven count number (event_by command) a x b → LineBreaks driven count number command a x b
breaks_behind driven count number (script.Caps capacities) e a x b h = h
breaks_behind driven count number (script.Nodes n quorum) e a x b h = h
breaks_behind driven count number (script.Set at set) e a x b h = h
breaks_behind driven count number (script.Open from to) e a x b h = h
breaks_behind driven count number (script.Close from to) e a x b h = h
breaks_behind driven count number (script.Send from to bytes) e a x b h = h
breaks_behind driven count number (script.Propose at slot value) e a x b h = h
breaks_behind driven count number (script.Round at slot) e a x b h = h
breaks_behind driven count number (script.Timer at slot) e a x b h = h
breaks_behind driven count number (script.Tick at) e a x b h = h
breaks_behind driven count number (script.Ask from to slot) e a x b h = h
breaks_behind driven count number script.Settle e a x b h = absurd cc
breaks_behind driven count number (script.Wait at things) e a x b h = absurd cc
breaks_behind driven count number (script.Report at) e a x b h = h

-- one line more
pub played_more : (driven : List Bool) (count : ℕ) (done : List Command) (command : Command) (a b c : Nodes) (x y : List Heard) → Played driven count done a x b → Hears driven count command b y c → Played driven count (done ++ command ∷ []) a (x ++ y) c
played_more driven count [] command a b c x y p h = record {
  mid = c;
  first = y;
  rest = [];
  split = ap (λ (l : List Heard). l ++ y) p.0 ∙ sym (append-nil y);
  one = subst (λ (n : Nodes). Hears driven count command n y c) p.1 h;
  two = (refl, refl);
}
played_more driven count (first ∷ done) command a b c x y p h = record {
  mid = p.mid;
  first = p.first;
  rest = p.rest ++ y;
  split = ap (λ (l : List Heard). l ++ y) p.split ∙ append_assoc p.first p.rest y;
  one = p.one;
  two = played_more driven count done command p.mid b c p.rest y p.two h;
}

-- ---- the nodes, where so many lines were done

pub record Moment (commands done : List Command) (network : NetworkView) : Type 0 where
  pub count : length network.nodes ≡ node_count commands
  pub driven : network.driven ≡ driven_in commands
  pub run : AllRun network.nodes
  pub who : AreWho commands network.nodes
  pub linked : AreLinked done network.nodes

linked_stay : (done : List Command) (old new : Nodes) → AllStay old new → AllRun new → AreLinked done old → AreLinked done new
linked_stay done old new stay run linked = λ from to f fn t tn apart w at.
    let was = stay.each (to - 1) w at (run (to - 1) w at) in
    ap (λ (ts : List Tail). slice_get ts (link_of from to)) was.2.1 ∙ linked from to f (omega (arith, fn, stay.count)) t (omega (arith, tn, stay.count)) apart was.0 was.1

who_stay : (commands : List Command) (old new : Nodes) → AllStay old new → AllRun new → AreWho commands old → AreWho commands new
who_stay commands old new stay run who = λ i w at.
    let was = stay.each i w at (run i w at) in
    was.2.2 ∙ who i was.0 was.1

who_accepted : (commands : List Command) (old new : Nodes) (number : ℕ) (e : Event) → IsHeard old (record { node = number; event = e; reply = Accepted }) new → AreWho commands old → AreWho commands new
who_accepted commands old new number e s who = λ i w at.
    ⊎_elim
    (λ here.
    let there : slice_get old i ≡ Some s.before = subst (λ (k : ℕ). slice_get old k ≡ Some s.before) (sym here.0) s.was in
    subst (λ (u : NodeView). u.config ≡ config_of commands (i + 1)) here.1 (accepted_config s.before s.after' e s.step.1 ∙ who i s.before there))
    (λ there. who i w there.1)
    (get_set old s.place s.after' i w (subst (λ (n : Nodes). slice_get n i ≡ Some w) s.is at))

moment_settled : {W : Type 0} (Note : Noting W) (commands done : List Command) (calm : Bool) (old new : Watching W) → Moment commands done old.network → Settles Note old new (Ok calm) → Moment commands done new.network
moment_settled Note commands done calm old new m s =
    let stay = rests_stay old.network.driven (length old.network.nodes) old.network.nodes s.0.0.heard new.network.nodes (calm, s.0.0.is.0) in
    record {
      count = s.0.0.count ∙ m.count;
      driven = s.0.1 ∙ m.driven;
      run = s.1;
      who = who_stay commands old.network.nodes new.network.nodes stay s.1 m.who;
      linked = linked_stay done old.network.nodes new.network.nodes stay s.1 m.linked;
    }

accepted_runs : (v w : NodeView) (e : Event) → Accepts v e w → w.failed ≡ v.failed
accepted_runs v w (event.Open l) a = ap (λ (u : NodeView). u.failed) a.2.3
accepted_runs v w (event.Send l bytes) a = ap (λ (u : NodeView). u.failed) a.2.2
accepted_runs v w (event.Close l) a = ap (λ (u : NodeView). u.failed) a.2.2
accepted_runs v w (event.Local command) a = ap (λ (u : NodeView). u.failed) a.2
accepted_runs v w (event.ReaderTake l) a = absurd a
accepted_runs v w (event.ReaderPut l) a = absurd a
accepted_runs v w event.PendTake a = absurd a
accepted_runs v w event.PendPut a = absurd a
accepted_runs v w event.SlotTake a = absurd a
accepted_runs v w event.SlotPut a = absurd a
accepted_runs v w event.ApplyTake a = absurd a
accepted_runs v w (event.Drain l) a = absurd a

taken_runs : (v w : NodeView) (e : Event) (r : Reply) → IsTaken r → Step v e r w → w.failed ≡ false
taken_runs v w e Failed is s = absurd is
taken_runs v w e NoLink is s = absurd is
taken_runs v w e AlreadyOpen is s = absurd is
taken_runs v w e LivesSpent is s = absurd is
taken_runs v w e NotOpen is s = absurd is
taken_runs v w e Full is s = ap (λ (u : NodeView). u.failed) s.2 ∙ s.0
taken_runs v w e Accepted is s = accepted_runs v w e s.1 ∙ s.0
taken_runs v w e Blocked is s = absurd is
taken_runs v w e Idle is s = absurd is
taken_runs v w e Moved is s = absurd is
taken_runs v w e (Sent bytes) is s = absurd is
taken_runs v w e JournalFull is s = absurd is
taken_runs v w e NoMemory is s = absurd is

heard_runs : (old new : Nodes) (h : Heard) → IsTaken h.reply → IsHeard old h new → AllRun old → AllRun new
heard_runs old new h is s run = λ i w at.
    ⊎_elim
    (λ e. subst (λ (u : NodeView). u.failed ≡ false) e.1 (taken_runs s.before s.after' h.event h.reply is s.step))
    (λ e. run i w e.1)
    (get_set old s.place s.after' i w (subst (λ (n : Nodes). slice_get n i ≡ Some w) s.is at))

-- an event that found no room changes nothing
moment_full : {W : Type 0} (Note : Noting W) (commands done : List Command) (command : Command) (number : ℕ) (old new : Watching W) → Moment commands done old.network → Offers Note old command (Some (number, Full)) new → Moment commands done new.network
moment_full Note commands done command number old new m o =
    let h : Heard = record { node = number; event = o.0; reply = Full } in
    let step = o.2.0.is.0.1 in
    let run = heard_runs old.network.nodes new.network.nodes h tt step m.run in
    let stay = heard_stays old.network.nodes new.network.nodes h (λ e. absurd cc) step in
    record {
      count = o.2.0.count ∙ m.count;
      driven = o.2.1 ∙ m.driven;
      run = run;
      who = who_stay commands old.network.nodes new.network.nodes stay run m.who;
      linked = linked_stay done old.network.nodes new.network.nodes stay run m.linked;
    }

-- ---- a line that was done

linked_more : (done : List Command) (command : Command) (old new : Nodes) (number : ℕ) (e : Event) → event_by command ≡ Some (number, e) → NamesNodes command → IsHeard old (record { node = number; event = e; reply = Accepted }) new → length new ≡ length old → AreLinked done old → AreLinked (done ++ command ∷ []) new
linked_more done command old new number e is names s count linked = λ from to f fn t tn apart w at.
    let l = link_of from to in
    let said = tail_said from to done in
    let place : number ≡ s.place + 1 = s.number in
    let was = λ (v : NodeView). linked from to f (omega (arith, fn, count)) t (omega (arith, tn, count)) apart v in
    let more : tail_by to l said (Some (number, e)) ≡ tail_said from to (done ++ command ∷ []) = ap (λ (o : Option (ℕ × Event)). tail_by to l said o) (sym is) ∙ said_more from to f t apart done command names in
    ⊎_elim
    (λ here.
    let same : nat_eq number to ≡ true = grind (arith, nat_tests, here.0, place, t) in
    let there : slice_get old (to - 1) ≡ Some s.before = subst (λ (k : ℕ). slice_get old k ≡ Some s.before) (sym here.0) s.was in
    let now : slice_get (tails s.after') l ≡ Some (tail_on l said e) = accepted_tail s.before s.after' e s.step.1 l said (was s.before there) in
    subst (λ (u : NodeView). slice_get (tails u) l ≡ Some (tail_said from to (done ++ command ∷ []))) here.1
    (now ∙ ap (λ (x : Tail). Some x) (ap (λ (b : Bool). cond b (tail_on l said e) said) (sym same) ∙ more)))
    (λ there.
    let other : nat_eq number to ≡ false = grind (arith, nat_tests, there.0, place, t) in
    was w there.1 ∙ ap (λ (x : Tail). Some x) (ap (λ (b : Bool). cond b (tail_on l said e) said) (sym other) ∙ more))
    (get_set old s.place s.after' (to - 1) w (subst (λ (n : Nodes). slice_get n (to - 1) ≡ Some w) s.is at))

-- a line that is no event opens and closes nothing
linked_on : (done : List Command) (command : Command) (nodes : Nodes) → event_by command ≡ None → NamesNodes command → AreLinked done nodes → AreLinked (done ++ command ∷ []) nodes
linked_on done command nodes is names linked = λ from to f fn t tn apart w at.
    linked from to f fn t tn apart w at
    ∙ ap (λ (x : Tail). Some x) (ap (λ (o : Option (ℕ × Event)). tail_by to (link_of from to) (tail_said from to done) o) (sym is) ∙ said_more from to f t apart done command names)

-- a line was done
pub record IsDone {W : Type 0} (Note : Noting W) (commands done : List Command) (command : Command) (calm : Bool) (old new : Watching W) : Type 0 where
  pub moment : Moment commands (done ++ command ∷ []) new.network
  pub hear : Hear old.network.nodes new.network.nodes (With (Noted Note old.watch new.watch) (HearsAs (driven_in commands) (node_count commands) calm command))

rests_as : (commands done : List Command) (calm : Bool) (network : NetworkView) → Moment commands done network → (a : Nodes) (x : List Heard) (b : Nodes) → RestsAs network.driven (length network.nodes) calm a x b → RestsAs (driven_in commands) (node_count commands) calm a x b
rests_as commands done calm network m a x b r = subst (λ (d : List Bool). RestsAs d (node_count commands) calm a x b) m.driven (subst (λ (n : ℕ). RestsAs network.driven n calm a x b) m.count r)

breaks_as : (commands done : List Command) (network : NetworkView) (number : ℕ) → Moment commands done network → (a : Nodes) (x : List Heard) (b : Nodes) → Breaks network.driven (length network.nodes) number a x b → Breaks (driven_in commands) (node_count commands) number a x b
breaks_as commands done network number m a x b r = subst (λ (d : List Bool). Breaks d (node_count commands) number a x b) m.driven (subst (λ (n : ℕ). Breaks network.driven n number a x b) m.count r)

done_rest : {W : Type 0} (Note : Noting W) (commands done : List Command) (command : Command) (calm : Bool) (old new : Watching W) → StandsAt commands done command → Moment commands done old.network → brings_to_rest command ≡ true → Settles Note old new (Ok calm) → IsDone Note commands done command calm old new
done_rest Note commands done command calm old new s m rest settles =
    let settled = moment_settled Note commands done calm old new m settles in
    record {
      moment = record {
        count = settled.count;
        driven = settled.driven;
        run = settled.run;
        who = settled.who;
        linked = linked_on done command new.network.nodes (rest_is_no_event command rest) (stands_named commands done command s) settled.linked;
      };
      hear = with_as (Noted Note old.watch new.watch) old.network.nodes new.network.nodes (RestsAs old.network.driven (length old.network.nodes) calm) (HearsAs (driven_in commands) (node_count commands) calm command)
          (λ x r. hears_rest (driven_in commands) (node_count commands) calm command rest old.network.nodes x new.network.nodes (rests_as commands done calm old.network m old.network.nodes x new.network.nodes r))
          settles.0.0;
    }

stands_ready : (commands done : List Command) (command : Command) (network : NetworkView) → StandsAt commands done command → Moment commands done network → IsReadyFor network.nodes (event_by command)
stands_ready commands done command network s m =
    ready_for done command network.nodes (stands_admitted commands done command s) (stands_before commands done command s) (λ one. m.count ∙ stands_count commands done command s one) m.linked

-- an event that isn't heard is none
not_missed : (network : NetworkView) (found : Option (ℕ × Event)) → IsReadyFor network.nodes found → IsMissed network found → found ≡ None
not_missed network None ready missed = refl
not_missed network (Some offered) ready missed = ⊎_elim (λ e. absurd (omega (arith, e, ready.0))) (λ lt. absurd (omega (arith, lt, ready.1))) missed

none_offered : {W : Type 0} (Note : Noting W) (commands done : List Command) (command : Command) (old new : Watching W) → StandsAt commands done command → Moment commands done old.network → Offers Note old command None new → event_by command ≡ None
none_offered Note commands done command old new s m o = not_missed old.network (event_by command) (stands_ready commands done command old.network s m) o.1

pub done_nothing : {W : Type 0} (Note : Noting W) (commands done : List Command) (command : Command) (old new : Watching W) → StandsAt commands done command → Moment commands done old.network → brings_to_rest command ≡ false → Offers Note old command None new → IsDone Note commands done command true old new
done_nothing {W} Note commands done command old new s m rest o =
    let none = none_offered Note commands done command old new s m o in
    subst (λ (n : Watching W). IsDone Note commands done command true old n) (sym o.0) (record {
      moment = record {
        count = m.count;
        driven = m.driven;
        run = m.run;
        who = m.who;
        linked = linked_on done command old.network.nodes none (stands_named commands done command s) m.linked;
      };
      hear = hear_nothing old.network.nodes old.network.nodes (With (Noted Note old.watch old.watch) (HearsAs (driven_in commands) (node_count commands) true command)) refl (
        hears_event (driven_in commands) (node_count commands) true command rest old.network.nodes [] old.network.nodes
            (subst (λ (found : Option (ℕ × Event)). HearsBy (driven_in commands) (node_count commands) true found old.network.nodes [] old.network.nodes) (sym none) (refl, (refl, refl))),
        (refl, refl),
      );
    })

moment_accepted : {W : Type 0} (Note : Noting W) (commands done : List Command) (command : Command) (number : ℕ) (old new : Watching W) → StandsAt commands done command → Moment commands done old.network → Offers Note old command (Some (number, Accepted)) new → Moment commands (done ++ command ∷ []) new.network
moment_accepted Note commands done command number old new s m o =
    let step = o.2.0.is.0.1 in
    record {
      count = o.2.0.count ∙ m.count;
      driven = o.2.1 ∙ m.driven;
      run = heard_runs old.network.nodes new.network.nodes (record { node = number; event = o.0; reply = Accepted }) tt step m.run;
      who = who_accepted commands old.network.nodes new.network.nodes number o.0 step m.who;
      linked = linked_more done command old.network.nodes new.network.nodes number o.0 o.1 (stands_named commands done command s) step o.2.0.count m.linked;
    }

-- what was heard of a line's event
hears_offered : (driven : List Bool) (count : ℕ) (calm : Bool) (command : Command) (number : ℕ) (e : Event) → brings_to_rest command ≡ false → event_by command ≡ Some (number, e) → (a : Nodes) (x : List Heard) (b : Nodes) → IsOffered driven count calm (number, e) a x b → HearsAs driven count calm command a x b
hears_offered driven count calm command number e rest is a x b o = hears_event driven count calm command rest a x b (subst (λ (found : Option (ℕ × Event)). HearsBy driven count calm found a x b) (sym is) o)

done_now : {W : Type 0} (Note : Noting W) (commands done : List Command) (command : Command) (number : ℕ) (old new : Watching W) → StandsAt commands done command → Moment commands done old.network → brings_to_rest command ≡ false → Offers Note old command (Some (number, Accepted)) new → IsDone Note commands done command true old new
done_now Note commands done command number old new s m rest o = record {
  moment = moment_accepted Note commands done command number old new s m o;
  hear = with_as (Noted Note old.watch new.watch) old.network.nodes new.network.nodes (Answers (number, o.0) Accepted) (HearsAs (driven_in commands) (node_count commands) true command)
      (λ x p. hears_offered (driven_in commands) (node_count commands) true command number o.0 rest o.1 old.network.nodes x new.network.nodes (inl (refl, p)))
      o.2.0;
}

-- the same event was offered twice
abbrev same_offer : ℕ × Event → ℕ × Event → Type 0
same_offer a b = a ≡ b

abbrev same_found : Option (ℕ × Event) → Option (ℕ × Event) → Type 0
same_found a b = a ≡ b

one_offer : (command : Command) (a b : ℕ × Event) → event_by command ≡ Some a → event_by command ≡ Some b → a ≡ b
one_offer command a b p q = let both : same_found (Some a) (Some b) = sym p ∙ q in cc

-- no room, rest, and then this answer
hear_again : {W : Type 0} (Note : Noting W) (commands done : List Command) (command : Command) (calm : Bool) (reply : Reply) (first second : ℕ) (old mid rested new : Watching W) → Moment commands done mid.network → (o : Offers Note old command (Some (first, Full)) mid) → (s : Settles Note mid rested (Ok calm)) → (p : Offers Note rested command (Some (second, reply)) new) → Hear old.network.nodes new.network.nodes (With (Noted Note old.watch new.watch) (Then (Answers (second, p.0) Full) (Then (RestsAs (driven_in commands) (node_count commands) calm) (Answers (second, p.0) reply))))
hear_again Note commands done command calm reply first second old mid rested new m o s p =
    let rests = RestsAs (driven_in commands) (node_count commands) calm in
    let same : (first, o.0) ≡ (second, p.0) = one_offer command (first, o.0) (second, p.0) o.1 p.1 in
    with_then Note old.watch mid.watch new.watch old.network.nodes mid.network.nodes new.network.nodes (Answers (second, p.0) Full) (Then rests (Answers (second, p.0) reply))
    (subst (λ (x : ℕ × Event). Hear old.network.nodes mid.network.nodes (With (Noted Note old.watch mid.watch) (Answers x Full))) same o.2.0)
    (with_then Note mid.watch rested.watch new.watch mid.network.nodes rested.network.nodes new.network.nodes rests (Answers (second, p.0) reply)
    (with_as (Noted Note mid.watch rested.watch) mid.network.nodes rested.network.nodes (RestsAs mid.network.driven (length mid.network.nodes) calm) rests (λ x r. rests_as commands done calm mid.network m mid.network.nodes x rested.network.nodes r) s.0.0)
    p.2.0)

done_later : {W : Type 0} (Note : Noting W) (commands done : List Command) (command : Command) (calm : Bool) (first second : ℕ) (old mid rested new : Watching W) → StandsAt commands done command → Moment commands done old.network → brings_to_rest command ≡ false → Offers Note old command (Some (first, Full)) mid → Settles Note mid rested (Ok calm) → Offers Note rested command (Some (second, Accepted)) new → IsDone Note commands done command calm old new
done_later Note commands done command calm first second old mid rested new stands m rest o s p =
    let m2 = moment_full Note commands done command first old mid m o in
    let m3 = moment_settled Note commands done calm mid rested m2 s in
    record {
      moment = moment_accepted Note commands done command second rested new stands m3 p;
      hear = with_as (Noted Note old.watch new.watch) old.network.nodes new.network.nodes (Then (Answers (second, p.0) Full) (Then (RestsAs (driven_in commands) (node_count commands) calm) (Answers (second, p.0) Accepted))) (HearsAs (driven_in commands) (node_count commands) calm command)
          (λ x q. hears_offered (driven_in commands) (node_count commands) calm command second p.0 rest p.1 old.network.nodes x new.network.nodes (inr q))
          (hear_again Note commands done command calm Accepted first second old mid rested new m2 o s p);
    }

-- a line's event that isn't heard the second time wasn't one
not_an_event : (command : Command) (number : ℕ) (e : Event) → event_by command ≡ Some (number, e) → event_by command ≡ None → ⊥
not_an_event command number e p q = let both : same_found (Some (number, e)) None = sym p ∙ q in absurd cc

abbrev same_result : Result Bool PlayFault → Result Bool PlayFault → Type 0
same_result a b = a ≡ b

ok_is_no_err : (calm : Bool) (e : PlayFault) → same_result (Ok calm) (Err e) → ⊥
ok_is_no_err calm e is = absurd cc

same_fault : (e g : PlayFault) → same_result (Err e) (Err g) → g ≡ e
same_fault e g is = cc

pub line_done : {W : Type 0} (Note : Noting W) (commands done : List Command) (command : Command) (calm : Bool) (old new : Watching W) → StandsAt commands done command → Moment commands done old.network → Acts Note old command new (Ok calm) → IsDone Note commands done command calm old new
line_done Note commands done command calm old new s m (inl r) = done_rest Note commands done command calm old new s m r.0 r.1
line_done {W} Note commands done command calm old new s m (inr t) = tried t.0 t.1
  where
    so : (answer : Bool) → calm ≡ answer → IsDone Note commands done command answer old new → IsDone Note commands done command calm old new
    so answer is d = subst (λ (b : Bool). IsDone Note commands done command b old new) (sym is) d

    again : brings_to_rest command ≡ false → (first : ℕ) (mid rested : Watching W) (answer : Bool) → Offers Note old command (Some (first, Full)) mid → Settles Note mid rested (Ok answer) → Tries Note answer GivesUp rested command new (Ok calm) → IsDone Note commands done command calm old new
    again rest first mid rested answer o settles (inl none) =
        let m2 = moment_full Note commands done command first old mid m o in
        let m3 = moment_settled Note commands done answer mid rested m2 settles in
        absurd (not_an_event command first o.0 o.1 (none_offered Note commands done command rested new s m3 none.1))
    again rest first mid rested answer o settles (inr (inl p)) = so answer p.1 (done_later Note commands done command answer first p.0 old mid rested new s m rest o settles p.2)
    again rest first mid rested answer o settles (inr (inr p)) = absurd p.3

    acted : brings_to_rest command ≡ false → (first : ℕ) (mid : Watching W) → Offers Note old command (Some (first, Full)) mid → ActsAgain Note mid command new (Ok calm) → IsDone Note commands done command calm old new
    acted rest first mid o (inl f) = absurd (ok_is_no_err calm f.0 f.1)
    acted rest first mid o (inr a) = again rest first mid a.0 a.1 o a.2 a.3

    tried : brings_to_rest command ≡ false → Tries Note true (λ mid last result. ActsAgain Note mid command last result) old command new (Ok calm) → IsDone Note commands done command calm old new
    tried rest (inl none) = so true none.0 (done_nothing Note commands done command old new s m rest none.1)
    tried rest (inr (inl o)) = so true o.1 (done_now Note commands done command o.0 old new s m rest o.2)
    tried rest (inr (inr o)) = acted rest o.0 o.1 o.2 o.3

-- ---- why a line wasn't done

-- nodes of a script, of which one failed
failed_is_small : (commands : List Command) (nodes : Nodes) (number : ℕ) → All NamesNodes commands → length nodes ≡ node_count commands → HasFailed nodes number → IsSmall number
failed_is_small commands nodes number names count failed =
    let within = slice_get_within nodes (number - 1) failed.0 failed.2 in
    let few = few_nodes commands names in
    (failed.1, omega (arith, within, few, count, failed.1))

pub stops_at : (commands done : List Command) (command : Command) (heard : List Heard) (old new : NetworkView) (e : PlayFault) → StandsAt commands done command → ArePlayed commands done heard old.nodes → length old.nodes ≡ node_count commands → e.fault ≡ failing → Hear old.nodes new.nodes (LineBreaks (driven_in commands) (node_count commands) e.node command) → HasFailed new.nodes e.node → IsStoppedAt commands done e
stops_at commands done command heard old new e s played count fault hear failed = inr (inl (
  fault,
  failed_is_small commands new.nodes e.node s.names (hear.count ∙ count) failed,
  record {
    before = done;
    command = command;
    after' = s.after';
    split = s.split;
    heard = heard;
    nodes = old.nodes;
    played = played;
    more = hear.heard;
    new = new.nodes;
    breaks = hear.is;
    have = hear.have heard played.have;
  },
  refl,
))

stops_settling : {W : Type 0} (Note : Noting W) (commands done : List Command) (command : Command) (heard : List Heard) (old new : Watching W) (e : PlayFault) → StandsAt commands done command → ArePlayed commands done heard old.network.nodes → Moment commands done old.network → brings_to_rest command ≡ true → Settles Note old new (Err e) → IsStoppedAt commands done e
stops_settling Note commands done command heard old new e s played m rest settles =
    stops_at commands done command heard old.network new.network e s played m.count settles.0
    (hear_as old.network.nodes new.network.nodes (With (Noted Note old.watch new.watch) (Breaks old.network.driven (length old.network.nodes) e.node)) (LineBreaks (driven_in commands) (node_count commands) e.node command)
    (λ x b. breaks_resting (driven_in commands) (node_count commands) e.node command rest old.network.nodes x new.network.nodes (breaks_as commands done old.network e.node m old.network.nodes x new.network.nodes b.0)) settles.1.0)
    settles.1.0.is.0.3

stops_behind : {W : Type 0} (Note : Noting W) (commands done : List Command) (command : Command) (heard : List Heard) (first : ℕ) (old mid new : Watching W) (e : PlayFault) → StandsAt commands done command → ArePlayed commands done heard old.network.nodes → Moment commands done old.network → brings_to_rest command ≡ false → Offers Note old command (Some (first, Full)) mid → Settles Note mid new (Err e) → IsStoppedAt commands done e
stops_behind Note commands done command heard first old mid new e s played m rest o settles =
    let m2 = moment_full Note commands done command first old mid m o in
    let breaks = Breaks (driven_in commands) (node_count commands) e.node in
    stops_at commands done command heard old.network new.network e s played m.count settles.0
    (hear_as old.network.nodes new.network.nodes (With (Noted Note old.watch new.watch) (Then (Answers (first, o.0) Full) breaks)) (LineBreaks (driven_in commands) (node_count commands) e.node command)
    (λ x b. breaks_behind (driven_in commands) (node_count commands) e.node command rest old.network.nodes x new.network.nodes (subst (λ (found : Option (ℕ × Event)). BreaksBy (driven_in commands) (node_count commands) e.node found old.network.nodes x new.network.nodes) (sym o.1) b.0))
    (with_then Note old.watch mid.watch new.watch old.network.nodes mid.network.nodes new.network.nodes (Answers (first, o.0) Full) breaks o.2.0
    (with_as (Noted Note mid.watch new.watch) mid.network.nodes new.network.nodes (Breaks mid.network.driven (length mid.network.nodes) e.node) breaks
    (λ x b. breaks_as commands done mid.network e.node m2 mid.network.nodes x new.network.nodes b) settles.1.0)))
    settles.1.0.is.0.3

-- what a line's event is answered with
answer_is : {W : Type 0} (Note : Noting W) (commands done : List Command) (command : Command) (number : ℕ) (reply : Reply) (old new : Watching W) → StandsAt commands done command → Moment commands done old.network → Offers Note old command (Some (number, reply)) new → IsTaken reply
answer_is Note commands done command number reply old new s m o =
    let nodes = old.network.nodes in
    let ready : IsReadyFor nodes (Some (number, o.0)) = subst (λ (found : Option (ℕ × Event)). IsReadyFor nodes found) o.1 (stands_ready commands done command old.network s m) in
    let step = o.2.0.is.0.1 in
    let place : step.place ≡ number - 1 = omega (arith, step.number) in
    let at : slice_get nodes (number - 1) ≡ Some step.before = subst (λ (k : ℕ). slice_get nodes k ≡ Some step.before) place step.was in
    ready_says step.before step.after' o.0 reply (m.run (number - 1) step.before at) (ready.2 step.before at) step.step

full_after : {W : Type 0} (Note : Noting W) (command : Command) (number : ℕ) (old new : Watching W) → Offers Note old command (Some (number, Full)) new → HasNoRoom new.network.nodes command
full_after Note command number old new o =
    let step = o.2.0.is.0.1 in
    let place : step.place ≡ number - 1 = omega (arith, step.number) in
    let at : slice_get new.network.nodes step.place ≡ Some step.after' = subst (λ (n : Nodes). slice_get n step.place ≡ Some step.after') (sym step.is) (set_here old.network.nodes step.place step.before step.after' step.was) in
    has_no_room new.network.nodes command number o.0 step.before step.after' o.1 (subst (λ (k : ℕ). slice_get new.network.nodes k ≡ Some step.after') place at) step.step

overflows : {W : Type 0} (Note : Noting W) (commands done : List Command) (command : Command) (heard : List Heard) (calm : Bool) (first second : ℕ) (old mid rested new : Watching W) (e : PlayFault) → StandsAt commands done command → ArePlayed commands done heard old.network.nodes → Moment commands done old.network → Offers Note old command (Some (first, Full)) mid → Settles Note mid rested (Ok calm) → Offers Note rested command (Some (second, Full)) new → e.fault ≡ full → e.node ≡ 0 → IsStoppedAt commands done e
overflows Note commands done command heard calm first second old mid rested new e s played m o settles p fault none =
    let hear = hear_again Note commands done command calm Full first second old mid rested new (moment_full Note commands done command first old mid m o) o settles p in
    let rested_is = hear.is.0.two in
    inr (inr (
      fault,
      none,
      record {
        before = done;
        command = command;
        after' = s.after';
        split = s.split;
        heard = heard;
        nodes = old.network.nodes;
        played = played;
        more = hear.heard;
        new = new.network.nodes;
        offered = (second, p.0);
        is = p.1;
        refused = record {
          mid = hear.is.0.mid;
          first = hear.is.0.first;
          rest = hear.is.0.rest;
          split = hear.is.0.split;
          one = hear.is.0.one;
          two = record { mid = rested_is.mid; first = rested_is.first; rest = rested_is.rest; split = rested_is.split; one = (calm, rested_is.one); two = rested_is.two };
        };
        have = hear.have heard played.have;
        full = full_after Note command second rested new p;
      },
      refl,
    ))

pub line_stops : {W : Type 0} (Note : Noting W) (commands done : List Command) (command : Command) (heard : List Heard) (old new : Watching W) (e : PlayFault) → StandsAt commands done command → ArePlayed commands done heard old.network.nodes → Moment commands done old.network → Acts Note old command new (Err e) → IsStoppedAt commands done e
line_stops Note commands done command heard old new e s played m (inl r) = stops_settling Note commands done command heard old new e s played m r.0 r.1
line_stops {W} Note commands done command heard old new e s played m (inr t) = tried t.1
  where
    again : (first : ℕ) (mid rested : Watching W) (calm : Bool) → Offers Note old command (Some (first, Full)) mid → Settles Note mid rested (Ok calm) → Tries Note calm GivesUp rested command new (Err e) → IsStoppedAt commands done e
    again first mid rested calm o settles (inl want) = inl want
    again first mid rested calm o settles (inr (inl p)) =
        let m2 = moment_full Note commands done command first old mid m o in
        let m3 = moment_settled Note commands done calm mid rested m2 settles in
        absurd (neither p.0 (answer_is Note commands done command e.node p.0 rested new s m3 p.3) p.1 p.2)
    again first mid rested calm o settles (inr (inr p)) = overflows Note commands done command heard calm first p.0 old mid rested p.1 e s played m o settles p.2 p.3.1 p.3.2

    acted : (first : ℕ) (mid : Watching W) → Offers Note old command (Some (first, Full)) mid → ActsAgain Note mid command new (Err e) → IsStoppedAt commands done e
    acted first mid o (inl f) = subst (λ (g : PlayFault). IsStoppedAt commands done g) (same_fault e f.0 f.1) (stops_behind Note commands done command heard first old mid new f.0 s played m t.0 o f.2)
    acted first mid o (inr a) = again first mid a.0 a.1 o a.2 a.3

    tried : Tries Note true (λ mid last result. ActsAgain Note mid command last result) old command new (Err e) → IsStoppedAt commands done e
    tried (inl want) = inl want
    tried (inr (inl p)) = absurd (neither p.0 (answer_is Note commands done command e.node p.0 old new s m p.3) p.1 p.2)
    tried (inr (inr p)) = acted p.0 p.1 p.2 p.3

-- at whatever line it was
pub stopped_somewhere : (commands done : List Command) (e : PlayFault) → IsStoppedAt commands done e → IsStopped commands e
stopped_somewhere commands done e (inl want) = inl want
stopped_somewhere commands done e (inr (inl s)) = inr (inl (s.0, s.1, s.2))
stopped_somewhere commands done e (inr (inr s)) = inr (inr (s.0, s.1, s.2))
