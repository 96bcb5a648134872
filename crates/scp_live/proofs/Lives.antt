-- Two nodes with one past have the same episodes of the same events.
use Rattle.std.proofs.Common.{◌≡◌, ℕ, zero, suc, false, List, [], ◌∷◌, ◌++◌, refl, sym, ◌∙◌, ap, subst, append_assoc}
use Rattle.std.specs.Prelude.{replicate, slice_get, if◌then◌else◌}
use Rattle.scp_again.specs.scp_driver.specs.Kv.{kv_says}
use Rattle.scp_again.specs.scp_wire.specs.declared.message.Message.{Message}
use Rattle.scp_again.specs.scp_outbox.specs.Handing.{waiting_at}
use Rattle.scp_again.specs.scp_core.specs.declared.event.Event.{Event}
use Rattle.scp_again.specs.scp_core.specs.declared.event.Event.TheVariants as event
use Rattle.scp_again.specs.scp_core.specs.declared.event.Reply.{Reply}
use Rattle.scp_again.specs.scp_core.specs.declared.event.Reply.TheVariants.{Failed, NoLink, AlreadyOpen, LivesSpent, NotOpen, Full, Accepted, Blocked, Idle, Moved, Sent, JournalFull, NoMemory}
use Rattle.scp_again.specs.scp_core.specs.History.{Exchange}
use Rattle.scp_again.specs.scp_core.specs.Node.{accepts_of}
use Rattle.scp_again.specs.scp_core.specs.Kv.{NodeView, LedgerTheorem}
use Rattle.scp_again.specs.Again.{again_of}
use Rattle.scp_again.specs.Ascending.{Ascend}
use Rattle.scp_again.specs.Laws.{NeverGoesBack, NodesNeverGoBack}
use Rattle.scp_turn.specs.Turn.{events_of, links_of}
use Rattle.scp_turn.specs.Kv.{Does, FollowsOn}
use Rattle.scp_turn.specs.Episode.{Follows, drains_of, leaving_at}
use Rattle.scp_turn.specs.Rest.{Then}
use Rattle.scp_live.specs.Episodes.{AnEpisode, AreEpisodes, SameEventsSameEpisodes, FurtherEventsGoOn}
use Rattle.scp_live.proofs.Agains.{same_again}
use Rattle.scp_live.proofs.Steps.{Laws, Both, Same, does_on, does_run, keeps_on, are_steps, same_steps, then_same}
use Rattle.scp_live.proofs.Turns.{rests_does, same_links, same_rest}

-- ---- what follows is steps

follows_does : (a v : NodeView) (heard : List Exchange) → Follows kv_says a heard v → Does a heard v
follows_does a v heard f = subst (λ (h : List Exchange). Does a h v) (sym f.split) (does_on a f.rested v f.turns f.drains (rests_does f.calm a f.rested f.turns f.rests) f.does)

nothing_does : (a v : NodeView) (heard : List Exchange) → (heard ≡ []) × (v ≡ a) → Does a heard v
nothing_does a v heard n = subst (λ (h : List Exchange). Does a h v) (sym n.0) n.1

on_does : (reply : Reply) (a v : NodeView) (heard : List Exchange) → FollowsOn reply a heard v → Does a heard v
on_does Accepted a v heard f = follows_does a v heard f
on_does Failed a v heard f = nothing_does a v heard f
on_does NoLink a v heard f = nothing_does a v heard f
on_does AlreadyOpen a v heard f = nothing_does a v heard f
on_does LivesSpent a v heard f = nothing_does a v heard f
on_does NotOpen a v heard f = nothing_does a v heard f
on_does Full a v heard f = nothing_does a v heard f
on_does Blocked a v heard f = nothing_does a v heard f
on_does Idle a v heard f = nothing_does a v heard f
on_does Moved a v heard f = nothing_does a v heard f
on_does (Sent bytes) a v heard f = nothing_does a v heard f
on_does JournalFull a v heard f = nothing_does a v heard f
on_does NoMemory a v heard f = nothing_does a v heard f

pub episode_does : (e : Event) (a v : NodeView) (heard : List Exchange) → AnEpisode e a heard v → Does a heard v
episode_does e a v heard h = subst (λ (l : List Exchange). Does a l v) (sym h.1.is) (h.1.stepped, h.1.step, on_does h.0 h.1.stepped v h.1.rest h.1.follows)

episodes_does : (events : List Event) (a v : NodeView) (heard : List Exchange) → AreEpisodes events a heard v → Does a heard v
episodes_does [] a v heard h = nothing_does a v heard h
episodes_does (e ∷ events) a v heard h = subst (λ (l : List Exchange). Does a l v) (sym h.split) (does_on a h.mid v h.first h.rest (episode_does e a h.mid h.first h.one) (episodes_does events h.mid v h.rest h.two))

-- ---- the same goes out

same_leaving : (v w : NodeView) → v.failed ≡ w.failed → v.links ≡ w.links → v.outboxes ≡ w.outboxes → (l : ℕ) → leaving_at v l ≡ leaving_at w l
same_leaving v w failed links outboxes l = λ i. if (if failed i then false else accepts_of (slice_get (links i) l)) then waiting_at (outboxes i) l else 0

same_drains : (v w : NodeView) → ((l : ℕ) → leaving_at v l ≡ leaving_at w l) → (n : ℕ) → drains_of v n ≡ drains_of w n
same_drains v w e zero = refl
same_drains v w e (suc n) = let before = same_drains v w e n in let count = e n in λ i. before i ++ replicate (count i) (event.Drain n)

-- ---- the same follows

same_nothing : Laws → (p x y : List Exchange) (a b v w : NodeView) → Both p a b → (x ≡ []) × (v ≡ a) → (y ≡ []) × (w ≡ b) → v.failed ≡ false → w.failed ≡ false → Same p x y v w
same_nothing law p x y a b v w both f g run runs = same_steps law p x y a b v w both (ap events_of (f.0 ∙ sym g.0)) (nothing_does a v x f) (nothing_does b w y g) run runs

same_follows : Laws → (p x y : List Exchange) (a b v w : NodeView) → Both p a b → Follows kv_says a x v → Follows kv_says b y w → v.failed ≡ false → w.failed ≡ false → Same p x y v w
same_follows law p x y a b v w both f g run runs =
    let here : f.rested.failed ≡ false = (does_run f.drains f.rested v f.does run).0 in
    let there : g.rested.failed ≡ false = (does_run g.drains g.rested w g.does runs).0 in
    let turns = same_rest law f.calm g.calm p f.turns g.turns a b f.rested g.rested both f.rests g.rests here there in
    let alike = turns.shown.running here in
    let leaving = same_leaving f.rested g.rested turns.shown.failed alike.links alike.outboxes in
    let links : links_of f.rested ≡ links_of g.rested = same_links f.rested g.rested turns.shown.config in
    let out : events_of f.drains ≡ events_of g.drains = f.all ∙ ap (drains_of f.rested) links ∙ same_drains f.rested g.rested leaving (links_of g.rested) ∙ sym g.all in
    let drains = same_steps law (p ++ f.turns) f.drains g.drains f.rested g.rested v w turns.both out f.does g.does run runs in
    then_same p x y f.turns f.drains g.turns g.drains v w f.split g.split turns.same drains

same_on : Laws → (reply : Reply) (p x y : List Exchange) (a b v w : NodeView) → Both p a b → FollowsOn reply a x v → FollowsOn reply b y w → v.failed ≡ false → w.failed ≡ false → Same p x y v w
same_on law Accepted p x y a b v w both f g run runs = same_follows law p x y a b v w both f g run runs
same_on law Failed p x y a b v w both f g run runs = same_nothing law p x y a b v w both f g run runs
same_on law NoLink p x y a b v w both f g run runs = same_nothing law p x y a b v w both f g run runs
same_on law AlreadyOpen p x y a b v w both f g run runs = same_nothing law p x y a b v w both f g run runs
same_on law LivesSpent p x y a b v w both f g run runs = same_nothing law p x y a b v w both f g run runs
same_on law NotOpen p x y a b v w both f g run runs = same_nothing law p x y a b v w both f g run runs
same_on law Full p x y a b v w both f g run runs = same_nothing law p x y a b v w both f g run runs
same_on law Blocked p x y a b v w both f g run runs = same_nothing law p x y a b v w both f g run runs
same_on law Idle p x y a b v w both f g run runs = same_nothing law p x y a b v w both f g run runs
same_on law Moved p x y a b v w both f g run runs = same_nothing law p x y a b v w both f g run runs
same_on law (Sent bytes) p x y a b v w both f g run runs = same_nothing law p x y a b v w both f g run runs
same_on law JournalFull p x y a b v w both f g run runs = same_nothing law p x y a b v w both f g run runs
same_on law NoMemory p x y a b v w both f g run runs = same_nothing law p x y a b v w both f g run runs

-- ---- episodes

same_reply : (x y : Exchange) → x ∷ [] ≡ y ∷ [] → x.1 ≡ y.1
same_reply x y h = cc

same_episode : Laws → (e : Event) (p x y : List Exchange) (a b v w : NodeView) → Both p a b → AnEpisode e a x v → AnEpisode e b y w → v.failed ≡ false → w.failed ≡ false → Same p x y v w
same_episode law e p x y a b v w both h k run runs =
    let r = h.0 in
    let s = k.0 in
    let here : h.1.stepped.failed ≡ false = (does_run h.1.rest h.1.stepped v (on_does r h.1.stepped v h.1.rest h.1.follows) run).0 in
    let there : k.1.stepped.failed ≡ false = (does_run k.1.rest k.1.stepped w (on_does s k.1.stepped w k.1.rest k.1.follows) runs).0 in
    let step = same_steps law p ((e, r) ∷ []) ((e, s) ∷ []) a b h.1.stepped k.1.stepped both refl (h.1.stepped, h.1.step, refl) (k.1.stepped, k.1.step, refl) here there in
    let reply : r ≡ s = same_reply (e, r) (e, s) step.same in
    let theirs : FollowsOn r k.1.stepped k.1.rest w = subst (λ (q : Reply). FollowsOn q k.1.stepped k.1.rest w) (sym reply) k.1.follows in
    let more = same_on law r (p ++ (e, r) ∷ []) h.1.rest k.1.rest h.1.stepped k.1.stepped v w step.both h.1.follows theirs run runs in
    then_same p x y ((e, r) ∷ []) h.1.rest ((e, s) ∷ []) k.1.rest v w h.1.is k.1.is step.same more

same_lives : Laws → (events : List Event) (p x y : List Exchange) (a b v w : NodeView) → Both p a b → AreEpisodes events a x v → AreEpisodes events b y w → v.failed ≡ false → w.failed ≡ false → Same p x y v w
same_lives law [] p x y a b v w both h k run runs = same_nothing law p x y a b v w both h k run runs
same_lives law (e ∷ events) p x y a b v w both h k run runs =
    let here : h.mid.failed ≡ false = (does_run h.rest h.mid v (episodes_does events h.mid v h.rest h.two) run).0 in
    let there : k.mid.failed ≡ false = (does_run k.rest k.mid w (episodes_does events k.mid w k.rest k.two) runs).0 in
    let first = same_episode law e p h.first k.first a b h.mid k.mid both h.one k.one here there in
    let more = same_lives law events (p ++ h.first) h.rest k.rest h.mid k.mid v w first.both h.two k.two run runs in
    then_same p x y h.first h.rest k.first k.rest v w h.split k.split first.same more

pub same_episodes : Laws → SameEventsSameEpisodes
same_episodes law = λ events a b v w x y one other config h k run runs.
    let both : Both [] a b = record { one = one; other = other; config = config; enough = tt } in
    let s = same_lives law events [] x y a b v w both h k run runs in (s.same, s.shown)

-- ---- what is sent once more

goes_back_never : (x rest : List Exchange) (moment v w : NodeView) (link : ℕ) → again_of v.ledger link ≡ again_of moment.ledger link → NeverGoesBack link x rest moment w → NeverGoesBack link x rest v w
goes_back_never x rest moment v w link same n = record {
  before = n.before;
  sent_before = n.sent_before;
  behind = n.behind;
  sent_behind = n.sent_behind;
  ascend = subst (λ (again : List Message). Ascend (n.before ++ again ++ n.behind ++ again_of w.ledger link)) (sym same) n.ascend;
}

-- ---- more events

episodes_apart : (events more : List Event) (b w : NodeView) (y : List Exchange) → AreEpisodes (events ++ more) b y w → Then (AreEpisodes events) (AreEpisodes more) b y w
episodes_apart [] more b w y p = record { mid = b; first = []; rest = y; split = refl; one = (refl, refl); two = p }
episodes_apart (e ∷ events) more b w y p =
    let r = episodes_apart events more p.mid w p.rest p.two in
    record {
      mid = r.mid;
      first = p.first ++ r.first;
      rest = r.rest;
      split = p.split ∙ ap (λ (h : List Exchange). p.first ++ h) r.split ∙ sym (append_assoc p.first r.first r.rest);
      one = record { mid = p.mid; first = p.first; rest = r.first; split = refl; one = p.one; two = r.one };
      two = r.two;
    }

pub further_events : Laws → NodesNeverGoBack kv_says → FurtherEventsGoOn
further_events laws never events more a b v w x y one other config p q run runs =
    let s = episodes_apart events more b w y q in
    let does : Does s.mid s.rest w = episodes_does more s.mid w s.rest s.two in
    let alive : s.mid.failed ≡ false = (does_run s.rest s.mid w does runs).0 in
    let same = same_episodes laws events a b v s.mid x s.first one other config p s.one run alive in
    let there : LedgerTheorem x s.mid = subst (λ (h : List Exchange). LedgerTheorem h s.mid) (sym same.0) (keeps_on laws.keep s.first [] b s.mid other (episodes_does events b s.mid s.first s.one)) in
    record {
      more = s.rest;
      is = s.split ∙ ap (λ (h : List Exchange). h ++ s.rest) (sym same.0);
      theorem = keeps_on laws.keep y [] b w other (episodes_does (events ++ more) b w y q);
      never_back = λ link. goes_back_never x s.rest s.mid v w link (same_again v.ledger s.mid.ledger (same.1.running run).ledger link)
          (never there.driver s.mid.config x s.rest s.mid w there.replies (are_steps laws.keep s.mid.config s.rest x s.mid w refl there does runs) alive runs link);
    }
