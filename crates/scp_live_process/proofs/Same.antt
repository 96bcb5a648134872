-- What a log says makes one node.
use Rattle.std.proofs.Common.{◌≡◌, ℕ, zero, suc, List, [], ◌∷◌, ◌++◌, Option, None, Some, refl, sym, ◌∙◌, ap, subst, arith, inl, inr, ⊎_elim}
use Rattle.std.specs.Prelude.{◌<◌, ◌⊎◌, map, option_map, slice_get}
use Rattle.std.proofs.lemmas.Option.{slice_get-map}
use Rattle.scp_stand_node.specs.scp_core.specs.declared.event.Event.{Event as Happening}
use Rattle.scp_stand_node.specs.scp_core.specs.History.{Exchange}
use Rattle.scp_stand_node.specs.scp_core.specs.Kv.{NodeView}
use Rattle.scp_batches.specs.scp_live_log.specs.Log.{EntryView}
use Rattle.scp_live.specs.scp_live_lines.specs.declared.asked.Asked.TheVariants.{Event}
use Rattle.scp_live.specs.scp_live_lines.specs.Says.{Says}
use Rattle.scp_live.specs.scp_live_config.specs.Names.{Identity, NoTwo}
use Rattle.scp_stand_node.specs.scp_core.specs.Kv.{TheoremGivesLedger}
use Rattle.scp_live.specs.Episodes.{AreEpisodes, SameEventsSameEpisodes, FurtherEventsGoOn}
use Rattle.scp_live.specs.Lines.{AreNamedApart, LinesSayOneThing}
use Rattle.scp_live.specs.Live.{LiveView}
use Rattle.scp_live.specs.Replays.{AreReplayed}
use Rattle.scp_live_process.specs.Laws.{LogsMakeOneNode, LogsGoOn}

-- ---- names

name : Identity → List ℕ
name identity = identity.name

order : (l m : ℕ) → (l < m) ⊎ ((m < l) ⊎ (l ≡ m))
order zero zero = inr (inr refl)
order zero (suc m) = inl (omega arith)
order (suc l) zero = inr (inl (omega arith))
order (suc l) (suc m) = ⊎_elim (λ lt. inl (omega (arith, lt))) (λ r. ⊎_elim (λ lt. inr (inl (omega (arith, lt)))) (λ e. inr (inr (ap suc e))) r) (order l m)

found : (o : Option Identity) (n : List ℕ) → option_map (λ (peer : Identity). peer.name) o ≡ Some n → (x : Identity) × (o ≡ Some x) × (x.name ≡ n)
found None n e = absurd cc
found (Some x) n e = (x, refl, cc)

named_apart : (peers : List Identity) → NoTwo (λ (peer : Identity). peer.name) peers → AreNamedApart (map (λ (peer : Identity). peer.name) peers)
named_apart peers apart l m n p q =
    let f = λ (peer : Identity). peer.name in
    let x = found (slice_get peers l) n (sym (slice_get-map f peers l) ∙ p) in
    let y = found (slice_get peers m) n (sym (slice_get-map f peers m) ∙ q) in
    ⊎_elim
    (λ lt. absurd (apart l m x.0 y.0 lt x.1 y.1 (x.2 ∙ sym y.2)))
    (λ r. ⊎_elim (λ gt. absurd (apart m l y.0 x.0 gt y.1 x.1 (y.2 ∙ sym x.2))) (λ e. e) r)
    (order l m)

-- ---- events

-- the lines of these entries say these events
abbrev AreSaid : List (List ℕ) → List EntryView → List Happening → Type 0
AreSaid names [] [] = Unit {0}
AreSaid names [] (event ∷ events) = ⊥
AreSaid names (entry ∷ entries) [] = ⊥
AreSaid names (entry ∷ entries) (event ∷ events) = Says names entry.line (Event event) × AreSaid names entries events

one_event : (e f : Happening) → Event e ≡ Event f → e ≡ f
one_event e f is = cc

said_once : LinesSayOneThing → (names : List (List ℕ)) → AreNamedApart names → (entries : List EntryView) (events others : List Happening) → AreSaid names entries events → AreSaid names entries others → events ≡ others
said_once law names apart [] [] [] p q = refl
said_once law names apart [] [] (f ∷ others) p q = absurd q
said_once law names apart [] (e ∷ events) others p q = absurd p
said_once law names apart (entry ∷ entries) [] others p q = absurd p
said_once law names apart (entry ∷ entries) (e ∷ events) [] p q = absurd q
said_once law names apart (entry ∷ entries) (e ∷ events) (f ∷ others) p q =
    let one = one_event e f (law names apart entry.line (Event e) (Event f) p.0 q.0) in
    let rest = said_once law names apart entries events others p.1 q.1 in
    cc

-- entries that are played are episodes of the events that their lines say
record Episodes (names : List (List ℕ)) (entries : List EntryView) (old : NodeView) (heard : List Exchange) (new : NodeView) : Type 0 where
  events : List Happening
  are : AreEpisodes events old heard new
  said : AreSaid names entries events

episodes : (entries : List EntryView) (a v : LiveView) (x : List Exchange) → AreReplayed entries a x v → Episodes a.names entries a.node x v.node
episodes [] a v x p = record { events = []; are = (p.0, ap (λ (u : LiveView). u.node) p.1); said = tt }
episodes (entry ∷ entries) a v x p =
    let one = p.first in
    let rest = episodes entries p.mid v p.heard_next p.next in
    record {
      events = one.event ∷ rest.events;
      are = record { mid = p.mid.node; first = p.heard_first; rest = p.heard_next; split = p.heard_is; one = (one.tells.reply, one.tells.episode); two = rest.are };
      said = (one.says, subst (λ (names : List (List ℕ)). AreSaid names entries rest.events) one.names rest.said);
    }

pub one_node : SameEventsSameEpisodes → LinesSayOneThing → LogsMakeOneNode
one_node same law config settings a b v w x y entries is new other p q run runs =
    let one = episodes entries a v x p in
    let two = episodes entries b w y q in
    let names = map (λ (peer : Identity). peer.name) settings.peers.items in
    let apart : AreNamedApart names = named_apart settings.peers.items is.says.peers.once in
    let events = said_once law names apart entries one.events two.events
    (subst (λ (n : List (List ℕ)). AreSaid n entries one.events) new.names one.said) (subst (λ (n : List (List ℕ)). AreSaid n entries two.events) other.names two.said) in
    same one.events a.node b.node v.node w.node x y new.theorem other.theorem (new.config ∙ sym other.config) one.are
    (subst (λ (es : List Happening). AreEpisodes es b.node y w.node) (sym events) two.are) run runs

-- ---- a log that has grown

-- of the events that entries say, the first ones are said by the first entries
record SaidApart (names : List (List ℕ)) (entries : List EntryView) (events : List Happening) : Type 0 where
  front : List Happening
  back : List Happening
  is : events ≡ front ++ back
  said : AreSaid names entries front

said_apart : (names : List (List ℕ)) (entries more : List EntryView) (events : List Happening) → AreSaid names (entries ++ more) events → SaidApart names entries events
said_apart names [] more events p = record { front = []; back = events; is = refl; said = tt }
said_apart names (entry ∷ entries) more [] p = absurd p
said_apart names (entry ∷ entries) more (event ∷ events) p =
    let r = said_apart names entries more events p.1 in
    record { front = event ∷ r.front; back = r.back; is = ap (λ (l : List Happening). event ∷ l) r.is; said = (p.0, r.said) }

pub goes_on : FurtherEventsGoOn → LinesSayOneThing → TheoremGivesLedger → LogsGoOn
goes_on further law ledger config settings a b v w x y entries more is new other p q run runs =
    let one = episodes entries a v x p in
    let two = episodes (entries ++ more) b w y q in
    let names = map (λ (peer : Identity). peer.name) settings.peers.items in
    let apart : AreNamedApart names = named_apart settings.peers.items is.says.peers.once in
    let split = said_apart names entries more two.events (subst (λ (n : List (List ℕ)). AreSaid n (entries ++ more) two.events) other.names two.said) in
    let same : split.front ≡ one.events = said_once law names apart entries split.front one.events split.said (subst (λ (n : List (List ℕ)). AreSaid n entries one.events) new.names one.said) in
    let events : two.events ≡ one.events ++ split.back = split.is ∙ ap (λ (l : List Happening). l ++ split.back) same in
    let g = further one.events split.back a.node b.node v.node w.node x y new.theorem other.theorem (new.config ∙ sym other.config) one.are
    (subst (λ (es : List Happening). AreEpisodes es b.node y w.node) events two.are) run runs in
    (g.more, g.is, ledger y w.node g.theorem, g.never_back)
