-- The slot stage takes the commands that a node was given in their order.
use Rattle.std.proofs.Common.{◌≡◌, ◌<◌, ℕ, zero, suc, length, arith, true, false, List, [], ◌∷◌, ◌++◌, refl, sym, ◌∙◌, ap, subst, append_assoc, append-nil, take, drop, inl, inr}
use Rattle.std.specs.Prelude.{Option, Some, None, IsSomeAnd, slice_get, option_to_list}
use Rattle.std.specs.List.{AllByRecursion}
use Rattle.std.proofs.lemmas.Grind.{flat_map-append}
use Rattle.std.proofs.lemmas.List.{append_cancel_left, map-append}
use Rattle.std.proofs.lemmas.Option.{slice_get_within}
use Rattle.scp_core.specs.scp_driver.specs.Driver.{Says}
use Rattle.scp_core.specs.scp_types.specs.declared.names.NodeId.{NodeId}
use Rattle.scp_core.specs.scp_wire.specs.declared.link.Command.{Command}
use Rattle.scp_core.specs.scp_wire.specs.declared.link.Command.TheVariants.{Tick, Propose, Round, Timer, Ask}
use Rattle.scp_core.specs.scp_wire.specs.declared.link.Inbound.{Inbound}
use Rattle.scp_core.specs.scp_wire.specs.declared.link.Inbound.TheVariants as inbound
use Rattle.scp_core.specs.scp_wire.specs.declared.link.LinkItem.{LinkItem}
use Rattle.scp_core.specs.scp_wire.specs.ReaderLaws.{ReadingsAreInOrder}
use Rattle.scp_core.specs.scp_wire.specs.Shape.{Tail, goes, never_open, AreOfLink, Come, comes, nothing_came, MayCome, AreInOrder}
use Rattle.scp_core.specs.scp_pending.specs.declared.ready.Ready.{Ready}
use Rattle.scp_core.specs.scp_pending.specs.declared.ready.Ready.TheVariants as ready
use Rattle.scp_core.specs.scp_pending.specs.Endings.{passing_command, passing, passed, commands_in, commands_of}
use Rattle.scp_core.specs.scp_pending.specs.Laws.{CommandsPass}
use Rattle.scp_core.specs.scp_pending.specs.Pends.{Pends}
use Rattle.scp_core.specs.scp_pending.specs.Rules.{PendingView}
use Rattle.scp_core.specs.scp_ledger.specs.declared.took.CommandFate.{CommandFate}
use Rattle.scp_core.specs.scp_ledger.specs.declared.took.Took.{Took}
use Rattle.scp_core.specs.scp_ledger.specs.By.{TellsBy}
use Rattle.scp_core.specs.scp_ledger.specs.CommandFates.{IsProposalFate, IsRoundFate, IsTimerFate, IsAskFate, TellsCommand}
use Rattle.scp_core.specs.scp_ledger.specs.Seen.{LedgerView}
use Rattle.scp_core.specs.declared.event.Event.{Event}
use Rattle.scp_core.specs.declared.event.Event.TheVariants.{Open, Send, Close, Local, ReaderTake, ReaderPut, PendTake, PendPut, SlotTake, SlotPut, ApplyTake, Drain}
use Rattle.scp_core.specs.declared.event.Reply.{Reply}
use Rattle.scp_core.specs.declared.event.Reply.TheVariants.{Failed, NoLink, AlreadyOpen, LivesSpent, NotOpen, Full, Accepted, Blocked, Idle, Moved, Sent, JournalFull, NoMemory}
use Rattle.scp_core.specs.History.{Exchange, Past, past_of, read_so_far}
use Rattle.scp_core.specs.Node.{LinkView, NodeView, Accepts, PendBrings, PendTakes, SlotTakes, Moves, SendsOut, Step}
use Rattle.scp_core.specs.Flow.{Flows}
use Rattle.scp_core.specs.Theorem.{LedgerTheorem}
use Rattle.scp_turn.specs.Commands.{TakenCommand, command_given, given_by, with_fate, command_taken, front_taken, commands_taken, taken_at, taken_by, commands_waiting, AreInTurn}
use Rattle.scp_turn.specs.inside.InTurn.{NoneAreInTurn, StepsTakeInTurn}
use Rattle.scp_turn.proofs.Going.{all_on, all_apart}

-- within its length a list has an element
peer_there : {X : Type 0} (xs : List X) (l : ℕ) → l < length xs → (x : X) × (slice_get xs l ≡ Some x)
peer_there [] l lt = absurd (omega (arith, lt))
peer_there (x ∷ xs) zero lt = (x, refl)
peer_there (x ∷ xs) (suc l) lt = peer_there xs l (omega (arith, lt))

true_isnt : true ≡ false → ⊥
true_isnt e = cc

-- ---- lists of commands

-- more come behind the last
come_behind : (queue hand leaving inbox inbox2 more : List Command) → inbox2 ≡ inbox ++ more → queue ++ (hand ++ (leaving ++ inbox2)) ≡ (queue ++ (hand ++ (leaving ++ inbox))) ++ more
come_behind queue hand leaving inbox inbox2 more is =
    ap (λ (l : List Command). queue ++ (hand ++ (leaving ++ l))) is
    ∙ ap (λ (l : List Command). queue ++ (hand ++ l)) (sym (append_assoc leaving inbox more))
    ∙ ap (λ (l : List Command). queue ++ l) (sym (append_assoc hand (leaving ++ inbox) more))
    ∙ sym (append_assoc queue (hand ++ (leaving ++ inbox)) more)

-- what the pending stage takes from the inbox stands in its hand, or is ready there
pass_on : (queue hand leaving inbox hand2 leaving2 inbox2 more : List Command) → hand ≡ [] → hand2 ++ leaving2 ≡ leaving ++ more → inbox ≡ more ++ inbox2 → queue ++ (hand ++ (leaving ++ inbox)) ≡ queue ++ (hand2 ++ (leaving2 ++ inbox2))
pass_on queue hand leaving inbox hand2 leaving2 inbox2 more empty out came =
    ap (λ (l : List Command). queue ++ l)
    (ap (λ (l : List Command). l ++ (leaving ++ inbox)) empty
    ∙ ap (λ (l : List Command). leaving ++ l) came
    ∙ sym (append_assoc leaving more inbox2)
    ∙ ap (λ (l : List Command). l ++ inbox2) (sym out)
    ∙ append_assoc hand2 leaving2 inbox2)

-- ---- what comes over a link is no command

-- a beginning of what a link carries may come over it
front_of_link : (peer me : NodeId) (t : Tail) (n : ℕ) (xs : List LinkItem) → AreOfLink peer me t xs → AreOfLink peer me t (take n xs)
front_of_link peer me t zero xs a = tt
front_of_link peer me t (suc n) [] a = tt
front_of_link peer me t (suc n) (x ∷ xs) a = (a.0, front_of_link peer me (goes t x) n xs a.1)

no_command : (peer me : NodeId) (h : Come) (x : Inbound) → MayCome peer me h x → passing x ≡ []
no_command peer me h (inbound.Opened conn) m = refl
no_command peer me h (inbound.Carried x) m = refl
no_command peer me h (inbound.Side conn message) m = refl
no_command peer me h (inbound.Closed conn cause) m = refl
no_command peer me h (inbound.Local command) m = absurd m

first_is : (x y : Inbound) (xs ys : List Inbound) → x ∷ xs ≡ y ∷ ys → x ≡ y
first_is x y xs ys e = cc

none_of_link : (peer me : NodeId) (h : Come) (xs : List Inbound) (n : ℕ) (x : Inbound) (rest : List Inbound) → AreInOrder peer me h xs → drop n xs ≡ x ∷ rest → passing x ≡ []
none_of_link peer me h [] zero x rest a e = absurd cc
none_of_link peer me h [] (suc n) x rest a e = absurd cc
none_of_link peer me h (y ∷ ys) zero x rest a e = no_command peer me h x (subst (λ (z : Inbound). MayCome peer me h z) (first_is y x ys rest e) a.0)
none_of_link peer me h (y ∷ ys) (suc n) x rest a e = none_of_link peer me (comes h y) ys n x rest a.1 e

-- ---- the commands that pass: all but a Tick

abbrev IsPassed : Command → Type 0
IsPassed Tick = ⊥
IsPassed (Propose slot value) = Unit {0}
IsPassed (Round slot) = Unit {0}
IsPassed (Timer slot) = Unit {0}
IsPassed (Ask link slot) = Unit {0}

one_passes : (command : Command) → AllByRecursion IsPassed (passing_command command)
one_passes Tick = tt
one_passes (Propose slot value) = (tt, tt)
one_passes (Round slot) = (tt, tt)
one_passes (Timer slot) = (tt, tt)
one_passes (Ask link slot) = (tt, tt)

all_pass : (xs : List Inbound) → AllByRecursion IsPassed (commands_in xs)
all_pass [] = tt
all_pass (inbound.Opened conn ∷ xs) = all_pass xs
all_pass (inbound.Carried x ∷ xs) = all_pass xs
all_pass (inbound.Side conn message ∷ xs) = all_pass xs
all_pass (inbound.Closed conn cause ∷ xs) = all_pass xs
all_pass (inbound.Local command ∷ xs) = all_on IsPassed (passing_command command) (commands_in xs) (one_passes command) (all_pass xs)

-- ---- the pending stage

-- with these items more, these things more leave it, or are ready in it
more_pass : CommandsPass → (me : NodeId) (peers : List NodeId) (taken more : List Inbound) (given out : List Ready) (old new : PendingView) → Pends me peers taken given old → Pends me peers (taken ++ more) (given ++ out) new → commands_of out ++ commands_of new.leaving ≡ commands_of old.leaving ++ commands_in more
more_pass pass me peers taken more given out old new before after' =
    let was : commands_of given ++ commands_of old.leaving ≡ commands_in taken = sym (flat_map-append passed given old.leaving) ∙ pass me peers taken given old before in
    let is : commands_of given ++ (commands_of out ++ commands_of new.leaving) ≡ commands_in taken ++ commands_in more =
    sym (append_assoc (commands_of given) (commands_of out) (commands_of new.leaving))
    ∙ ap (λ (l : List Command). l ++ commands_of new.leaving) (sym (flat_map-append passed given out))
    ∙ sym (flat_map-append passed (given ++ out) new.leaving)
    ∙ pass me peers (taken ++ more) (given ++ out) new after'
    ∙ flat_map-append passing taken more in
    append_cancel_left (commands_of given) (commands_of out ++ commands_of new.leaving) (commands_of old.leaving ++ commands_in more)
    (is ∙ ap (λ (l : List Command). l ++ commands_in more) (sym was) ∙ append_assoc (commands_of given) (commands_of old.leaving) (commands_in more))

-- ---- a command that was taken has its fate

has_fate : (command : Command) (fate : Option CommandFate) (P : CommandFate → Type 0) → IsSomeAnd fate P → commands_taken (with_fate command fate) ≡ command ∷ []
has_fate command None P told = absurd told
has_fate command (Some fate) P told = refl

module _ {D : Type 0} (says : Says D) where
  command_is : (v : LedgerView D) (command : Command) (took : Took) → TellsCommand says.level v command took → AllByRecursion IsPassed (command ∷ []) → commands_taken (with_fate command took.command) ≡ command ∷ []
  command_is v Tick took tells passes = absurd passes.0
  command_is v (Propose at value) took tells passes = has_fate (Propose at value) took.command (IsProposalFate says.level v at value) tells
  command_is v (Round at) took tells passes = has_fate (Round at) took.command (IsRoundFate v at) tells
  command_is v (Timer at) took tells passes = has_fate (Timer at) took.command (IsTimerFate v at took.outgoing) tells
  command_is v (Ask link at) took tells passes = has_fate (Ask link at) took.command (IsAskFate v link at) tells

  thing_is : (v : LedgerView D) (x : Ready) (took : Took) → TellsBy says v x took → AllByRecursion IsPassed (passed x) → commands_taken (command_taken x took.command) ≡ passed x
  thing_is v (ready.Deliver delivery) took tells passes = refl
  thing_is v (ready.Dropped conn seq cause) took tells passes = refl
  thing_is v (ready.Closed conn cause) took tells passes = refl
  thing_is v (ready.Local command) took tells passes = command_is v command took tells passes

-- ---- accepted events

module _ {D : Type 0} where
  accepts_waiting : (old new : NodeView D) (event : Event) → Accepts old event new → commands_waiting new ≡ commands_waiting old ++ command_given event
  accepts_waiting old new (Open l) a = ap (λ (v : NodeView D). commands_waiting v) a.2.3 ∙ sym (append-nil (commands_waiting old))
  accepts_waiting old new (Send l bytes) a = ap (λ (v : NodeView D). commands_waiting v) a.2.2 ∙ sym (append-nil (commands_waiting old))
  accepts_waiting old new (Close l) a = ap (λ (v : NodeView D). commands_waiting v) a.2.2 ∙ sym (append-nil (commands_waiting old))
  accepts_waiting old new (Local command) a =
      let more : commands_in (old.inbox ++ inbound.Local command ∷ []) ≡ commands_in old.inbox ++ passing_command command =
      flat_map-append passing old.inbox (inbound.Local command ∷ []) ∙ ap (λ (l : List Command). commands_in old.inbox ++ l) (append-nil (passing_command command)) in
      ap (λ (v : NodeView D). commands_waiting v) a.2
      ∙ come_behind (commands_of old.ready) (commands_of (option_to_list old.pend_hand)) (commands_of old.pending.leaving) (commands_in old.inbox) (commands_in (old.inbox ++ inbound.Local command ∷ [])) (passing_command command) more
  accepts_waiting old new event a = absurd a

  sends_waiting : (old new : NodeView D) (event : Event) (bytes : List ℕ) → SendsOut old event bytes new → commands_waiting new ≡ commands_waiting old
  sends_waiting old new (Drain l) bytes a = ap (λ (v : NodeView D). commands_waiting v) a.is
  sends_waiting old new event bytes a = absurd a

-- ---- steps that move something

module _ {D : Type 0} (says : Says D) where
  -- what is in a reader's hand is no command
  hand_has_none : ReadingsAreInOrder → (p : Past) (v : NodeView D) → Flows says p v → (l : ℕ) (k : LinkView) (x : Inbound) (xs : List Inbound) → slice_get v.links l ≡ Some k → k.hand ≡ x ∷ xs → passing x ≡ []
  hand_has_none read p v f l k x xs there hand =
      let peer = peer_there v.config.peers l (rw (← f.count) (slice_get_within v.links l k there)) in
      let o = p.links l in
      let g = f.links l k there peer.0 peer.1 in
      none_of_link peer.0 v.config.me nothing_came (read_so_far o) o.given x xs
      (read peer.0 v.config.me (take o.taken o.items) (front_of_link peer.0 v.config.me never_open o.taken o.items g.shape))
      (sym g.hand ∙ hand)

  puts_waiting : ReadingsAreInOrder → (p : Past) (v : NodeView D) → Flows says p v → (l : ℕ) (k : LinkView) (x : Inbound) (xs : List Inbound) → slice_get v.links l ≡ Some k → k.hand ≡ x ∷ xs → commands_in (v.inbox ++ x ∷ []) ≡ commands_in v.inbox
  puts_waiting read p v f l k x xs there hand =
      flat_map-append passing v.inbox (x ∷ [])
      ∙ ap (λ (l : List Command). commands_in v.inbox ++ (l ++ [])) (hand_has_none read p v f l k x xs there hand)
      ∙ append-nil (commands_in v.inbox)

  hand_empty : (v : NodeView D) → v.pend_hand ≡ None → commands_of (option_to_list v.pend_hand) ≡ []
  hand_empty v none = ap (λ (o : Option Ready). commands_of (option_to_list o)) none

  brings_waiting : CommandsPass → (p : Past) (old new : NodeView D) → Flows says p old → old.pend_hand ≡ None → PendBrings old new → commands_waiting new ≡ commands_waiting old
  brings_waiting pass p old new f none b =
      let me = old.config.me in
      let peers = old.config.peers in
      let out : commands_of (b.thing ∷ []) ++ commands_of b.after'.leaving ≡ commands_of old.pending.leaving ++ [] =
      more_pass pass me peers f.arrived [] f.given (b.thing ∷ []) old.pending b.after' f.pending (b.passes me peers f.arrived f.given f.pending) in
      ap (λ (v : NodeView D). commands_waiting v) b.is
      ∙ sym (pass_on (commands_of old.ready) (commands_of (option_to_list old.pend_hand)) (commands_of old.pending.leaving) (commands_in old.inbox) (commands_of (b.thing ∷ [])) (commands_of b.after'.leaving) (commands_in old.inbox) [] (hand_empty old none) out refl)

  pends_waiting : CommandsPass → (p : Past) (old new : NodeView D) → Flows says p old → old.pend_hand ≡ None → PendTakes old new → commands_waiting new ≡ commands_waiting old
  pends_waiting pass p old new f none t =
      let me = old.config.me in
      let peers = old.config.peers in
      let took : Pends me peers (f.arrived ++ t.x ∷ []) (f.given ++ []) t.between = t.takes me peers f.arrived f.given f.pending in
      let one : commands_of t.between.leaving ≡ commands_of old.pending.leaving ++ commands_in (t.x ∷ []) =
      more_pass pass me peers f.arrived (t.x ∷ []) f.given [] old.pending t.between f.pending took in
      let two : commands_of (option_to_list t.thing) ++ commands_of t.after'.leaving ≡ commands_of t.between.leaving ++ [] =
      more_pass pass me peers (f.arrived ++ t.x ∷ []) [] (f.given ++ []) (option_to_list t.thing) t.between t.after' took (t.gives me peers (f.arrived ++ t.x ∷ []) (f.given ++ []) took) in
      let came : commands_in old.inbox ≡ commands_in (t.x ∷ []) ++ commands_in t.rest = ap (λ (xs : List Inbound). commands_in xs) t.inbox ∙ flat_map-append passing (t.x ∷ []) t.rest in
      ap (λ (v : NodeView D). commands_waiting v) t.is
      ∙ sym (pass_on (commands_of old.ready) (commands_of (option_to_list old.pend_hand)) (commands_of old.pending.leaving) (commands_in old.inbox) (commands_of (option_to_list t.thing)) (commands_of t.after'.leaving) (commands_in t.rest) (commands_in (t.x ∷ []))
      (hand_empty old none) (two ∙ append-nil (commands_of t.between.leaving) ∙ one) came)

  -- the hand is put behind the ready queue
  gives_waiting : (old new : NodeView D) (x : Ready) → old.pend_hand ≡ Some x → new ≡ record old { pend_hand = None; ready = old.ready ++ x ∷ [] } → commands_waiting new ≡ commands_waiting old
  gives_waiting old new x some is =
      let behind = commands_of old.pending.leaving ++ commands_in old.inbox in
      ap (λ (v : NodeView D). commands_waiting v) is
      ∙ ap (λ (l : List Command). l ++ behind) (flat_map-append passed old.ready (x ∷ []))
      ∙ append_assoc (commands_of old.ready) (commands_of (x ∷ [])) behind
      ∙ ap (λ (o : Option Ready). commands_of old.ready ++ (commands_of (option_to_list o) ++ behind)) (sym some)

  -- no Tick stands in front of the ready queue
  front_passes : CommandsPass → (p : Past) (v : NodeView D) → Flows says p v → (x : Ready) (rest : List Ready) → v.ready ≡ x ∷ rest → AllByRecursion IsPassed (passed x)
  front_passes pass p v f x rest queue =
      let behind = rest ++ option_to_list v.pend_hand in
      let out : commands_in f.arrived ≡ commands_of f.given ++ commands_of v.pending.leaving = sym (pass v.config.me v.config.peers f.arrived f.given v.pending f.pending) ∙ flat_map-append passed f.given v.pending.leaving in
      let given : f.given ≡ f.took ++ x ∷ behind = f.ready ∙ ap (λ (l : List Ready). f.took ++ (l ++ option_to_list v.pend_hand)) queue in
      let parts : commands_of f.given ≡ commands_of f.took ++ commands_of (x ∷ behind) = ap (λ (l : List Ready). commands_of l) given ∙ flat_map-append passed f.took (x ∷ behind) in
      let all : AllByRecursion IsPassed (commands_of f.given ++ commands_of v.pending.leaving) = subst (λ (l : List Command). AllByRecursion IsPassed l) out (all_pass f.arrived) in
      let mine : AllByRecursion IsPassed (commands_of f.took ++ commands_of (x ∷ behind)) = subst (λ (l : List Command). AllByRecursion IsPassed l) parts (all_apart IsPassed (commands_of f.given) (commands_of v.pending.leaving) all).0 in
      (all_apart IsPassed (passed x) (commands_of behind) (all_apart IsPassed (commands_of f.took) (commands_of (x ∷ behind)) mine).1).0

  slot_waiting : CommandsPass → (p : Past) (old new : NodeView D) → Flows says p old → SlotTakes says old new → commands_taken (taken_at SlotTake old new) ++ commands_waiting new ≡ commands_waiting old
  slot_waiting pass p old new f b =
      let behind = commands_of (option_to_list old.pend_hand) ++ (commands_of old.pending.leaving ++ commands_in old.inbox) in
      let front : taken_at SlotTake old new ≡ command_taken b.x b.took.command =
      ap (λ (q : List Ready). front_taken (slice_get q 0) new.last_command) b.ready
      ∙ ap (λ (o : Option CommandFate). command_taken b.x o) (ap (λ (v : NodeView D). v.last_command) b.is) in
      let one : commands_taken (taken_at SlotTake old new) ≡ passed b.x =
      ap (λ (t : List TakenCommand). commands_taken t) front ∙ thing_is says old.ledger b.x b.took b.tells (front_passes pass p old f b.x b.rest b.ready) in
      ap (λ (l : List Command). l ++ commands_waiting new) one
      ∙ ap (λ (v : NodeView D). passed b.x ++ commands_waiting v) b.is
      ∙ sym (append_assoc (passed b.x) (commands_of b.rest) behind)
      ∙ sym (ap (λ (q : List Ready). commands_of q ++ behind) b.ready)

  moves_waiting : CommandsPass → ReadingsAreInOrder → (p : Past) (old new : NodeView D) (event : Event) → Flows says p old → Moves says old event new → commands_taken (taken_at event old new) ++ commands_waiting new ≡ commands_waiting old
  moves_waiting pass read p old new (ReaderTake l) f a = ap (λ (v : NodeView D). commands_waiting v) a.2.4
  moves_waiting pass read p old new (ReaderPut l) f a =
      ap (λ (v : NodeView D). commands_waiting v) a.2.4
      ∙ ap (λ (l : List Command). commands_of old.ready ++ (commands_of (option_to_list old.pend_hand) ++ (commands_of old.pending.leaving ++ l))) (puts_waiting read p old f l a.0 a.2.1 a.2.2 a.1 a.2.3)
  moves_waiting pass read p old new PendTake f a = elim a.1 [
    | inl b ↦ brings_waiting pass p old new f a.0 b
    | inr t ↦ pends_waiting pass p old new f a.0 t
  ]
  moves_waiting pass read p old new PendPut f a = gives_waiting old new a.1 a.2 a.3
  moves_waiting pass read p old new SlotTake f a = slot_waiting pass p old new f a.1
  moves_waiting pass read p old new SlotPut f a = ap (λ (v : NodeView D). commands_waiting v) a.3
  moves_waiting pass read p old new ApplyTake f a = ap (λ (v : NodeView D). commands_waiting v) a.is
  moves_waiting pass read p old new event f a = absurd a

-- ---- one step more

module _ {D : Type 0} where
  grows : (given gave : List Command) (taken more : List TakenCommand) (old new : NodeView D) → AreInTurn given taken old → old.failed ≡ false → commands_taken more ++ commands_waiting new ≡ commands_waiting old ++ gave → AreInTurn (given ++ gave) (taken ++ more) new
  grows given gave taken more old new t runs moved = record {
    rest = commands_waiting new;
    first =
        ap (λ (l : List Command). l ++ gave) (t.first ∙ ap (λ (l : List Command). commands_taken taken ++ l) (t.waiting runs))
        ∙ append_assoc (commands_taken taken) (commands_waiting old) gave
        ∙ ap (λ (l : List Command). commands_taken taken ++ l) (sym moved)
        ∙ sym (append_assoc (commands_taken taken) (commands_taken more) (commands_waiting new))
        ∙ ap (λ (l : List Command). l ++ commands_waiting new) (sym (map-append (λ (c : TakenCommand). c.command) taken more));
    waiting = λ _. refl;
  }

  -- nothing is given or taken, and as much waits as before
  stays : (given : List Command) (taken : List TakenCommand) (old new : NodeView D) → AreInTurn given taken old → old.failed ≡ false → commands_waiting new ≡ commands_waiting old → AreInTurn (given ++ []) (taken ++ []) new
  stays given taken old new t runs same = grows given [] taken [] old new t runs (same ∙ sym (append-nil (commands_waiting old)))

  -- the node has failed
  ends : (given : List Command) (taken : List TakenCommand) (old new : NodeView D) → AreInTurn given taken old → new.failed ≡ true → AreInTurn (given ++ []) (taken ++ []) new
  ends given taken old new t failed = record {
    rest = t.rest;
    first = append-nil given ∙ t.first ∙ ap (λ (l : List TakenCommand). commands_taken l ++ t.rest) (sym (append-nil taken));
    waiting = λ runs. absurd (true_isnt (sym failed ∙ runs));
  }

  same_waits : (old new : NodeView D) → new ≡ old → commands_waiting new ≡ commands_waiting old
  same_waits old new e = ap (λ (v : NodeView D). commands_waiting v) e

module _ {D : Type 0} (says : Says D) where
  -- how a node that runs stands to its past
  flows_of : (past : List Exchange) (v : NodeView D) → v.failed ≡ false → LedgerTheorem says past v → Flows says (past_of v.config past) v
  flows_of past v runs h = subst (λ (w : NodeView D). Flows says (past_of v.config past) w) (sym (h.now runs)) h.flows

  by_reply : CommandsPass → ReadingsAreInOrder → (past : List Exchange) (old new : NodeView D) (event : Event) (reply : Reply) (given : List Command) (taken : List TakenCommand) → LedgerTheorem says past old → Step says old event reply new → AreInTurn given taken old → AreInTurn (given ++ given_by event reply) (taken ++ taken_by event reply old new) new
  by_reply pass read past old new event Failed given taken h s t = ends given taken old new t (ap (λ (v : NodeView D). v.failed) s.1 ∙ s.0)
  by_reply pass read past old new event Accepted given taken h s t = grows given (command_given event) taken [] old new t s.0 (accepts_waiting old new event s.1)
  by_reply pass read past old new event Moved given taken h s t =
      grows given [] taken (taken_at event old new) old new t s.0
      (moves_waiting says pass read (past_of old.config past) old new event (flows_of past old s.0 h) s.1 ∙ sym (append-nil (commands_waiting old)))
  by_reply pass read past old new event (Sent bytes) given taken h s t = stays given taken old new t s.0 (sends_waiting old new event bytes s.1)
  by_reply pass read past old new event JournalFull given taken h s t = ends given taken old new t s.0.failed
  by_reply pass read past old new event NoMemory given taken h s t = ends given taken old new t s.0.failed
  by_reply pass read past old new event NoLink given taken h s t = stays given taken old new t s.0 (same_waits old new s.2)
  by_reply pass read past old new event AlreadyOpen given taken h s t = stays given taken old new t s.0 (same_waits old new s.2)
  by_reply pass read past old new event LivesSpent given taken h s t = stays given taken old new t s.0 (same_waits old new s.2)
  by_reply pass read past old new event NotOpen given taken h s t = stays given taken old new t s.0 (same_waits old new s.2)
  by_reply pass read past old new event Full given taken h s t = stays given taken old new t s.0 (same_waits old new s.2)
  by_reply pass read past old new event Blocked given taken h s t = stays given taken old new t s.0 (same_waits old new s.2)
  by_reply pass read past old new event Idle given taken h s t = stays given taken old new t s.0 (same_waits old new s.2)

  pub steps_in_turn : CommandsPass → ReadingsAreInOrder → StepsTakeInTurn says
  steps_in_turn pass read = λ past old new event reply given taken h s t. by_reply pass read past old new event reply given taken h s t

  pub none_in_turn : NoneAreInTurn says
  none_in_turn = λ v h. record { rest = []; first = refl; waiting = λ _. sym (ap (λ (w : NodeView D). commands_waiting w) h.replies) }
