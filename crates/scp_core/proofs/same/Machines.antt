-- One input makes of machines that show the same machines that show the same, and gives one output.
use Rattle.std.proofs.Common.{◌≡◌, ◌≢◌, ℕ, ◌+◌, ◌≤◌, Bool, true, false, cond, List, length, refl, sym, ◌∙◌, ap, subst, inl, inr, arith}
use Rattle.std.specs.Prelude.{◌⊎◌, Option, Some, None, IsSome, is_some, option_map}
use Rattle.std.specs.Option.{ForSome}
use Rattle.std.specs.BTreeMap.{is_at}
use Rattle.std.proofs.lemmas.Cmp.{eq_by_cmp_equiv}
use Rattle.scp_theorem.specs.scp_types.specs.declared.names.NodeId.{NodeId}
use Rattle.scp_theorem.specs.scp_quorum.specs.NodeSet.{node_cmp}
use Rattle.scp_theorem.specs.scp_quorum.specs.QuorumTree.{QuorumTree}
use Rattle.scp_theorem.specs.scp_quorum.specs.Sane.{IsInRange}
use Rattle.scp_theorem.specs.scp_quorum.specs.SharedSet.{SharedSet as Shared}
use Rattle.scp_theorem.specs.scp_envelope.specs.Laws.{NewerIsIrreflexive}
use Rattle.scp_theorem.specs.scp_envelope.specs.Newer.{IsNewer, ArePledgesNewer}
use Rattle.scp_theorem.specs.scp_envelope.specs.Sane.{IsSane}
use Rattle.scp_theorem.specs.scp_envelope.specs.declared.statement.Envelope.{Envelope as Enveloped}
use Rattle.scp_theorem.specs.scp_envelope.specs.declared.statement.Pledges.{Pledges}
use Rattle.scp_theorem.specs.scp_envelope.specs.declared.statement.Statement.{Statement}
use Rattle.scp_theorem.specs.scp_driver.specs.declared.driver.Level.{Level}
use Rattle.scp_theorem.specs.scp_driver.specs.declared.driver.Level.TheVariants.{FullyValidated}
use Rattle.scp_theorem.specs.scp_vote.specs.Board.{kind_of_pledges}
use Rattle.scp_theorem.specs.scp_vote.specs.declared.claim.StatementKind.{StatementKind}
use Rattle.scp_theorem.specs.scp_vote.specs.declared.claim.StatementKind.TheVariants.{Nomination as Nominating, Balloting}
use Rattle.scp_theorem.specs.scp_nominate.specs.Laws.{ComingIsAFunction, HearingIsAFunction, GoAlike}
use Rattle.scp_theorem.specs.scp_nominate.specs.Nomination as nominate
use Rattle.scp_theorem.specs.scp_nominate.specs.Nomination.{Nomination, nomination}
use Rattle.scp_theorem.specs.scp_nominate.specs.declared.nominator.Nominator.{Nominator}
use Rattle.scp_theorem.specs.scp_ballot_rules.specs.Inputs.{Compose, Time}
use Rattle.scp_theorem.specs.scp_ballot_rules.specs.Laws.{ComposingIsAFunction, TimingIsAFunction, InputIsAFunction}
use Rattle.scp_theorem.specs.scp_slot.specs.Judged.{HasInvalid, IsBehind}
use Rattle.scp_theorem.specs.scp_slot.specs.Newest.{Puts}
use Rattle.scp_theorem.specs.scp_slot.specs.Slot.{SlotView, slot_view, driver_of}
use Rattle.scp_theorem.specs.scp_slot.specs.Takes.{Rests, Ballots, BallotsRest, PassesOn, Nominates, Proposes, AddsRound, Times, Enters, HearsNomination, HearsBallot, HearsKind, TakesEnvelope, TakesInput, Takes, NominatesBy, Decides, ballots_given, nomination_given}
use Rattle.scp_theorem.specs.scp_slot.specs.declared.machine.SlotMachine.{SlotMachine}
use Rattle.scp_theorem.specs.scp_slot.specs.declared.newest.Heard.{Heard as Kept}
use Rattle.scp_theorem.specs.scp_slot.specs.declared.output.SlotInput.{SlotInput}
use Rattle.scp_theorem.specs.scp_slot.specs.declared.output.SlotInput.TheVariants.{Propose, Round, Timer, Envelope}
use Rattle.scp_theorem.specs.scp_slot.specs.declared.output.SlotOutput.{SlotOutput}
use Rattle.scp_theorem.specs.scp_slot.specs.declared.output.Verdict.{Verdict}
use Rattle.scp_theorem.specs.scp_slot.specs.declared.output.Verdict.TheVariants.{Fresh, Stale, Own, BadStatement, BadValue, Idle}
use Rattle.scp_theorem.specs.scp_ledger.specs.Journal.{Heard}
use Rattle.scp_theorem.specs.scp_ledger.specs.Ledger.{heard_of, heard_at}
use Rattle.scp_core.specs.Same.{ShowSameSlot}
use Rattle.scp_core.proofs.same.Ones.{cases_one, node_order}
use Rattle.scp_core.proofs.same.Nominating.{statement_one, composite_one}
use Rattle.scp_core.proofs.same.Balloting.{IsOne, comes_one, hears_one, decided_one, Ascends}

-- what the layers below say
pub record SlotLaws (D : Type 0) : Type 0 where
  pub coming : ComingIsAFunction D
  pub hearing : HearingIsAFunction D
  pub composing : ComposingIsAFunction
  pub timing : TimingIsAFunction
  pub input : InputIsAFunction
  pub irreflexive : NewerIsIrreflexive

-- ---- what was heard

same_kind : StatementKind → StatementKind → Bool
same_kind Nominating Nominating = true
same_kind Nominating Balloting = false
same_kind Balloting Nominating = false
same_kind Balloting Balloting = true

abbrev Newest : Type 0
Newest = StatementKind → NodeId → Option Kept

pick : (k kind : StatementKind) (h : Kept) (old new : Newest) → ((v : NodeId) → new kind v ≡ cond (is_at (node_cmp h.statement.node) v) (Some h) (old kind v)) → ((other : StatementKind) → other ≢ kind → (v : NodeId) → new other v ≡ old other v) → (x : NodeId)
    → new k x ≡ cond (same_kind k kind) (cond (is_at (node_cmp h.statement.node) x) (Some h) (old k x)) (old k x)
unfolding same_kind
pick Nominating Nominating h old new its others x = its x
pick Nominating Balloting h old new its others x = others Nominating (λ e. cc) x
pick Balloting Nominating h old new its others x = others Balloting (λ e. cc) x
pick Balloting Balloting h old new its others x = its x

-- what is there of a kind and a node, once this was heard
abbrev stands_then : Heard → StatementKind → NodeId → Option Heard → Option Heard
stands_then h k x before = cond (same_kind k (kind_of_pledges h.statement.pledges)) (cond (is_at (node_cmp h.statement.node) x) (Some h) before) before

mapped : (h : Kept) (b c : Bool) (before : Option Kept) → option_map heard_of (cond b (cond c (Some h) before) before) ≡ cond b (cond c (Some (heard_of h)) (option_map heard_of before)) (option_map heard_of before)
mapped h true true before = refl
mapped h true false before = refl
mapped h false c before = refl

heard_then : (h : Kept) (old new : Newest) → Puts old new h → (k : StatementKind) (x : NodeId) → option_map heard_of (new k x) ≡ stands_then (heard_of h) k x (option_map heard_of (old k x))
heard_then h old new puts k x = ap (option_map heard_of) (pick k (kind_of_pledges h.statement.pledges) h old new puts.its_kind puts.other_kind x) ∙ mapped h (same_kind k (kind_of_pledges h.statement.pledges)) (is_at (node_cmp h.statement.node) x) (old k x)

entered : (e : Enveloped) (set other : Shared) (old u new w : SlotView) → set.value ≡ other.value → ((k : StatementKind) (x : NodeId) → heard_at k old x ≡ heard_at k u x) → Enters e set old new → Enters e other u w → (k : StatementKind) (x : NodeId) → heard_at k new x ≡ heard_at k w x
entered e set other old u new w sets same a b k x =
    let one : heard_of a.heard ≡ heard_of b.heard = λ i. record { statement = (a.statement ∙ sym b.statement) i; set = (a.with_set ∙ sets ∙ sym b.with_set) i } in
    heard_then a.heard old.newest new.newest a.puts k x
    ∙ ap (λ (h : Heard). stands_then h k x (heard_at k old x)) one
    ∙ ap (stands_then (heard_of b.heard) k x) (same k x)
    ∙ sym (heard_then b.heard u.newest w.newest b.puts k x)

behind : (s : Statement) (a b : Option Kept) → option_map heard_of a ≡ option_map heard_of b → IsBehind a s → IsBehind b s
behind s None b e h = absurd h
behind s (Some x) None e h = absurd (some_none x e)
  where
    some_none : (y : Kept) → Some (heard_of y) ≡ None → ⊥
    some_none y e = cc
behind s (Some x) (Some y) e h = λ n. h (subst (λ (t : Statement). IsNewer t s) (sym (ap (λ (z : Heard). z.statement) (one (heard_of x) (heard_of y) e))) n)
  where
    one : (p q : Heard) → Some p ≡ Some q → p ≡ q
    one p q e = cc

-- ---- the parts of an output

-- the ballots' part
record BallotPart (o p : SlotOutput) (v w : SlotView) : Type 0 where
  ballots : v.ballots ≡ w.ballots
  emitted : o.emitted.ballot ≡ p.emitted.ballot
  decided : o.decided ≡ p.decided
  more : o.more ≡ p.more
  still : v.more ≡ w.more
  settled : v.decided ≡ w.decided

-- and all of it
pub record Same (o p : SlotOutput) (v w : SlotView) : Type 0 where
  pub out : o ≡ p
  pub view : ShowSameSlot v w

output : (o p : SlotOutput) → o.verdict ≡ p.verdict → o.emitted.nomination ≡ p.emitted.nomination → o.emitted.ballot ≡ p.emitted.ballot → o.decided ≡ p.decided → o.more ≡ p.more → o ≡ p
output o p verdict nomination ballot decided more = λ i. record { verdict = verdict i; emitted = record { nomination = nomination i; ballot = ballot i }; decided = decided i; more = more i }

-- the same view, of another place of sets
abbrev pub with_newest : SlotView → Newest → Bool → SlotView
with_newest v n failed = record v { newest = n; failed = failed }

module _ (v : SlotView) (n : Newest) (failed : Bool) (alike : (k : StatementKind) (x : NodeId) → heard_at k v x ≡ option_map heard_of (n k x)) where
  at_first : ShowSameSlot v (with_newest v n failed)
  at_first = record { me = refl; slot = refl; nomination = refl; ballots = refl; heard = alike; decided = refl; more = refl }

  rests_one : (verdict : Verdict) (o p : SlotOutput) (a b : SlotView) → Rests verdict v o a → Rests verdict (with_newest v n failed) p b → Same o p a b
  rests_one verdict o p a b x y = record { out = x.quiet ∙ sym y.quiet; view = subst (λ (u : SlotView). ShowSameSlot u b) (sym x.same) (subst (λ (u : SlotView). ShowSameSlot v u) (sym y.same) at_first) }

-- ---- one input

-- the same input, but for the place of a set
abbrev pub SameInput : SlotInput → SlotInput → Type 0
SameInput (Propose value) h = h ≡ Propose value
SameInput Round h = h ≡ Round
SameInput Timer h = h ≡ Timer
SameInput (Envelope e set) h = (there : Shared) × (h ≡ Envelope e there) × (set.value ≡ there.value)

module _ {D : Type 0} (level : D → ℕ → List ℕ → Level) (extracted : D → ℕ → List ℕ → Option (List ℕ)) (place : D → ℕ → ℕ → ℕ → ℕ) (law : SlotLaws D) where
  -- how a nominator is made, and what it goes by
  record Goes (old : Nomination) (proposal : Option (List ℕ)) (rounds : ℕ) (m : Nominator D) : Type 0 where
    making : nominate.KeepsMaking old (nomination m)
    proposal_is : (nomination m).proposal ≡ proposal
    rounds_are : (nomination m).rounds ≡ rounds
    works : (nomination m).failed ≡ false

  alike : (old : Nomination) (proposal : Option (List ℕ)) (rounds : ℕ) (m n : Nominator D) → nominate.driver_of n ≡ nominate.driver_of m → Goes old proposal rounds m → Goes old proposal rounds n → GoAlike m n
  alike old proposal rounds m n driver g h = record {
    driver = driver;
    slot = h.making.slot ∙ sym g.making.slot;
    nodes = h.making.nodes ∙ sym g.making.nodes;
    rounds = h.rounds_are ∙ sym g.rounds_are;
    proposal = h.proposal_is ∙ sym g.proposal_is;
  }

  held : (old : Nomination) (proposal : Option (List ℕ)) (rounds : ℕ) (m n : Nominator D) → Goes old proposal rounds m → Goes old proposal rounds n → (nomination m).board ≡ (nomination n).board → (nomination m).lists ≡ (nomination n).lists → nomination m ≡ nomination n
  held old proposal rounds m n g h board lists = λ i. record {
    slot = (g.making.slot ∙ sym h.making.slot) i;
    hash = (g.making.hash ∙ sym h.making.hash) i;
    board = board i;
    lists = lists i;
    proposal = (g.proposal_is ∙ sym h.proposal_is) i;
    nodes = (g.making.nodes ∙ sym h.making.nodes) i;
    rounds = (g.rounds_are ∙ sym h.rounds_are) i;
    failed = (g.works ∙ sym h.works) i;
  }

  by_steps : {X Y : Type 0} → X ⊎ Y → (X → ⊥) → Y
  by_steps h never = elim h [
    | inl x ↦ absurd (never x)
    | inr y ↦ y
  ]

  module _ (combined : List (List ℕ) → List ℕ) (v : SlotView) (n : Newest) (failed : Bool) (same : (k : StatementKind) (x : NodeId) → heard_at k v x ≡ option_map heard_of (n k x)) where
    abbrev other : SlotView
    other = with_newest v n failed

    module _ (o p : SlotOutput) (a b : SlotView) (decides : Decides v o a) (settles : Decides other p b) (up : ForSome o.decided Ascends) (ascends : ForSome p.decided Ascends) where
      -- ballots that take an input
      ballots_one : Ballots v o a → Ballots other p b → IsOne a.ballots b.ballots (ballots_given o) (ballots_given p) → BallotPart o p a b
      ballots_one x y one =
          let decided : o.decided ≡ p.decided = decided_one v.ballots a.ballots b.ballots o.decided p.decided one.ballots decides.exactly settles.exactly decides.certified settles.certified up ascends in
          record {
            ballots = one.ballots;
            emitted = one.statement;
            decided = decided;
            more = one.more;
            still = x.more ∙ one.more ∙ sym y.more;
            settled = x.settled ∙ ap is_some decided ∙ sym y.settled;
          }

      rest_one : BallotsRest v o a → BallotsRest other p b → BallotPart o p a b
      rest_one x y = record {
        ballots = x.ballots ∙ sym y.ballots;
        emitted = x.emitted ∙ sym y.emitted;
        decided = x.decided ∙ sym y.decided;
        more = x.more ∙ sym y.more;
        still = x.still ∙ sym y.still;
        settled = x.settled ∙ sym y.settled;
      }

      passes_one : (composite : Option (List ℕ)) → PassesOn composite v o a → PassesOn composite other p b → BallotPart o p a b
      passes_one None x y = rest_one x y
      passes_one (Some z) x y = ballots_one x.ballots y.ballots (comes_one law.input (λ s t. Compose s.phase z s t) (λ s t u h k. law.composing s.phase z s t u h k) v.ballots.board v.ballots.board v.ballots a.ballots b.ballots (ballots_given o) (ballots_given p) refl x.exact y.exact x.ballots.advances y.ballots.advances x.ballots.working y.ballots.working)

      -- a nomination that takes an input, and comes to one
      nominated : a.nomination ≡ b.nomination → a.me ≡ b.me → a.slot ≡ b.slot → ((k : StatementKind) (x : NodeId) → heard_at k a x ≡ heard_at k b x) → Nominates combined v o a → Nominates combined other p b → Same o p a b
      nominated one me slot heard x y =
          let theirs : nominate.Advances combined (nominate.own v.nomination) v.nomination.lists a.nomination (nomination_given p y.composite) = subst (λ (m : Nomination). nominate.Advances combined (nominate.own v.nomination) v.nomination.lists m (nomination_given p y.composite)) (sym one) y.advances in
          let said : o.emitted.nomination ≡ p.emitted.nomination = statement_one combined v.nomination a.nomination (nomination_given o x.composite) (nomination_given p y.composite) x.advances theirs in
          let composite : x.composite ≡ y.composite = composite_one combined v.nomination.lists.candidates a.nomination.lists.candidates x.composite y.composite x.advances.composite theirs.composite in
          let part : BallotPart o p a b = passes_one x.composite x.passed (subst (λ (z : Option (List ℕ)). PassesOn z other p b) (sym composite) y.passed) in
          record {
            out = output o p (x.verdict ∙ sym y.verdict) said part.emitted part.decided part.more;
            view = record { me = me; slot = slot; nomination = one; ballots = part.ballots; heard = heard; decided = part.settled; more = part.still };
          }

      -- ballots alone
      balloted : a.nomination ≡ b.nomination → a.me ≡ b.me → a.slot ≡ b.slot → ((k : StatementKind) (x : NodeId) → heard_at k a x ≡ heard_at k b x) → o.verdict ≡ p.verdict → o.emitted.nomination ≡ p.emitted.nomination → BallotPart o p a b → Same o p a b
      balloted one me slot heard verdict said part = record {
        out = output o p verdict said part.emitted part.decided part.more;
        view = record { me = me; slot = slot; nomination = one; ballots = part.ballots; heard = heard; decided = part.settled; more = part.still };
      }

    -- what stays heard
    stays : (a b : SlotView) → a.newest ≡ v.newest → b.newest ≡ n → (k : StatementKind) (x : NodeId) → heard_at k a x ≡ heard_at k b x
    stays a b e f k x = ap (λ (m : Newest). option_map heard_of (m k x)) e ∙ same k x ∙ sym (ap (λ (m : Newest). option_map heard_of (m k x)) f)

    module _ (range : IsInRange v.nomination.board.local) (o p : SlotOutput) (one two : SlotMachine D) (driver : driver_of two ≡ driver_of one) (decides : Decides v o (slot_view one)) (settles : Decides other p (slot_view two)) (up : ForSome o.decided Ascends) (ascends : ForSome p.decided Ascends) where
      abbrev a : SlotView
      a = slot_view one

      abbrev b : SlotView
      b = slot_view two

      abbrev m : Nominator D
      m = one.state.value.nominator

      abbrev w : Nominator D
      w = two.state.value.nominator

      comes_same : (proposal : Option (List ℕ)) (rounds : ℕ) → Goes v.nomination proposal rounds m → Goes v.nomination proposal rounds w → nominate.ComesFrom level extracted place v.nomination v.nomination.board m → nominate.ComesFrom level extracted place v.nomination v.nomination.board w → a.nomination ≡ b.nomination
      comes_same proposal rounds g h x y = let r = law.coming level extracted place v.nomination v.nomination.board m w range (alike v.nomination proposal rounds m w driver g h) x y in held v.nomination proposal rounds m w g h r.0 r.1

      proposes_one : (value : List ℕ) → (IsSome v.nomination.proposal → ⊥) → Proposes combined value v o a → Proposes combined value other p b → NominatesBy level extracted place v.nomination (Propose value) m → NominatesBy level extracted place v.nomination (Propose value) w → Same o p a b
      proposes_one value none x y s t =
          let changed : (q : Nomination) → q.proposal ≡ Some value → q ≡ v.nomination → ⊥ = λ q is e. none (ap is_some (sym (ap (λ (r : Nomination). r.proposal) e) ∙ is)) in
          let g : Goes v.nomination (Some value) v.nomination.rounds m = record { making = x.nominates.making; proposal_is = x.proposal; rounds_are = x.rounds; works = x.nominates.working } in
          let h : Goes v.nomination (Some value) v.nomination.rounds w = record { making = y.nominates.making; proposal_is = y.proposal; rounds_are = y.rounds; works = y.nominates.working } in
          nominated o p a b decides settles up ascends
          (comes_same (Some value) v.nomination.rounds g h (by_steps s (changed a.nomination x.proposal)) (by_steps t (changed b.nomination y.proposal)))
          (x.machine.me ∙ sym y.machine.me) (x.machine.slot ∙ sym y.machine.slot) (stays a b x.newest y.newest) x.nominates y.nominates

      round_one : AddsRound combined v o a → AddsRound combined other p b → NominatesBy level extracted place v.nomination Round m → NominatesBy level extracted place v.nomination Round w → Same o p a b
      round_one x y s t =
          let changed : (q : Nomination) → q.rounds ≡ v.nomination.rounds + 1 → q ≡ v.nomination → ⊥ = λ q is e. omega (arith, is, ap (λ (r : Nomination). r.rounds) e) in
          let g : Goes v.nomination v.nomination.proposal (v.nomination.rounds + 1) m = record { making = x.nominates.making; proposal_is = x.proposal; rounds_are = x.rounds; works = x.nominates.working } in
          let h : Goes v.nomination v.nomination.proposal (v.nomination.rounds + 1) w = record { making = y.nominates.making; proposal_is = y.proposal; rounds_are = y.rounds; works = y.nominates.working } in
          nominated o p a b decides settles up ascends
          (comes_same v.nomination.proposal (v.nomination.rounds + 1) g h (by_steps s (changed a.nomination x.rounds)) (by_steps t (changed b.nomination y.rounds)))
          (x.machine.me ∙ sym y.machine.me) (x.machine.slot ∙ sym y.machine.slot) (stays a b x.newest y.newest) x.nominates y.nominates

      timer_one : Times v o a → Times other p b → Same o p a b
      timer_one x y =
          let part : BallotPart o p a b = ballots_one o p a b decides settles up ascends x.ballots y.ballots (comes_one law.input (λ s t. Time s t) law.timing v.ballots.board v.ballots.board v.ballots a.ballots b.ballots (ballots_given o) (ballots_given p) refl x.exact y.exact x.ballots.advances y.ballots.advances x.ballots.working y.ballots.working) in
          let verdict : o.verdict ≡ p.verdict = cases_one (IsSome o.emitted.ballot) (IsSome p.emitted.ballot) (o.verdict ≡ Fresh) (o.verdict ≡ Idle) (p.verdict ≡ Fresh) (p.verdict ≡ Idle) x.verdict y.verdict
          (λ s. sym (ap is_some part.emitted) ∙ s) (λ s. ap is_some part.emitted ∙ s) (λ _ e f. e ∙ sym f) (λ _ e f. e ∙ sym f) in
          balloted o p a b decides settles up ascends (x.nomination ∙ sym y.nomination) (x.machine.me ∙ sym y.machine.me) (x.machine.slot ∙ sym y.machine.slot) (stays a b x.newest y.newest) verdict (x.emitted ∙ sym y.emitted) part

      module _ (e : Enveloped) (set there : Shared) (sets : set.value ≡ there.value) where
        ballot_heard : HearsBallot e set v o a → HearsBallot e there other p b → Same o p a b
        ballot_heard x y =
            let board : x.exact.board ≡ y.exact.board = hears_one v.ballots e set.value there.value x.exact.board y.exact.board sets x.exact.hears y.exact.hears in
            let part : BallotPart o p a b = ballots_one o p a b decides settles up ascends x.ballots y.ballots (comes_one law.input (λ s t. t ≡ s) (λ s t u f g. f ∙ sym g) x.exact.board y.exact.board v.ballots a.ballots b.ballots (ballots_given o) (ballots_given p) board x.exact.comes y.exact.comes x.ballots.advances y.ballots.advances x.ballots.working y.ballots.working) in
            balloted o p a b decides settles up ascends (x.nomination ∙ sym y.nomination) (x.machine.me ∙ sym y.machine.me) (x.machine.slot ∙ sym y.machine.slot) (entered e set there v other a b sets same x.enters y.enters) (x.verdict ∙ sym y.verdict) (x.emitted ∙ sym y.emitted) part

        -- where a nomination is heard, it wasn't on the board before
        was_new : (shows : v.nomination.board.statement e.statement.node ≡ option_map (λ (h : Kept). h.statement.pledges) (v.newest Nominating e.statement.node)) → (¬ (IsBehind (v.newest Nominating e.statement.node) e.statement)) → v.nomination.board.statement e.statement.node ≡ Some e.statement.pledges → ⊥
        was_new shows fresh stood = by_newest (v.newest Nominating e.statement.node) (sym shows ∙ stood) fresh
          where
            by_newest : (k : Option Kept) → option_map (λ (h : Kept). h.statement.pledges) k ≡ Some e.statement.pledges → (¬ (IsBehind k e.statement)) → ⊥
            by_newest None is fresh = cc
            by_newest (Some k) is fresh = fresh (λ newer. law.irreflexive e.statement (record { same_node = refl; same_slot = refl; newer = subst (λ (q : Pledges). ArePledgesNewer q e.statement.pledges) (pledged k.statement.pledges e.statement.pledges is) newer.newer }))
              where
                pledged : (q r : Pledges) → Some q ≡ Some r → q ≡ r
                pledged q r e = cc

        nomination_heard : (e.statement.node ≢ v.nomination.board.me) → (v.nomination.board.statement e.statement.node ≡ option_map (λ (h : Kept). h.statement.pledges) (v.newest Nominating e.statement.node)) → (¬ (IsBehind (v.newest Nominating e.statement.node) e.statement)) → HearsNomination combined e set v o a → HearsNomination combined e there other p b
            → NominatesBy level extracted place v.nomination (Envelope e set) m → NominatesBy level extracted place v.nomination (Envelope e there) w → Same o p a b
        nomination_heard others shows fresh x y s t =
            let itself : is_at (node_cmp e.statement.node) e.statement.node ≡ true = (eq_by_cmp_equiv node_order).refl e.statement.node in
            let stands : (q : Nomination) (c : Bool) → c ≡ true → q.board.statement e.statement.node ≡ cond c (Some e.statement.pledges) (v.nomination.board.statement e.statement.node) → q ≡ v.nomination → ⊥ =
            λ q c is at same. was_new shows fresh (sym (ap (λ (r : Nomination). r.board.statement e.statement.node) same) ∙ at ∙ ap (λ (d : Bool). cond d (Some e.statement.pledges) (v.nomination.board.statement e.statement.node)) is) in
            let g : Goes v.nomination v.nomination.proposal v.nomination.rounds m = record { making = x.nominates.making; proposal_is = x.proposal; rounds_are = x.rounds; works = x.nominates.working } in
            let h : Goes v.nomination v.nomination.proposal v.nomination.rounds w = record { making = y.nominates.making; proposal_is = y.proposal; rounds_are = y.rounds; works = y.nominates.working } in
            let from = by_steps s (stands a.nomination (is_at (node_cmp e.statement.node) e.statement.node) itself (x.hears.statements e.statement.node others)) in
            let to = by_steps t (stands b.nomination (is_at (node_cmp e.statement.node) e.statement.node) itself (y.hears.statements e.statement.node others)) in
            let r = law.hearing level extracted place v.nomination e set.value m w range (alike v.nomination v.nomination.proposal v.nomination.rounds m w driver g h) from (subst (λ (q : QuorumTree). nominate.ComesFromHearing level extracted place v.nomination e q w) (sym sets) to) in
            nominated o p a b decides settles up ascends (held v.nomination v.nomination.proposal v.nomination.rounds m w g h r.0 r.1)
            (x.machine.me ∙ sym y.machine.me) (x.machine.slot ∙ sym y.machine.slot) (entered e set there v other a b sets same x.enters y.enters) x.nominates y.nominates

        -- a fresh envelope
        heard_one : (kind : StatementKind) → kind ≡ kind_of_pledges e.statement.pledges → e.statement.node ≢ v.nomination.board.me → (v.nomination.board.statement e.statement.node ≡ option_map (λ (h : Kept). h.statement.pledges) (v.newest Nominating e.statement.node)) → (¬ (IsBehind (v.newest (kind_of_pledges e.statement.pledges) e.statement.node) e.statement))
            → HearsKind kind combined e set v o a → HearsKind kind combined e there other p b → NominatesBy level extracted place v.nomination (Envelope e set) m → NominatesBy level extracted place v.nomination (Envelope e there) w → Same o p a b
        heard_one Nominating is others shows fresh x y s t = nomination_heard others shows (subst (λ (k : StatementKind). ¬ (IsBehind (v.newest k e.statement.node) e.statement)) (sym is) fresh) x y s t
        heard_one Balloting is others shows fresh x y s t = ballot_heard x y

        -- any envelope
        envelope_one : (valid : List ℕ → Level) → v.nomination.board.me ≡ v.me → ((u : NodeId) → u ≢ v.nomination.board.me → v.nomination.board.statement u ≡ option_map (λ (h : Kept). h.statement.pledges) (v.newest Nominating u))
            → TakesEnvelope valid combined e set v o a → TakesEnvelope valid combined e there other p b → NominatesBy level extracted place v.nomination (Envelope e set) m → NominatesBy level extracted place v.nomination (Envelope e there) w → Same o p a b
        envelope_one valid me shows x y s t =
            let statement = e.statement in
            let kind = kind_of_pledges statement.pledges in
            cases_one (statement.node ≡ v.me) (statement.node ≡ v.me) _ _ _ _ x y (λ q. q) (λ q. q) (λ _ h k. rests_one v n failed same Own o p a b h k) (λ others x2 y2.
            cases_one (¬ (IsSane statement.pledges)) (¬ (IsSane statement.pledges)) _ _ _ _ x2 y2 (λ q. q) (λ q. q) (λ _ h k. rests_one v n failed same BadStatement o p a b h k) (λ _ x3 y3.
            cases_one (HasInvalid valid statement.pledges) (HasInvalid valid statement.pledges) _ _ _ _ x3 y3 (λ q. q) (λ q. q) (λ _ h k. rests_one v n failed same BadValue o p a b h k) (λ _ x4 y4.
            cases_one (IsBehind (v.newest kind statement.node) statement) (IsBehind (n kind statement.node) statement) _ _ _ _ x4 y4
            (behind statement (v.newest kind statement.node) (n kind statement.node) (same kind statement.node))
            (behind statement (n kind statement.node) (v.newest kind statement.node) (sym (same kind statement.node)))
            (λ _ h k. rests_one v n failed same Stale o p a b h k)
            (λ fresh h k. let apart : statement.node ≢ v.nomination.board.me = λ is. others (is ∙ me) in heard_one kind refl apart (shows statement.node apart) fresh h k s t))))

      -- ---- all inputs

      abbrev Takings : (List ℕ → Level) → SlotInput → Type 0
      Takings valid h = TakesInput valid combined h other p b × NominatesBy level extracted place v.nomination h w

      input_one : (valid : List ℕ → Level) → v.nomination.board.me ≡ v.me → ((u : NodeId) → u ≢ v.nomination.board.me → v.nomination.board.statement u ≡ option_map (λ (h : Kept). h.statement.pledges) (v.newest Nominating u)) → (g h : SlotInput) → SameInput g h
          → TakesInput valid combined g v o a → NominatesBy level extracted place v.nomination g m → TakesInput valid combined h other p b → NominatesBy level extracted place v.nomination h w → Same o p a b
      input_one valid me shows (Propose value) h is x s y t =
          let z : Takings valid (Propose value) = subst (λ (k : SlotInput). Takings valid k) is (y, t) in
          cases_one (valid value ≢ FullyValidated) (valid value ≢ FullyValidated) _ _ _ _ x z.0 (λ q. q) (λ q. q) (λ _ f g. rests_one v n failed same BadValue o p a b f g) (λ _ x2 y2.
          cases_one (IsSome v.nomination.proposal) (IsSome v.nomination.proposal) _ _ _ _ x2 y2 (λ q. q) (λ q. q) (λ _ f g. rests_one v n failed same Idle o p a b f g) (λ none f g. proposes_one value none f g s z.1))
      input_one valid me shows Round h is x s y t =
          let z : Takings valid Round = subst (λ (k : SlotInput). Takings valid k) is (y, t) in
          cases_one (length v.nomination.nodes ≤ v.nomination.rounds) (length v.nomination.nodes ≤ v.nomination.rounds) _ _ _ _ x z.0 (λ q. q) (λ q. q) (λ _ f g. rests_one v n failed same Idle o p a b f g) (λ _ f g. round_one f g s z.1)
      input_one valid me shows Timer h is x s y t =
          let z : Takings valid Timer = subst (λ (k : SlotInput). Takings valid k) is (y, t) in
          timer_one x z.0
      input_one valid me shows (Envelope e set) h is x s y t =
          let z : Takings valid (Envelope e is.0) = subst (λ (k : SlotInput). Takings valid k) is.1 (y, t) in
          envelope_one e set is.0 is.2 valid me shows x z.0 s z.1

      pub takes_one : (valid : List ℕ → Level) → v.nomination.board.me ≡ v.me → ((u : NodeId) → u ≢ v.nomination.board.me → v.nomination.board.statement u ≡ option_map (λ (h : Kept). h.statement.pledges) (v.newest Nominating u)) → (g h : SlotInput) → SameInput g h
          → Takes valid combined g v o a → NominatesBy level extracted place v.nomination g m → Takes valid combined h other p b → NominatesBy level extracted place v.nomination h w → Same o p a b
      takes_one valid me shows g h is x s y t =
          cases_one (v.decided ≡ true) (v.decided ≡ true) _ _ _ _ x y (λ q. q) (λ q. q) (λ _ f k. rests_one v n failed same Idle o p a b f k) (λ _ f k. input_one valid me shows g h is f s k t)
