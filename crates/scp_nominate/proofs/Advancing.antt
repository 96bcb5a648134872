-- What an input gives, from what holds while the steps are repeated.
use Rattle.std.proofs.Common.{◌≡◌, ◌≢◌, ◌<◌, ◌≤◌, ◌↔◌, ℕ, Bool, true, false, List, [], ◌∷◌, Option, Some, None, IsSome, is_some, length, refl, sym, ◌∙◌, ap, subst, cond, inl, inr, arith, Contains}
use Rattle.std.specs.Option.{ForSome, option_map}
use Rattle.std.specs.BTreeMap.{is_at}
use Rattle.std.proofs.lemmas.List.Elements.{Contains-get_or}
use Rattle.std.specs.List.Sorted.{IsStrictlySortedBy}
use Rattle.scp_vote.specs.scp_types.specs.declared.names.NodeId.{NodeId}
use Rattle.scp_vote.specs.scp_types.specs.declared.names.Hash.{Hash}
use Rattle.scp_vote.specs.scp_quorum.specs.NodeSet.{node_cmp}
use Rattle.scp_vote.specs.scp_quorum.specs.QuorumTree.{QuorumTree}
use Rattle.scp_vote.specs.scp_envelope.specs.declared.statement.Pledges.{Pledges}
use Rattle.scp_vote.specs.scp_envelope.specs.declared.statement.Envelope.{Envelope}
use Rattle.scp_vote.specs.scp_envelope.specs.Newer.{ArePledgesNewer, ContainsAll}
use Rattle.scp_vote.specs.scp_envelope.specs.Sane.{IsSane}
use Rattle.scp_vote.specs.declared.claim.Claim.TheVariants.{Nominated as IsNominated}
use Rattle.scp_vote.specs.declared.claim.Support.TheVariants.{VotesOrAccepts}
use Rattle.scp_vote.specs.Claims.{Stands}
use Rattle.scp_vote.specs.Board.{Seen, counted_of_other}
use Rattle.scp_vote.specs.Licence.{with_own, Leads as LeadsTo, Licensed}
use Rattle.scp_vote.proofs.Same.{follows_same}
use Rattle.scp_vote.specs.inside.Chain.{IsSame, IsChain}
use Rattle.scp_nominate.specs.Heard.{heard}
use Rattle.scp_nominate.specs.declared.values.ValueSet.{ValueSet}
use Rattle.scp_nominate.specs.declared.lists.Lists.{Lists}
use Rattle.scp_nominate.specs.declared.state.State.{State}
use Rattle.scp_nominate.specs.declared.nominated.Nominated.{Nominated}
use Rattle.scp_nominate.specs.Values.{Has}
use Rattle.scp_nominate.specs.Own.{own_of, StandsFor, IsReady}
use Rattle.scp_nominate.specs.Owed.{OwnLists, OwesNothing, Names}
use Rattle.scp_nominate.specs.Steps.{own_lists}
use Rattle.scp_nominate.specs.State.{own_at, IsAtRest}
use Rattle.scp_nominate.specs.inside.State.{IsSettling, IsOwnOf, HearsOne, StateBegins}
use Rattle.scp_nominate.specs.Given.{IsWorth}
use Rattle.scp_driver.specs.declared.driver.Level.{Level}
use Rattle.scp_driver.specs.Driver.{IsFull}
use Rattle.scp_nominate.specs.declared.nominator.Nominator.{Nominator}
use Rattle.scp_nominate.specs.Turns.{Leads, AreInTurn}
use Rattle.scp_nominate.specs.Nomination.{IsWorking, nomination_of, Advances, KeepsOthers, Hears}
use Rattle.scp_nominate.proofs.Options.{some_and, at_some, none_some, same_some_and}
use Rattle.scp_nominate.proofs.Growing.{more_has}
use Rattle.scp_nominate.proofs.Suggesting.{decided, apart}
use Rattle.scp_nominate.proofs.Settling.{settling_start}

twice : {A : Type 0} (t : Bool) (x y z : A) → cond t x (cond t y z) ≡ cond t x z
twice true x y z = refl
twice false x y z = refl

-- the licence speaks only of the others' part of the board
module _ (others now : Seen) (own : Option Pledges) (same : IsSame (with_own others own) now) where
  with_now : (p : Option Pledges) → IsSame (with_own others p) (with_own now p)
  with_now p = record {
    me = same.me;
    local = same.local;
    statement = λ v.
        ap (λ w. cond (is_at (node_cmp w) v) p (now.statement v)) same.me
        ∙ ap (λ o. cond (is_at (node_cmp others.me) v) p o) (same.statement v)
        ∙ twice (is_at (node_cmp others.me) v) p own (others.statement v);
    counted = λ v.
        ap (λ w. cond (is_at (node_cmp w) v) (option_map (λ _. now.local) p) (now.counted v)) same.me
        ∙ ap (λ (l : QuorumTree). cond (is_at (node_cmp others.me) v) (option_map (λ _. l) p) (now.counted v)) same.local
        ∙ ap (λ o. cond (is_at (node_cmp others.me) v) (option_map (λ _. others.local) p) o) (same.counted v)
        ∙ twice (is_at (node_cmp others.me) v) (option_map (λ _. others.local) p) (option_map (λ _. others.local) own) (others.counted v);
  }

  leads_now : (first : Option Pledges) (qs : List Pledges) (last : Option Pledges) → LeadsTo others first qs last → LeadsTo now first qs last
  leads_now first [] last e = e
  leads_now first (q ∷ qs) last h = (follows_same (with_own others first) (with_own now first) (with_now first) first q h.0, leads_now (Some q) qs last h.1)

  pub keeps_others : KeepsOthers others now
  keeps_others = record {
    statements = λ v differ. same.statement v ∙ ap (λ t. cond t own (others.statement v)) (apart others.me v (λ e. differ (sym e)));
    sets = λ v differ. same.counted v ∙ ap (λ t. cond t (option_map (λ _. others.local) own) (others.counted v)) (apart others.me v (λ e. differ (sym e)));
  }

pub licensed_now : (others : Seen) (first : Option Pledges) (now : Seen) → IsChain others first now → Licensed now first (now.statement now.me)
licensed_now others first now chain = (chain.licensed.0, leads_now others now (now.statement now.me) chain.board first chain.licensed.0 (now.statement now.me) chain.licensed.1)

contains_self : (xs : List (List ℕ)) → ContainsAll xs xs
unfolding ContainsAll
contains_self xs k d lt = Contains-get_or xs k d lt

not_newer : (hash : Hash) (s : Lists) → ArePledgesNewer (own_of hash s) (own_of hash s) → ⊥
not_newer hash s newer = elim newer.larger [ inl not ↦ not (contains_self s.votes.values.items) | inr not ↦ not (contains_self s.accepted.values.items) ]

-- a repeated statement isn't worth emitting
worthless : (before now : Option Pledges) (hash : Hash) (s : Lists) → StandsFor now hash s → now ≡ before → IsWorth before now → ⊥
worthless before now hash s (inl e) same worth =
    let q = own_of hash s in
    let told = at_some (λ q. IsSane q × ForSome before (λ p. ArePledgesNewer p q)) now q e worth in
    not_newer hash s (told.1 q (sym same ∙ e))
worthless before now hash s (inr e) same worth = same_some_and (λ q. IsSane q × ForSome before (λ p. ArePledgesNewer p q)) now None e.0 worth

some_true : {A : Type 0} (o : Option A) (x : A) → o ≡ Some x → is_some o ≡ true
some_true o x e = ap is_some e

module _ (full : List ℕ → Type 0) (combined : List (List ℕ) → List ℕ) (m n : State) (slot : ℕ) (p : Option (List ℕ)) (nodes : List NodeId) (rounds : ℕ) (f : Bool) (given : Nominated) (s : IsSettling full m n (is_some given.statement)) where
  emitted_to : IsSome given.statement → IsWorth (own_at m) (own_at n)
  emitted_to h = elim s.told [
    | inl same ↦ let k : false ≡ true = sym same.0 ∙ h in absurd (let e : false ≡ true = k in cc)
    | inr told ↦ some_and (λ q. IsSane q × ForSome (own_at m) (λ p. ArePledgesNewer p q)) (own_at n) (own_of n.hash n.lists) told.1 (told.2.sane, told.2.newer)
  ]

  emitted_from : IsWorth (own_at m) (own_at n) → IsSome given.statement
  emitted_from worth = elim s.told [ inl same ↦ absurd (worthless (own_at m) (own_at n) n.hash n.lists s.stands same.1 worth) | inr told ↦ told.0 ]

  stands_now : (e : Envelope) → given.statement ≡ Some e → own_at n ≡ Some (own_of n.hash n.lists)
  stands_now e is = elim s.told [ inl same ↦ let k : false ≡ true = sym same.0 ∙ some_true given.statement e is in absurd (let j : false ≡ true = k in cc) | inr told ↦ told.1 ]

  stays_now : given.statement ≡ None → own_at n ≡ own_at m
  stays_now none = elim s.told [ inl same ↦ same.1 | inr told ↦ let k : false ≡ true = sym (ap is_some none) ∙ told.0 in absurd (let j : false ≡ true = k in cc) ]

  pub advances : ForSome given.statement (λ e. IsOwnOf n slot e) → (IsSome given.composite ↔ (length m.lists.candidates.values.items < length n.lists.candidates.values.items)) → ForSome given.composite (λ v. v ≡ combined n.lists.candidates.values.items) → Advances combined (own_at m) (own_lists m.lists) (nomination_of n slot p nodes rounds f) given
  advances own grew all = record {
    licensed = licensed_now (heard m.board) (own_at m) (heard n.board) s.chain;
    emitted = (emitted_to, emitted_from);
    statement = λ e is. record {
      node = (own e is).node;
      slot = (own e is).slot;
      pledges = (own e is).pledges;
      stands = stands_now e is ∙ ap Some (sym (own e is).pledges);
      unsigned = (own e is).unsigned;
    };
    still = λ none. stays_now none;
    keeps = record {
      votes = λ v h. more_has m.lists.votes n.lists.votes v s.votes h;
      accepted = λ v h. more_has m.lists.accepted n.lists.accepted v s.accepted h;
      candidates = λ v h. more_has m.lists.candidates n.lists.candidates v s.candidates h;
    };
    confirmed = s.confirmed;
    composite = record { grew = grew; all = all; ascending = n.lists.candidates.ascending };
  }

-- a settled state is at rest
pub settled_rests : (full : List ℕ → Type 0) (m n : State) (b : Bool) → IsSettling full m n b → IsAtRest full n
settled_rests full m n b s = record { keeps = s.chain.keeps; stands = s.stands; ready = s.ready; known = s.known }

-- another node's statement on the board
module _ (full : List ℕ → Type 0) (m n : State) (node : NodeId) (q : Pledges) (set : QuorumTree) (rest : IsAtRest full m) (h : HearsOne full m n node q set) (other : node ≢ (heard m.board).me) where
  old_board : Seen
  old_board = heard m.board

  pub same_own : own_at n ≡ own_at m
  same_own = ap (heard n.board).statement h.put.puts.me ∙ h.put.puts.statements (heard m.board).me ∙ ap (λ t. cond t (Some q) ((heard m.board).statement (heard m.board).me)) (apart node (heard m.board).me other)

  same_set : (heard n.board).counted (heard n.board).me ≡ (heard m.board).counted (heard m.board).me
  same_set = ap (heard n.board).counted h.put.puts.me ∙ h.put.puts.sets (heard m.board).me ∙ ap (λ t. cond t (Some h.put.set) ((heard m.board).counted (heard m.board).me)) (apart node (heard m.board).me other)

  pub heard_rests : IsAtRest full n
  heard_rests = record {
    keeps = same_set ∙ rest.keeps ∙ ap (λ (l : QuorumTree). option_map (λ _. l) (own_at m)) (sym h.put.puts.local) ∙ ap (option_map (λ _. (heard n.board).local)) (sym same_own);
    stands = subst (λ s. StandsFor (own_at n) n.hash s) (sym h.lists) (subst (λ k. StandsFor (own_at n) k m.lists) (sym h.hash) (subst (λ o. StandsFor o m.hash m.lists) (sym same_own) rest.stands));
    ready = subst (λ s. IsReady full s) (sym h.lists) rest.ready;
    known = record {
      sound = λ v has. elim (h.learns.only v has) [ inl had ↦ rest.known.sound v had | inr f ↦ f ];
      complete = λ w v f names. elim (decided (is_at (node_cmp node) w)) [
        | inl here ↦ h.learns.learnt v (at_some (Stands VotesOrAccepts (IsNominated v)) ((heard n.board).statement w) q (h.put.puts.statements w ∙ ap (λ t. cond t (Some q) ((heard m.board).statement w)) here) names) f
        | inr far ↦ h.learns.keeps v (rest.known.complete w v f (same_some_and (Stands VotesOrAccepts (IsNominated v)) ((heard n.board).statement w) ((heard m.board).statement w) (h.put.puts.statements w ∙ ap (λ t. cond t (Some q) ((heard m.board).statement w)) far) names))
      ];
    };
  }

-- nothing is owed to an empty board
pub begins_rests : (full : List ℕ → Type 0) (me : NodeId) (set : QuorumTree) (m : State) → StateBegins me set m → IsAtRest full m
begins_rests full me set m b = record {
  keeps = b.board.sets (heard m.board).me ∙ sym (ap (option_map (λ _. (heard m.board).local)) (b.board.statements (heard m.board).me));
  stands = inr (b.board.statements (heard m.board).me, b.votes);
  ready = record {
    few = omega (arith, ap length b.votes);
    voted = λ v has. absurd (none_has m.lists.accepted v b.accepted has);
    candidates = λ v has. absurd (none_has m.lists.candidates v b.candidates has);
    valid = λ v has. absurd (none_has m.lists.accepted v b.accepted has);
  };
  known = record {
    sound = λ v has. absurd (none_has m.known v b.known has);
    complete = λ node v f names. absurd (same_some_and (Stands VotesOrAccepts (IsNominated v)) ((heard m.board).statement node) None (b.board.statements node) names);
  };
}
  where
    none_has : (x : ValueSet) (v : List ℕ) → x.values.items ≡ [] → Has x v → ⊥
    none_has x v e h = let l : length x.values.items ≡ 0 = ap length e in omega (arith, h.1)

pub begins_paid : (full : List ℕ → Type 0) (leads : NodeId → Type 0) (me : NodeId) (set : QuorumTree) (m : State) → StateBegins me set m → OwesNothing full leads None (heard m.board) (own_lists m.lists)
begins_paid full leads me set m b = record {
  accepted = λ node v f names. absurd (unheard node v names);
  candidates = λ v has. absurd (let l : length m.lists.accepted.values.items ≡ 0 = ap length b.accepted in omega (arith, has.1));
  proposed = λ none leads v e. none_some None v refl e;
  led = λ none node other leads v f names. absurd (unheard node v names);
}
  where
    unheard : (node : NodeId) (v : List ℕ) → Names (heard m.board) node v → ⊥
    unheard node v names = same_some_and (Stands VotesOrAccepts (IsNominated v)) ((heard m.board).statement node) None (b.board.statements node) names

-- what is owed to leaders named in two ways
pub paid_by : (full : List ℕ → Type 0) (P Q : NodeId → Type 0) (proposal : Option (List ℕ)) (b : Seen) (s : OwnLists) → ((v : NodeId) → Q v → P v) → OwesNothing full P proposal b s → OwesNothing full Q proposal b s
paid_by full P Q proposal b s weaker owed = record {
  accepted = owed.accepted;
  candidates = owed.candidates;
  proposed = λ none leads. owed.proposed none (weaker b.me leads);
  led = λ none node other leads. owed.led none node other (weaker node leads);
}

-- what holds of the nominator after an input
pub works : {D : Type 0} (level : D → ℕ → List ℕ → Level) (place : D → ℕ → ℕ → ℕ → ℕ) (m : Nominator D) (old : State) (b : Bool)
    → IsSettling (IsFull (level m.guide.driver) m.guide.slot.0) old m.state b
    → OwesNothing (IsFull (level m.guide.driver) m.guide.slot.0) (λ node. Contains m.guide.leaders.items node) m.guide.proposal (heard m.state.board) (own_lists m.state.lists)
    → ((node : NodeId) → Contains m.guide.leaders.items node ↔ Leads (place m.guide.driver m.guide.slot.0) m.nodes.items m.rounds node)
    → AreInTurn (heard old.board).me (heard old.board).local m.nodes.items → m.rounds ≤ length m.nodes.items → IsStrictlySortedBy node_cmp m.guide.leaders.items → IsWorking level place m
works level place m old b s owed leaders nodes rounds ascending = record {
  paid = paid_by (IsFull (level m.guide.driver) m.guide.slot.0) (λ node. Contains m.guide.leaders.items node) (Leads (place m.guide.driver m.guide.slot.0) m.nodes.items m.rounds) m.guide.proposal (heard m.state.board) (own_lists m.state.lists) (λ v l. (leaders v).1 l) owed;
  rest = settled_rests (IsFull (level m.guide.driver) m.guide.slot.0) old m.state b s;
  leaders = leaders;
  nodes = subst (λ v. AreInTurn v (heard m.state.board).local m.nodes.items) (sym s.chain.board.me) (subst (λ (q : QuorumTree). AreInTurn (heard old.board).me q m.nodes.items) (sym s.chain.board.local) nodes);
  rounds = rounds;
  ascending = ascending;
}

-- nothing was given, and nothing changed
pub unchanged : (full : List ℕ → Type 0) (combined : List (List ℕ) → List ℕ) (m : State) (slot : ℕ) (p : Option (List ℕ)) (nodes : List NodeId) (rounds : ℕ) (f : Bool) (given : Nominated) → given.statement ≡ None → given.composite ≡ None → IsAtRest full m → Advances combined (own_at m) (own_lists m.lists) (nomination_of m slot p nodes rounds f) given
unchanged full combined m slot p nodes rounds f given a b rest =
    advances full combined m m slot p nodes rounds f given (subst (λ t. IsSettling full m m t) (sym (ap is_some a)) (settling_start full m rest))
    (λ e is. none_some given.statement e a is)
    (λ h. absurd (let k : false ≡ true = sym (ap is_some b) ∙ h in cc), λ lt. absurd (omega (arith, lt)))
    (λ v is. none_some given.composite v b is)

-- another node's statement was heard, and then the steps were repeated
pub hears_of : (full : List ℕ → Type 0) (m n : State) (node : NodeId) (q : Pledges) (set : QuorumTree) → HearsOne full m n node q set → node ≢ (heard m.board).me → (new : Seen) → KeepsOthers (heard n.board) new → Hears (heard m.board) new node q (counted_of_other node q set)
hears_of full m n node q set h other new kept = record {
  statements = λ v differ. kept.statements v (λ e. differ (e ∙ h.put.puts.me)) ∙ h.put.puts.statements v;
  sets = λ v differ. kept.sets v (λ e. differ (e ∙ h.put.puts.me)) ∙ h.put.puts.sets v ∙ ap (λ t. cond (is_at (node_cmp node) v) (Some t) ((heard m.board).counted v)) (h.put.counted.other other);
}

pub turns_kept : (full : List ℕ → Type 0) (m n : State) (node : NodeId) (q : Pledges) (set : QuorumTree) (nodes : List NodeId) → HearsOne full m n node q set → AreInTurn (heard m.board).me (heard m.board).local nodes → AreInTurn (heard n.board).me (heard n.board).local nodes
turns_kept full m n node q set nodes h turns = subst (λ v. AreInTurn v (heard n.board).local nodes) (sym h.put.puts.me) (subst (λ (s : QuorumTree). AreInTurn (heard m.board).me s nodes) (sym h.put.puts.local) turns)
