-- By one rule, over one board, the steps of nomination lead from one state to exactly one board and one state.
use Rattle.std.proofs.Common.{◌≡◌, ◌+◌, ◌≤◌, ℕ, zero, suc, Bool, true, false, cond, List, [], ◌∷◌, length, count_by, Option, Some, None, IsSomeAnd, refl, sym, ◌∙◌, ap, subst, ◌⊎◌, inl, inr, arith, Contains}
use Rattle.std.proofs.lemmas.List.Sums.{sum_by-cons}
use Rattle.std.proofs.lemmas.Bool.Decides.{nat_tests}
use Rattle.std.proofs.Math.Path.{fun_ext}
use Rattle.std.specs.BTreeMap.{is_at}
use Rattle.std.specs.declared.cmp.Ordering.{Ordering}
use Rattle.std.specs.declared.cmp.Ordering.TheVariants.{Less, Equal, Greater}
use Rattle.std.proofs.lemmas.Cmp.{nat_list_cmp_total, tied_itself}
use Rattle.std.proofs.lemmas.Map.Lookups.{exact_bytes}
use Rattle.std.specs.List.Sorted.{IsStrictlySortedBy}
use Rattle.scp_vote.specs.scp_types.specs.declared.names.NodeId.{NodeId}
use Rattle.scp_vote.specs.scp_types.specs.declared.names.Hash.{Hash}
use Rattle.scp_vote.specs.scp_xdr.specs.Tree.{Trees, no_trees, tree_then, row_len}
use Rattle.scp_vote.specs.scp_quorum.specs.NodeSet.{node_cmp}
use Rattle.scp_vote.specs.scp_quorum.specs.QuorumTree.{Level as SetLevel, QuorumTree}
use Rattle.scp_vote.specs.scp_quorum.specs.Satisfies.{satisfied_count, Blocks}
use Rattle.scp_vote.specs.scp_quorum.specs.Sane.{AreInRange, IsInRange}
use Rattle.scp_vote.specs.scp_envelope.specs.declared.statement.Pledges.{Pledges}
use Rattle.scp_vote.specs.scp_envelope.specs.declared.statement.Envelope.{Envelope}
use Rattle.scp_vote.specs.scp_envelope.specs.Ballots.{value_cmp}
use Rattle.scp_vote.specs.declared.claim.Claim.TheVariants.{Nominated}
use Rattle.scp_vote.specs.declared.claim.Support.TheVariants.{VotesOrAccepts, Accepts}
use Rattle.scp_vote.specs.Claims.{Stands}
use Rattle.scp_vote.specs.Board.{Seen, Accepted, IsCounted, Puts, PutsCounted}
use Rattle.scp_driver.specs.declared.driver.Level.{Level}
use Rattle.scp_nominate.specs.Owed.{OwnLists, Names}
use Rattle.scp_nominate.specs.InTurn.{InTurn}
use Rattle.scp_nominate.specs.Places.{Joins, VotesOne, VotesSome}
use Rattle.scp_nominate.specs.Voting.{VotesNamed, AreNamedBy, VotesAfter, VotesOwn, AreLeaders, VotesInTurn, VotesFirst}
use Rattle.scp_nominate.specs.Taking.{MayTake, TakesIn, TakesOne, AreOnBoard, TakesInTurn, FindsAll}
use Rattle.scp_nominate.specs.Repeating.{Rule, StepsOnce, SaysTheSame, renewed, Repeats, LeadsTo}
use Rattle.scp_nominate.specs.declared.nominator.Nominator.{Nominator}
use Rattle.scp_nominate.specs.Nomination.{Nomination, nomination, driver_of, ComesFrom, ComesFromHearing}
use Rattle.scp_nominate.specs.Laws.{rule_by, StepsAreAFunction, GoAlike, HoldAlike}
use Rattle.scp_nominate.proofs.Turning.{node_cmp_total, same_node}
use Rattle.scp_nominate.proofs.Merging.{one_list, in_turn_one, merged}

-- The empty set of nodes blocks no quorum set that is in range.
abbrev every : NodeId → Bool
every v = true

all_count : (vs : List NodeId) → length vs ≤ count_by every vs
all_count [] = omega arith
all_count (v ∷ vs) = rw (sum_by-cons (λ x. cond (every x) 1 0) v vs) (omega (arith, all_count vs))

all_satisfied : (qs : Trees SetLevel) → AreInRange qs → row_len qs ≤ satisfied_count every qs
all_satisfied no_trees h = omega arith
all_satisfied (tree_then level inner others) h =
    let here = all_count level.validators in
    let below = all_satisfied inner h.0.2 in
    let behind = all_satisfied others h.1 in
    let most = h.0.1 in
    grind (arith, nat_tests, here, below, behind, most)

none_block : (q : QuorumTree) → IsInRange q → (nodes : NodeId → Bool) → ((v : NodeId) → nodes v ≡ true → ⊥) → Blocks nodes q → ⊥
none_block q range nodes none blocks = blocks every (λ v h. at v (nodes v) refl) (omega (arith, range.1, all_count q.head.validators, all_satisfied q.inner range.2))
  where
    at : (v : NodeId) (b : Bool) → nodes v ≡ b → nodes v ≡ false
    at v true e = absurd (none v e)
    at v false e = e

-- The board accepts nothing that no node names.
accepts_names : (p : Option Pledges) (v : List ℕ) → IsSomeAnd p (Stands Accepts (Nominated v)) → IsSomeAnd p (Stands VotesOrAccepts (Nominated v))
accepts_names None v h = h
accepts_names (Some p) v h = inr h

unnamed : (b : Seen) → IsInRange b.local → (v : List ℕ) → ((node : NodeId) → ¬ (Names b node v)) → Accepted b (Nominated v) → ⊥
unnamed b range v none (inl h) = none b.me (h.2 b.me h.1.has)
unnamed b range v none (inr h) = none_block b.local range h.0 (λ node e. none node (accepts_names (b.statement node) v (h.1 node e))) h.2

one_of_values : (xs ys : List (List ℕ)) → IsStrictlySortedBy value_cmp xs → IsStrictlySortedBy value_cmp ys → ((w : List ℕ) → Contains xs w → Contains ys w) → ((w : List ℕ) → Contains ys w → Contains xs w) → xs ≡ ys
one_of_values xs ys = one_list value_cmp nat_list_cmp_total exact_bytes xs ys

one_of_nodes : (xs ys : List NodeId) → IsStrictlySortedBy node_cmp xs → IsStrictlySortedBy node_cmp ys → ((w : NodeId) → Contains xs w → Contains ys w) → ((w : NodeId) → Contains ys w → Contains xs w) → xs ≡ ys
one_of_nodes xs ys = one_list node_cmp node_cmp_total same_node xs ys

-- 1. The votes.
joins_one : (v : List ℕ) (s t u : List (List ℕ)) → Joins v s t → Joins v s u → t ≡ u
joins_one v s t u h k = one_of_values t u h.ascends k.ascends (λ w m. (k.holds w).1 ((h.holds w).0 m)) (λ w m. (h.holds w).1 ((k.holds w).0 m))

votes_one : (v : List ℕ) (s t u : List (List ℕ)) → VotesOne v s t → VotesOne v s u → t ≡ u
votes_one v s t u (inl h) (inl k) = joins_one v s t u h.1 k.1
votes_one v s t u (inl h) (inr k) = absurd (k.0 h.0)
votes_one v s t u (inr h) (inl k) = absurd (h.0 k.0)
votes_one v s t u (inr h) (inr k) = h.1 ∙ sym k.1

some_one : (o : Option (List ℕ)) (s t u : List (List ℕ)) → VotesSome o s t → VotesSome o s u → t ≡ u
some_one None s t u h k = h ∙ sym k
some_one (Some v) s t u h k = votes_one v s t u h k

own_one : (leads : Type 0) (o : Option (List ℕ)) (s t u : List (List ℕ)) → VotesOwn leads o s t → VotesOwn leads o s u → t ≡ u
own_one leads o s t u (inl h) (inl k) = some_one o s t u h.1 k.1
own_one leads o s t u (inl h) (inr k) = absurd (k.0 h.0)
own_one leads o s t u (inr h) (inl k) = absurd (h.0 k.0)
own_one leads o s t u (inr h) (inr k) = h.1 ∙ sym k.1

module _ (full : List ℕ → Type 0) (extracted : List ℕ → Option (List ℕ)) where
  named_one : (v : List ℕ) (s t u : List (List ℕ)) → VotesNamed full extracted v s t → VotesNamed full extracted v s u → t ≡ u
  named_one v s t u (inl h) (inl k) = votes_one v s t u h.1 k.1
  named_one v s t u (inl h) (inr k) = absurd (k.0 h.0)
  named_one v s t u (inr h) (inl k) = absurd (h.0 k.0)
  named_one v s t u (inr h) (inr k) = some_one (extracted v) s t u h.1 k.1

  named_by_one : (b : Seen) (node : NodeId) (xs ys : List (List ℕ)) → AreNamedBy b node xs → AreNamedBy b node ys → xs ≡ ys
  named_by_one b node xs ys h k = one_of_values xs ys h.ascend k.ascend (λ w m. (k.all w).1 ((h.all w).0 m)) (λ w m. (h.all w).1 ((k.all w).0 m))

  abbrev EachNamed : List (List ℕ) → List (List ℕ) → List (List ℕ) → Type 0
  EachNamed xs s t = InTurn (λ v s t. VotesNamed full extracted v s t) xs s t

  after_one : (b : Seen) (node : NodeId) (s t u : List (List ℕ)) → VotesAfter full extracted b node s t → VotesAfter full extracted b node s u → t ≡ u
  after_one b node s t u (inl h) (inl k) = h.1 ∙ sym k.1
  after_one b node s t u (inl h) (inr k) = absurd (k.0 h.0)
  after_one b node s t u (inr h) (inl k) = absurd (h.0 k.0)
  after_one b node s t u (inr h) (inr k) =
      let e : k.1.0 ≡ h.1.0 = named_by_one b node k.1.0 h.1.0 k.1.1 h.1.1 in
      in_turn_one (λ v s t. VotesNamed full extracted v s t) named_one h.1.0 s t u h.1.2 (subst (λ xs. EachNamed xs s u) e k.1.2)

  module _ (leads : NodeId → Type 0) (proposal : Option (List ℕ)) (b : Seen) where
    leaders_one : (xs ys : List NodeId) → AreLeaders leads xs → AreLeaders leads ys → xs ≡ ys
    leaders_one xs ys h k = one_of_nodes xs ys h.ascend k.ascend (λ w m. (k.all w).1 ((h.all w).0 m)) (λ w m. (h.all w).1 ((k.all w).0 m))

    abbrev AfterEach : List NodeId → List (List ℕ) → List (List ℕ) → Type 0
    AfterEach xs s t = InTurn (λ node s t. VotesAfter full extracted b node s t) xs s t

    voting_one : (s t u : List (List ℕ)) → VotesInTurn full extracted leads proposal b s t → VotesInTurn full extracted leads proposal b s u → t ≡ u
    voting_one s t u h k =
        let e : k.proposed ≡ h.proposed = own_one (leads b.me) proposal s k.proposed h.proposed k.own h.own in
        let f : k.leaders ≡ h.leaders = leaders_one k.leaders h.leaders k.lead h.lead in
        in_turn_one (λ node s t. VotesAfter full extracted b node s t) (after_one b) h.leaders h.proposed t u h.others (subst (λ xs. AfterEach xs h.proposed u) f (subst (λ m. AfterEach k.leaders m u) e k.others))

    first_one : (s t u : OwnLists) → VotesFirst full extracted leads proposal b s t → VotesFirst full extracted leads proposal b s u → t ≡ u
    first_one s t u (inl h) (inl k) = h.2 ∙ ap (λ vs. let r : OwnLists = record s { votes = vs } in r) (voting_one s.votes t.votes u.votes h.1 k.1) ∙ sym k.2
    first_one s t u (inl h) (inr k) = absurd (k.0 h.0)
    first_one s t u (inr h) (inl k) = absurd (h.0 k.0)
    first_one s t u (inr h) (inr k) = h.1 ∙ sym k.1

-- 2. What is accepted.
takes_in_one : (v : List ℕ) (s t u : OwnLists) → TakesIn v s t → TakesIn v s u → t ≡ u
takes_in_one v s t u h k =
    ap (λ vs. let r : OwnLists = record { votes = vs; accepted = t.accepted; candidates = t.candidates } in r) (joins_one v s.votes t.votes u.votes h.votes k.votes)
    ∙ ap (λ vs. let r : OwnLists = record { votes = u.votes; accepted = vs; candidates = t.candidates } in r) (joins_one v s.accepted t.accepted u.accepted h.accepted k.accepted)
    ∙ ap (λ vs. let r : OwnLists = record { votes = u.votes; accepted = u.accepted; candidates = vs } in r) (h.candidates ∙ sym k.candidates)

both_stay : (s t u : OwnLists) → t ≡ s → u ≡ s → t ≡ u
both_stay s t u e f = e ∙ sym f

module _ (b : Seen) where
  takes_against : (v : List ℕ) (s : OwnLists) → (¬ (Contains s.accepted v)) × MayTake b v s → Contains s.accepted v ⊎ (¬ (MayTake b v s)) → ⊥
  takes_against v s h (inl k) = h.0 k
  takes_against v s h (inr k) = k h.1

  takes_one : (v : List ℕ) (s t u : OwnLists) → TakesOne b v s t → TakesOne b v s u → t ≡ u
  takes_one v s t u (inl h) (inl k) = takes_in_one v s t u h.1 k.1
  takes_one v s t u (inl h) (inr k) = absurd (takes_against v s h.0 k.0)
  takes_one v s t u (inr h) (inl k) = absurd (takes_against v s k.0 h.0)
  takes_one v s t u (inr h) (inr k) = both_stay s t u h.1 k.1

  takes_nothing : (v : List ℕ) → (Accepted b (Nominated v) → ⊥) → (s t : OwnLists) → TakesOne b v s t → t ≡ s
  takes_nothing v never s t (inl h) = absurd (never h.0.1.1)
  takes_nothing v never s t (inr h) = h.1

  spare_value : (full : List ℕ → Type 0) → IsInRange b.local → (xs ys : List (List ℕ)) → AreOnBoard full b xs → AreOnBoard full b ys → (v : List ℕ) → Contains xs v → ¬ (Contains ys v) → (s t : OwnLists) → TakesOne b v s t → t ≡ s
  spare_value full range xs ys h k v m out = takes_nothing v (unnamed b range v (λ node named. out (k.all node v (h.valid v m) named)))

  taking_one : (full : List ℕ → Type 0) → IsInRange b.local → (s t u : OwnLists) → TakesInTurn full b s t → TakesInTurn full b s u → t ≡ u
  taking_one full range s t u h k =
      merged value_cmp nat_list_cmp_total exact_bytes (λ v x y. TakesOne b v x y) takes_one (length h.values + length k.values) h.values k.values (omega arith) h.on_board.ascend k.on_board.ascend
      (spare_value full range h.values k.values h.on_board k.on_board) (spare_value full range k.values h.values k.on_board h.on_board) s t u h.each k.each

  -- 3. What becomes a candidate.
  finds_one : (s t u : OwnLists) → FindsAll b s t → FindsAll b s u → t ≡ u
  finds_one s t u h k =
      h.rest ∙ ap (λ vs. let r : OwnLists = record s { candidates = vs } in r) (one_of_values t.candidates u.candidates h.ascends k.ascends (λ w m. (k.holds w).1 ((h.holds w).0 m)) (λ w m. (h.holds w).1 ((k.holds w).0 m)))
      ∙ sym k.rest

-- All steps.
module _ (rule : Rule) where
  steps_one : (b : Seen) → IsInRange b.local → (s t u : OwnLists) → StepsOnce rule b s t → StepsOnce rule b s u → t ≡ u
  steps_one b range s t u h k =
      let e : k.voted ≡ h.voted = first_one rule.full rule.extracted rule.leads rule.proposal b s k.voted h.voted k.votes h.votes in
      let f : k.taken ≡ h.taken = taking_one b rule.full range h.voted k.taken h.taken (subst (λ x. TakesInTurn rule.full b x k.taken) e k.takes) h.takes in
      finds_one b h.taken t u h.finds (subst (λ x. FindsAll b x u) f k.finds)

  -- where the steps went once, either they end there or they go on
  abbrev Goes : ℕ → Hash → Seen → OwnLists → Seen → OwnLists → OwnLists → Type 0
  Goes n hash b s c t x = (SaysTheSame s x × (c ≡ b) × (t ≡ x)) ⊎ ((¬ (SaysTheSame s x)) × Repeats n rule hash (renewed hash b x) x c t)

  goes_one : (n m : ℕ) (hash : Hash) (b : Seen) (s : OwnLists) (c d : Seen) (t u x : OwnLists)
      → (Repeats n rule hash (renewed hash b x) x c t → Repeats m rule hash (renewed hash b x) x d u → (c ≡ d) × (t ≡ u)) → Goes n hash b s c t x → Goes m hash b s d u x → (c ≡ d) × (t ≡ u)
  goes_one n m hash b s c d t u x again (inl h) (inl k) = (h.1 ∙ sym k.1, h.2 ∙ sym k.2)
  goes_one n m hash b s c d t u x again (inl h) (inr k) = absurd (k.0 h.0)
  goes_one n m hash b s c d t u x again (inr h) (inl k) = absurd (h.0 k.0)
  goes_one n m hash b s c d t u x again (inr h) (inr k) = again h.1 k.1

  repeats_one : (n m : ℕ) (hash : Hash) (b : Seen) → IsInRange b.local → (s : OwnLists) (c d : Seen) (t u : OwnLists) → Repeats n rule hash b s c t → Repeats m rule hash b s d u → (c ≡ d) × (t ≡ u)
  repeats_one zero m hash b range s c d t u h k = absurd h
  repeats_one (suc n) zero hash b range s c d t u h k = absurd k
  repeats_one (suc n) (suc m) hash b range s c d t u h k =
      let e : k.0 ≡ h.0 = steps_one b range s k.0 h.0 k.1 h.1 in
      goes_one n m hash b s c d t u h.0 (λ p q. repeats_one n m hash (renewed hash b h.0) range h.0 c d t u p q) h.2 (subst (λ x. Goes m hash b s d u x) e k.2)

pub steps_function : StepsAreAFunction
steps_function level slot extracted place nodes rounds proposal hash b s c d t u range h k =
    repeats_one (rule_by level slot extracted place nodes rounds proposal) h.0 k.0 hash b range s c d t u h.1 k.1

-- The board with a node's statement and counted set.
counted_one : (b : Seen) (v : NodeId) (p : Pledges) (delivered x y : QuorumTree) → IsCounted b v p delivered x → IsCounted b v p delivered y → x ≡ y
counted_one b v p delivered x y h k = at (node_cmp v b.me) refl
  where
    other : (v ≡ b.me → ⊥) → x ≡ y
    other out = h.other out ∙ sym (k.other out)

    tied : v ≡ b.me → node_cmp v b.me ≡ Equal
    tied e = ap (λ w. node_cmp v w) (sym e) ∙ tied_itself node_cmp_total v

    at : (o : Ordering) → node_cmp v b.me ≡ o → x ≡ y
    at Less e = other (λ same. let f = tied same in cc)
    at Equal e = h.own (same_node v b.me e) ∙ sym (k.own (same_node v b.me e))
    at Greater e = other (λ same. let f = tied same in cc)

puts_one : (b c d : Seen) (v : NodeId) (p : Pledges) (x y : QuorumTree) → Puts b c v p x → Puts b d v p y → x ≡ y → c ≡ d
puts_one b c d v p x y h k e =
    ap (λ m. let r : Seen = record { me = m; local = c.local; statement = c.statement; counted = c.counted } in r) (h.me ∙ sym k.me)
    ∙ ap (λ l. let r : Seen = record { me = d.me; local = l; statement = c.statement; counted = c.counted } in r) (h.local ∙ sym k.local)
    ∙ ap (λ (f : NodeId → Option Pledges). let r : Seen = record { me = d.me; local = d.local; statement = f; counted = c.counted } in r) (fun_ext (λ w. h.statements w ∙ sym (k.statements w)))
    ∙ ap (λ (f : NodeId → Option QuorumTree). let r : Seen = record { me = d.me; local = d.local; statement = d.statement; counted = f } in r)
    (fun_ext (λ w. h.sets w ∙ ap (λ z. cond (is_at (node_cmp v) w) (Some z) (b.counted w)) e ∙ sym (k.sets w)))

put_one : (b c d : Seen) (v : NodeId) (p : Pledges) (delivered : QuorumTree) → PutsCounted b c v p delivered → PutsCounted b d v p delivered → d ≡ c
put_one b c d v p delivered h k = puts_one b d c v p k.set h.set k.puts h.puts (counted_one b v p delivered k.set h.set k.counted h.counted)

module _ {D : Type 0} (level : D → ℕ → List ℕ → Level) (extracted : D → ℕ → List ℕ → Option (List ℕ)) (place : D → ℕ → ℕ → ℕ → ℕ) where
  -- the steps by what one nominator goes by lead to the board and lists of another
  abbrev ComesBy : Nomination → Seen → Nominator D → D → ℕ → List NodeId → ℕ → Option (List ℕ) → Type 0
  ComesBy old b n driver slot nodes rounds proposal = LeadsTo (rule_by (level driver) slot (extracted driver slot) (place driver slot) nodes rounds proposal) old.hash b old.lists (nomination n).board (nomination n).lists

  alike : (old : Nomination) (b : Seen) (m n : Nominator D) → GoAlike m n → ComesFrom level extracted place old b n
      → ComesBy old b n (driver_of m) (nomination m).slot (nomination m).nodes (nomination m).rounds (nomination m).proposal
  alike old b m n go h =
      subst (λ d. ComesBy old b n d (nomination m).slot (nomination m).nodes (nomination m).rounds (nomination m).proposal) go.driver
      (subst (λ s. ComesBy old b n (driver_of n) s (nomination m).nodes (nomination m).rounds (nomination m).proposal) go.slot
      (subst (λ s. ComesBy old b n (driver_of n) (nomination n).slot s (nomination m).rounds (nomination m).proposal) go.nodes
      (subst (λ s. ComesBy old b n (driver_of n) (nomination n).slot (nomination n).nodes s (nomination m).proposal) go.rounds
      (subst (λ s. ComesBy old b n (driver_of n) (nomination n).slot (nomination n).nodes (nomination n).rounds s) go.proposal h))))

  pub coming_one : (old : Nomination) (b : Seen) (m n : Nominator D) → IsInRange b.local → GoAlike m n → ComesFrom level extracted place old b m → ComesFrom level extracted place old b n → HoldAlike m n
  coming_one old b m n range go h k =
      steps_function (level (driver_of m)) (nomination m).slot (extracted (driver_of m) (nomination m).slot) (place (driver_of m) (nomination m).slot) (nomination m).nodes (nomination m).rounds (nomination m).proposal
      old.hash b old.lists (nomination m).board (nomination n).board (nomination m).lists (nomination n).lists range h (alike old b m n go k)

  pub hearing_one : (old : Nomination) (e : Envelope) (delivered : QuorumTree) (m n : Nominator D) → IsInRange old.board.local → GoAlike m n → ComesFromHearing level extracted place old e delivered m → ComesFromHearing level extracted place old e delivered n → HoldAlike m n
  hearing_one old e delivered m n range go h k =
      let same : k.board ≡ h.board = put_one old.board h.board k.board e.statement.node e.statement.pledges delivered h.puts k.puts in
      coming_one old h.board m n (subst (λ q. IsInRange q) (sym h.puts.puts.local) range) go h.comes (subst (λ b. ComesFrom level extracted place old b n) same k.comes)
