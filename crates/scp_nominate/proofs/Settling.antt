-- The nominator settles: each pass gives one link of the chain.
use Rattle.std.proofs.Common.{◌≡◌, ◌<◌, ◌≤◌, ◌-◌, ℕ, Bool, true, false, List, [], Some, length, refl, sym, ◌∙◌, ap, subst, cond, inl, inr, arith}
use Rattle.std.specs.BTreeMap.{is_at}
use Rattle.scp_vote.specs.scp_types.specs.declared.names.Hash.{Hash}
use Rattle.scp_vote.specs.scp_quorum.specs.NodeSet.{node_cmp}
use Rattle.scp_vote.specs.scp_envelope.specs.declared.statement.Pledges.{Pledges}
use Rattle.scp_vote.specs.declared.claim.Claim.TheVariants.{Nominated}
use Rattle.scp_vote.specs.declared.claim.Support.TheVariants.{VotesOrAccepts}
use Rattle.scp_vote.specs.Claims.{Stands}
use Rattle.scp_vote.specs.Board.{Seen, Puts}
use Rattle.scp_vote.proofs.Chain.{chain_start, chain_more, own_new}
use Rattle.scp_nominate.specs.Heard.{heard}
use Rattle.scp_nominate.specs.declared.values.ValueSet.{ValueSet}
use Rattle.scp_nominate.specs.declared.lists.Lists.{Lists}
use Rattle.scp_nominate.specs.declared.state.State.{State}
use Rattle.scp_nominate.specs.Values.{Has}
use Rattle.scp_nominate.specs.Own.{own_of, StandsFor, IsReady, IsKnown}
use Rattle.scp_nominate.specs.inside.Own.{Passes, own_same, size}
use Rattle.scp_nominate.specs.Owed.{Names}
use Rattle.scp_nominate.specs.State.{own_at, IsAtRest}
use Rattle.scp_nominate.specs.inside.State.{Renews, NewAreConfirmed, Tells, IsTold, IsSettling}
use Rattle.scp_nominate.proofs.Passing.{pass_follows, pass_keeps, unchanged, own_of_same, grows, size_bounded, own_sane, own_newer, within}
use Rattle.scp_vote.specs.scp_envelope.specs.declared.statement.Nominate.{Nominate}
use Rattle.scp_vote.specs.scp_envelope.specs.declared.statement.Pledges.TheVariants.{Prepare as Preparing, Confirm as Confirming, Externalize as Externalizing, Nominate as Nominating}
use Rattle.scp_vote.specs.scp_envelope.specs.Newer.{ArePledgesNewer, IsNewerNominate}
use Rattle.scp_vote.specs.scp_envelope.proofs.Growing.{newer_nominate-trans}
use Rattle.scp_nominate.proofs.Options.{some_same, none_some, at_some, same_some_and}
use Rattle.scp_nominate.proofs.Growing.{more_trans, votes_more}
use Rattle.scp_nominate.specs.Steps.{AreVoted}
use Rattle.scp_nominate.specs.inside.Steps.{Learns}
use Rattle.scp_nominate.proofs.Staying.{confirmed_stays}
use Rattle.scp_nominate.proofs.Suggesting.{decided}

pub settling_start : (full : List ℕ → Type 0) (m : State) → IsAtRest full m → IsSettling full m m false
settling_start full m rest = record {
  hash = refl;
  chain = chain_start (heard m.board) rest.keeps;
  stands = rest.stands;
  ready = rest.ready;
  known = rest.known;
  votes = inl refl;
  accepted = inl refl;
  candidates = inl refl;
  confirmed = λ v has. inl has;
  told = inl (refl, refl);
}

newer_trans : (p : Pledges) (q r : Nominate) → ArePledgesNewer p (Nominating q) → IsNewerNominate q r → ArePledgesNewer p (Nominating r)
newer_trans (Preparing p) q r h k = absurd h
newer_trans (Confirming p) q r h k = absurd h
newer_trans (Externalizing p) q r h k = absurd h
newer_trans (Nominating p) q r h k = newer_nominate-trans p q r h k

some_votes : (s : Lists) → AreVoted s → 0 < size s → s.votes.values.items ≡ [] → ⊥
some_votes s voted lt none = let l : length s.votes.values.items ≡ 0 = ap length none in omega (arith, lt, within s.accepted s.votes voted)

-- the own statement, put on the board, names only votes
known_renewed : (full : List ℕ → Type 0) (b new : Seen) (hash : Hash) (t : Lists) (x y : ValueSet) → IsKnown full b x → AreVoted t → Puts b new b.me (own_of hash t) b.local → Learns full (λ v. Has t.votes v) x y → IsKnown full new y
known_renewed full b new hash t x y known voted puts learns = record {
  sound = λ v has. elim (learns.only v has) [ inl had ↦ known.sound v had | inr f ↦ f ];
  complete = λ node v f names. elim (decided (is_at (node_cmp b.me) node)) [
    | inl here ↦
        let stands : Stands VotesOrAccepts (Nominated v) (own_of hash t) = at_some (Stands VotesOrAccepts (Nominated v)) (new.statement node) (own_of hash t) (puts.statements node ∙ ap (λ c. cond c (Some (own_of hash t)) (b.statement node)) here) names in
        learns.learnt v (elim stands [ inl h ↦ h | inr h ↦ voted v h ]) f
    | inr apart ↦
        let before : Names b node v = same_some_and (Stands VotesOrAccepts (Nominated v)) (new.statement node) (b.statement node) (puts.statements node ∙ ap (λ c. cond c (Some (own_of hash t)) (b.statement node)) apart) names in
        learns.keeps v (known.complete node v f before)
  ];
}

module _ (full : List ℕ → Type 0) (first now : State) (renewed : Bool) (t : Lists) (i : IsSettling full first now renewed) (pass : Passes full (heard now.board) now.lists t) where
  confirmed_now : NewAreConfirmed (heard now.board) first.lists.candidates t.candidates
  confirmed_now v has = elim (pass.confirmed v has) [ inl had ↦ i.confirmed v had | inr new ↦ inr new.1 ]

  ready_now : IsReady full t
  ready_now = pass_keeps full (heard now.board) now.lists t i.ready pass

  -- at rest the statement on the board is that of the lists
  pub settling_rests : size t ≡ size now.lists → IsSettling full first (record now { lists = t }) renewed
  settling_rests same =
      let e : own_same now.lists t = unchanged full (heard now.board) now.lists t pass same in
      record {
        hash = i.hash;
        chain = i.chain;
        stands = stood i.stands e;
        ready = ready_now;
        known = i.known;
        votes = more_trans first.lists.votes now.lists.votes t.votes i.votes (votes_more now.lists.votes t.votes pass.votes);
        accepted = more_trans first.lists.accepted now.lists.accepted t.accepted i.accepted pass.accepted;
        candidates = more_trans first.lists.candidates now.lists.candidates t.candidates i.candidates pass.candidates;
        confirmed = confirmed_now;
        told = telling i.told e;
      }
    where
      stood : StandsFor (own_at now) now.hash now.lists → own_same now.lists t → StandsFor (own_at now) now.hash t
      stood (inl o) e = inl (o ∙ ap Some (sym (own_of_same now.hash now.lists t e)))
      stood (inr o) e = inr (o.0, subst (λ (w : ValueSet). w.values.items ≡ []) (sym e.0) o.1)

      telling : IsTold (own_at first) now renewed → own_same now.lists t → IsTold (own_at first) (record now { lists = t }) renewed
      telling (inl o) e = inl o
      telling (inr o) e = inr (o.0, o.1 ∙ ap Some (sym (own_of_same now.hash now.lists t e)), subst (λ (q : Pledges). Tells (own_at first) q) (sym (own_of_same now.hash now.lists t e)) o.2)

  tells : size now.lists < size t → Tells (own_at first) (own_of now.hash t)
  tells lt = record {
    sane = own_sane now.hash t (some_votes t ready_now.voted (omega (arith, lt)));
    newer = λ p e. elim i.told [
      | inl same ↦ from_now i.stands p (same.1 ∙ e)
      | inr told ↦ newer_trans p (record { set_hash = now.hash; votes = now.lists.votes.values.items; accepted = now.lists.accepted.values.items }) (record { set_hash = now.hash; votes = t.votes.values.items; accepted = t.accepted.values.items }) (told.2.newer p e) (own_newer full (heard now.board) now.hash now.lists t pass lt)
    ];
  }
    where
      from_now : StandsFor (own_at now) now.hash now.lists → (p : Pledges) → own_at now ≡ Some p → ArePledgesNewer p (own_of now.hash t)
      from_now (inl o) p e = subst (λ q. ArePledgesNewer q (own_of now.hash t)) (some_same (own_at now) (own_of now.hash now.lists) p o e) (own_newer full (heard now.board) now.hash now.lists t pass lt)
      from_now (inr o) p e = none_some (own_at now) p o.0 e

  -- the same after a renewal
  pub settling_renewed : (n : State) → (size t ≡ size now.lists → ⊥) → Renews full (record now { lists = t }) n → IsSettling full first n true
  settling_renewed n differ renews =
      let R : Hash → Lists → Type 0 = λ h s. IsSettling full first (record n { hash = h; lists = s }) true in
      subst (λ h. R h n.lists) (sym renews.hash) (subst (λ s. R now.hash s) (sym renews.lists) built)
    where
      lt : size now.lists < size t
      lt = let up : size now.lists ≤ size t = grows full (heard now.board) now.lists t pass in omega (arith, differ, up)

      own : (heard n.board).statement (heard n.board).me ≡ Some (own_of now.hash t)
      own = own_new (heard first.board) (own_at first) (heard now.board) (heard n.board) (own_of now.hash t) i.chain renews.board

      built : IsSettling full first (record n { hash = now.hash; lists = t }) true
      built = record {
        hash = i.hash;
        chain = chain_more (heard first.board) (own_at first) (heard now.board) (heard n.board) (own_of now.hash t) i.chain renews.board (pass_follows full (heard now.board) now.hash now.lists t i.stands i.ready pass);
        stands = inl own;
        ready = ready_now;
        known = known_renewed full (heard now.board) (heard n.board) now.hash t now.known n.known i.known ready_now.voted renews.board renews.learns;
        votes = more_trans first.lists.votes now.lists.votes t.votes i.votes (votes_more now.lists.votes t.votes pass.votes);
        accepted = more_trans first.lists.accepted now.lists.accepted t.accepted i.accepted pass.accepted;
        candidates = more_trans first.lists.candidates now.lists.candidates t.candidates i.candidates pass.candidates;
        confirmed = λ v has. elim (confirmed_now v has) [
          | inl had ↦ inl had
          | inr con ↦ inr (confirmed_stays (heard now.board) (heard n.board) (own_of now.hash t) v i.chain.keeps renews.board (ready_now.candidates v has) con)
        ];
        told = inr (refl, own, tells lt);
      }

pub falls : (full : List ℕ → Type 0) (b : Seen) (s t n : Lists) → IsReady full s → Passes full b s t → (size t ≡ size s → ⊥) → n ≡ t → (14 - size n) < (14 - size s)
falls full b s t n ready pass differ same =
    let l : size n ≡ size t = ap size same in
    let bound : size t ≤ 14 = size_bounded full t (pass_keeps full b s t ready pass) in
    let up : size s ≤ size t = grows full b s t pass in
    omega (arith, differ, l, bound, up)
