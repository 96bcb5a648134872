-- What the machine of a slot says: own statements, each newer than what it said before.
use Rattle.std.proofs.Common.{◌≡◌, ℕ, Bool, true, false, List, [], refl, sym, ◌∙◌, ap, subst, inl, inr}
use Rattle.std.specs.Prelude.{Option, Some, None, IsSomeAnd}
use Rattle.std.specs.Option.{ForSome}
use Rattle.scp_outbox.specs.scp_types.specs.declared.names.Hash.{Hash}
use Rattle.scp_outbox.specs.scp_types.specs.declared.names.NodeId.{NodeId}
use Rattle.scp_outbox.specs.scp_envelope.specs.Kinds.{set_hash_of}
use Rattle.scp_outbox.specs.scp_envelope.specs.Newer.{ArePledgesNewer}
use Rattle.scp_outbox.specs.scp_envelope.specs.Sane.{IsSane}
use Rattle.scp_outbox.specs.scp_envelope.specs.declared.statement.Envelope.{Envelope as Enveloped}
use Rattle.scp_outbox.specs.scp_envelope.specs.declared.statement.Pledges.{Pledges}
use Rattle.scp_outbox.specs.scp_envelope.specs.declared.statement.Pledges.TheVariants.{Prepare, Confirm, Externalize, Nominate}
use Rattle.scp_outbox.specs.scp_envelope.specs.declared.statement.Statement.{Statement}
use Rattle.scp_apply.specs.scp_vote.specs.declared.claim.StatementKind.{StatementKind}
use Rattle.scp_apply.specs.scp_vote.specs.declared.claim.StatementKind.TheVariants.{Nomination as Nominating, Balloting}
use Rattle.scp_apply.specs.scp_vote.specs.Board.{kind_of_pledges}
use Rattle.scp_apply.specs.scp_vote.specs.Licence.{IsExternalize}
use Rattle.scp_outbox.specs.Outbox.{is_nomination}
use Rattle.scp_apply.specs.scp_driver.specs.declared.driver.Level.{Level}
use Rattle.scp_apply.specs.scp_nominate.specs.declared.nominated.Nominated.{Nominated}
use Rattle.scp_apply.specs.scp_nominate.specs.Nomination as nominate
use Rattle.scp_apply.specs.scp_nominate.specs.Nomination.{Nomination}
use Rattle.scp_apply.specs.scp_ballot.specs.declared.balloted.Balloted.{Balloted}
use Rattle.scp_apply.specs.scp_ballot.specs.declared.balloted.Certified.{Certified}
use Rattle.scp_apply.specs.scp_ballot.specs.Balloting as ballot
use Rattle.scp_apply.specs.scp_ballot.specs.Balloting.{Ballots, last_emitted}
use Rattle.scp_apply.specs.scp_slot.specs.declared.output.SlotInput.{SlotInput}
use Rattle.scp_apply.specs.scp_slot.specs.declared.output.SlotInput.TheVariants.{Propose, Round, Timer, Envelope}
use Rattle.scp_apply.specs.scp_slot.specs.declared.output.SlotOutput.{SlotOutput}
use Rattle.scp_apply.specs.scp_slot.specs.declared.output.Verdict.{Verdict}
use Rattle.scp_apply.specs.scp_slot.specs.Slot.{SlotView}
use Rattle.scp_outbox.specs.scp_quorum.specs.SharedSet.{SharedSet}
use Rattle.scp_apply.specs.scp_slot.specs.Takes as slot
use Rattle.scp_theorem.proofs.Basics.{some_there, there_some, none_some}

-- ---- one input

-- what holds if the machine rests, nominates, has its timer go off and hears a statement holds whatever the input is
module _ (P : Type 0) (level : List ℕ → Level) (combined : List (List ℕ) → List ℕ) (old : SlotView) (out : SlotOutput) (new : SlotView)
    (rests : (verdict : Verdict) → slot.Rests verdict old out new → P) (nominates : slot.Nominates combined old out new → P) (times : slot.Times old out new → P)
    (hears : (kind : StatementKind) (e : Enveloped) (set : SharedSet) → slot.HearsKind kind combined e set old out new → P) where
  by_input : (input : SlotInput) → slot.TakesInput level combined input old out new → P
  by_input (Propose value) t = elim t [ inl r ↦ rests _ r.1 | inr u ↦ elim u.1 [ inl r ↦ rests _ r.1 | inr w ↦ nominates w.1.nominates ] ]
  by_input Round t = elim t [ inl r ↦ rests _ r.1 | inr w ↦ nominates w.1.nominates ]
  by_input Timer t = times t
  by_input (Envelope e set) t = elim t [
    | inl r ↦ rests _ r.1
    | inr u ↦ elim u.1 [
      | inl r ↦ rests _ r.1
      | inr w ↦ elim w.1 [
        | inl r ↦ rests _ r.1
        | inr x ↦ elim x.1 [ inl r ↦ rests _ r.1 | inr y ↦ hears (kind_of_pledges e.statement.pledges) e set y.1 ]
      ]
    ]
  ]

  pub whatever_input : (input : SlotInput) → slot.Takes level combined input old out new → P
  whatever_input input t = elim t [ inl r ↦ rests _ r.1 | inr w ↦ by_input input w.1 ]

-- ---- one statement

-- what is emitted if `before` was the last and `now` is the last then: an own statement of this kind, newer than the one before
pub record IsTold (me : NodeId) (at : ℕ) (hash : Hash) (kind : Bool) (before now : Option Pledges) (e : Enveloped) : Type 0 where
  pub node : e.statement.node ≡ me
  pub slot : e.statement.slot.0 ≡ at
  pub set : set_hash_of e.statement.pledges ≡ hash
  pub unsigned : e.signature ≡ []
  pub sane : IsSane e.statement.pledges
  pub its_kind : is_nomination e.statement.pledges ≡ kind
  pub stands : now ≡ Some e.statement.pledges
  pub newer : ForSome before (λ p. ArePledgesNewer p e.statement.pledges)

-- what is emitted is said; if nothing is, the last one stays
pub record Tells (me : NodeId) (at : ℕ) (hash : Hash) (kind : Bool) (before : Option Pledges) (found : Option Enveloped) (now : Option Pledges) : Type 0 where
  pub still : found ≡ None → now ≡ before
  pub told : (e : Enveloped) → found ≡ Some e → IsTold me at hash kind before now e

tells_nothing : (me : NodeId) (at : ℕ) (hash : Hash) (kind : Bool) (before : Option Pledges) (found : Option Enveloped) (now : Option Pledges) → found ≡ None → now ≡ before → Tells me at hash kind before found now
tells_nothing me at hash kind before found now none same = record { still = λ e. same; told = λ e is. none_some found e none is }

-- the nomination's statement
nomination_tells : (me : NodeId) (at : ℕ) (hash : Hash) (combined : List (List ℕ) → List ℕ) (old new : Nomination) (given : Nominated) → new.board.me ≡ me → new.slot ≡ at → new.hash ≡ hash → nominate.Advances combined (nominate.own old) old.lists new given
    → Tells me at hash true (nominate.own old) given.statement (nominate.own new)
nomination_tells me at hash combined old new given m s k a = record {
  still = a.still;
  told = λ e is. told e is (a.statement e is);
}
  where
    told : (e : Enveloped) → given.statement ≡ Some e → nominate.IsOwnEnvelope new e → IsTold me at hash true (nominate.own old) (nominate.own new) e
    told e is o =
        let worth : IsSomeAnd (Some e.statement.pledges) (λ q. IsSane q × ForSome (nominate.own old) (λ p. ArePledgesNewer p q)) = subst (λ (now : Option Pledges). IsSomeAnd now (λ q. IsSane q × ForSome (nominate.own old) (λ p. ArePledgesNewer p q))) o.stands (a.emitted.0 (there_some given.statement e is)) in
        record {
          node = o.node ∙ m;
          slot = o.slot ∙ s;
          set = ap set_hash_of o.pledges ∙ k;
          unsigned = o.unsigned;
          sane = worth.0;
          its_kind = ap is_nomination o.pledges;
          stands = o.stands;
          newer = worth.1;
        }

kind_is : (p : Pledges) → kind_of_pledges p ≡ Balloting → is_nomination p ≡ false
kind_is (Prepare p) e = refl
kind_is (Confirm p) e = refl
kind_is (Externalize p) e = refl
kind_is (Nominate p) e = absurd (let k : Nominating ≡ Balloting = e in cc)

-- the ballots' statement
ballots_tell : (me : NodeId) (at : ℕ) (hash : Hash) (old new : Ballots) (given : Balloted) → new.board.me ≡ me → new.slot ≡ at → new.hash ≡ hash → ballot.Advances old new given → Tells me at hash false old.emitted given.statement new.emitted
ballots_tell me at hash old new given m s k a = record {
  still = λ none. a.last ∙ ap (λ (o : Option Enveloped). last_emitted o old.emitted) none;
  told = λ e is. told e is (a.statement e is);
}
  where
    told : (e : Enveloped) → given.statement ≡ Some e → ballot.IsOwnEnvelope new e → IsTold me at hash false old.emitted new.emitted e
    told e is o =
        let worth : IsSomeAnd (Some e.statement.pledges) (λ q. IsSane q × ForSome old.emitted (λ p. ArePledgesNewer p q)) = subst (λ (now : Option Pledges). IsSomeAnd now (λ q. IsSane q × ForSome old.emitted (λ p. ArePledgesNewer p q))) o.stands (a.emitted.0 (there_some given.statement e is)) in
        record {
          node = o.node ∙ m;
          slot = o.slot ∙ s;
          set = o.hash ∙ k;
          unsigned = o.unsigned;
          sane = worth.0;
          its_kind = kind_is e.statement.pledges o.kind;
          stands = a.last ∙ ap (λ (x : Option Enveloped). last_emitted x old.emitted) is;
          newer = worth.1;
        }

-- ---- an EXTERNALIZE is emitted with the decision

pub statement_is : (s t : Statement) → s.node ≡ t.node → s.slot.0 ≡ t.slot.0 → s.pledges ≡ t.pledges → s ≡ t
statement_is s t n k p =
    let make : NodeId → ℕ → Pledges → Statement = λ node slot pledges. record { node = node; slot = record { 0 = slot }; pledges = pledges } in
    ap (λ (x : NodeId). make x s.slot.0 s.pledges) n ∙ ap (λ (x : ℕ). make t.node x s.pledges) k ∙ ap (λ (x : Pledges). make t.node t.slot.0 x) p

same_own : (b : Ballots) (d e : Enveloped) → ballot.IsOwnEnvelope b d → ballot.IsOwnEnvelope b e → d ≡ e
same_own b d e o p =
    let make : Statement → List ℕ → Enveloped = λ statement signature. record { statement = statement; signature = signature } in
    let pledges : d.statement.pledges ≡ e.statement.pledges = some_is d.statement.pledges e.statement.pledges (sym o.stands ∙ p.stands) in
    ap (λ (x : Statement). make x d.signature) (statement_is d.statement e.statement (o.node ∙ sym p.node) (o.slot ∙ sym p.slot) pledges) ∙ ap (λ (x : List ℕ). make e.statement x) (o.unsigned ∙ sym p.unsigned)
  where
    some_is : (x y : Pledges) → Some x ≡ Some y → x ≡ y
    some_is x y k = cc

-- the decision that comes with an EXTERNALIZE
abbrev pub HasDecision : Enveloped → Option Certified → Type 0
HasDecision e decided = (c : Certified) × (decided ≡ Some c) × (c.own ≡ e)

ends_with : (old new : Ballots) (given : Balloted) → (ballot.IsDecided old → ⊥) → ballot.Advances old new given → (e : Enveloped) → given.statement ≡ Some e → IsExternalize e.statement.pledges → HasDecision e given.decided
ends_with old new given open' a e is ext =
    let o = a.statement e is in
    let now : ballot.IsDecided new = subst (λ (q : Option Pledges). IsSomeAnd q IsExternalize) (sym o.stands) ext in
    let c = some_there given.decided (a.decided.1 (open', now)) in
    (c.0, c.1, same_own new c.0.own e (a.certified c.0 c.1).own o)

-- ---- a machine

-- it is of this node, slot and set
pub record IsMine (me : NodeId) (at : ℕ) (hash : Hash) (v : SlotView) : Type 0 where
  pub nomination_me : v.nomination.board.me ≡ me
  pub nomination_slot : v.nomination.slot ≡ at
  pub nomination_hash : v.nomination.hash ≡ hash
  pub ballots_me : v.ballots.board.me ≡ me
  pub ballots_slot : v.ballots.slot ≡ at
  pub ballots_hash : v.ballots.hash ≡ hash

-- what the nomination says at an input, and the ballots
pub record NominationSays (me : NodeId) (at : ℕ) (hash : Hash) (old : SlotView) (out : SlotOutput) (new : SlotView) : Type 0 where
  pub node : new.nomination.board.me ≡ me
  pub slot : new.nomination.slot ≡ at
  pub hash_is : new.nomination.hash ≡ hash
  pub tells : Tells me at hash true (nominate.own old.nomination) out.emitted.nomination (nominate.own new.nomination)

pub record BallotsSay (me : NodeId) (at : ℕ) (hash : Hash) (old : SlotView) (out : SlotOutput) (new : SlotView) : Type 0 where
  pub node : new.ballots.board.me ≡ me
  pub slot : new.ballots.slot ≡ at
  pub hash_is : new.ballots.hash ≡ hash
  pub tells : Tells me at hash false old.ballots.emitted out.emitted.ballot new.ballots.emitted
  pub ends : (e : Enveloped) → out.emitted.ballot ≡ Some e → IsExternalize e.statement.pledges → HasDecision e out.decided

pub record Says (me : NodeId) (at : ℕ) (hash : Hash) (old : SlotView) (out : SlotOutput) (new : SlotView) : Type 0 where
  pub nomination : NominationSays me at hash old out new
  pub ballots : BallotsSay me at hash old out new

pub mine_then : (me : NodeId) (at : ℕ) (hash : Hash) (old : SlotView) (out : SlotOutput) (new : SlotView) → Says me at hash old out new → IsMine me at hash new
mine_then me at hash old out new s = record {
  nomination_me = s.nomination.node;
  nomination_slot = s.nomination.slot;
  nomination_hash = s.nomination.hash_is;
  ballots_me = s.ballots.node;
  ballots_slot = s.ballots.slot;
  ballots_hash = s.ballots.hash_is;
}

module _ (me : NodeId) (at : ℕ) (hash : Hash) (old : SlotView) (out : SlotOutput) (new : SlotView) (mine : IsMine me at hash old) (open' : ballot.IsDecided old.ballots → ⊥) where
  ballots_advance : slot.Ballots old out new → BallotsSay me at hash old out new
  ballots_advance b =
      let making = b.advances.making in
      record {
        node = making.me ∙ mine.ballots_me;
        slot = making.slot ∙ mine.ballots_slot;
        hash_is = making.hash ∙ mine.ballots_hash;
        tells = ballots_tell me at hash old.ballots new.ballots (slot.ballots_given out) (making.me ∙ mine.ballots_me) (making.slot ∙ mine.ballots_slot) (making.hash ∙ mine.ballots_hash) b.advances;
        ends = ends_with old.ballots new.ballots (slot.ballots_given out) open' b.advances;
      }

  ballots_stay : new.ballots ≡ old.ballots → out.emitted.ballot ≡ None → BallotsSay me at hash old out new
  ballots_stay same none = record {
    node = ap (λ (b : Ballots). b.board.me) same ∙ mine.ballots_me;
    slot = ap (λ (b : Ballots). b.slot) same ∙ mine.ballots_slot;
    hash_is = ap (λ (b : Ballots). b.hash) same ∙ mine.ballots_hash;
    tells = tells_nothing me at hash false old.ballots.emitted out.emitted.ballot new.ballots.emitted none (ap (λ (b : Ballots). b.emitted) same);
    ends = λ e is. none_some out.emitted.ballot e none is;
  }

  passed_on : (composite : Option (List ℕ)) → slot.PassesOn composite old out new → BallotsSay me at hash old out new
  passed_on None p = ballots_stay p.ballots p.emitted
  passed_on (Some composite) p = ballots_advance p.ballots

  nomination_stays : new.nomination ≡ old.nomination → out.emitted.nomination ≡ None → NominationSays me at hash old out new
  nomination_stays same none = record {
    node = ap (λ (n : Nomination). n.board.me) same ∙ mine.nomination_me;
    slot = ap (λ (n : Nomination). n.slot) same ∙ mine.nomination_slot;
    hash_is = ap (λ (n : Nomination). n.hash) same ∙ mine.nomination_hash;
    tells = tells_nothing me at hash true (nominate.own old.nomination) out.emitted.nomination (nominate.own new.nomination) none (ap (λ (n : Nomination). nominate.own n) same);
  }

  nominates : (combined : List (List ℕ) → List ℕ) → slot.Nominates combined old out new → Says me at hash old out new
  nominates combined n =
      let making = n.making in
      record {
        nomination = record {
          node = making.me ∙ mine.nomination_me;
          slot = making.slot ∙ mine.nomination_slot;
          hash_is = making.hash ∙ mine.nomination_hash;
          tells = nomination_tells me at hash combined old.nomination new.nomination (slot.nomination_given out n.composite) (making.me ∙ mine.nomination_me) (making.slot ∙ mine.nomination_slot) (making.hash ∙ mine.nomination_hash) n.advances;
        };
        ballots = passed_on n.composite n.passed;
      }

  rests : (verdict : Verdict) → slot.Rests verdict old out new → Says me at hash old out new
  rests verdict r = record {
    nomination = nomination_stays (ap (λ (v : SlotView). v.nomination) r.same) (ap (λ (o : SlotOutput). o.emitted.nomination) r.quiet);
    ballots = ballots_stay (ap (λ (v : SlotView). v.ballots) r.same) (ap (λ (o : SlotOutput). o.emitted.ballot) r.quiet);
  }

  times : slot.Times old out new → Says me at hash old out new
  times t = record { nomination = nomination_stays t.nomination t.emitted; ballots = ballots_advance t.ballots }

  hears : (kind : StatementKind) (combined : List (List ℕ) → List ℕ) (e : Enveloped) (set : SharedSet) → slot.HearsKind kind combined e set old out new → Says me at hash old out new
  hears Nominating combined e set h = nominates combined h.nominates
  hears Balloting combined e set h = record { nomination = nomination_stays h.nomination h.emitted; ballots = ballots_advance h.ballots }

  -- whatever the input is
  pub says : (level : List ℕ → Level) (combined : List (List ℕ) → List ℕ) (input : SlotInput) → slot.Takes level combined input old out new → Says me at hash old out new
  says level combined input t = whatever_input (Says me at hash old out new) level combined old out new rests (nominates combined) times (λ kind e set h. hears kind combined e set h) input t
