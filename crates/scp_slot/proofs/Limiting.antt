-- What a machine holds and gives is short, after each input.
use Rattle.std.proofs.Common.{◌≡◌, ◌≢◌, ◌<◌, ◌≤◌, ℕ, Bool, true, false, List, [], length, Option, Some, None, cond, refl, sym, ◌∙◌, ap, subst, inl, inr, arith}
use Rattle.std.specs.Prelude.{IsSome, IsSomeAnd, IfSome, All, Contains}
use Rattle.std.specs.Option.{ForSome}
use Rattle.std.specs.BTreeMap.{is_at}
use Rattle.std.specs.List.Sorted.{IsStrictlySortedBy}
use Rattle.std.proofs.lemmas.Bool.{cases_lt}
use Rattle.std.proofs.lemmas.List.Elements.{All-weaker, All-contains_itself}
use Rattle.scp_nominate.specs.scp_types.specs.declared.ballot.Ballot.{Ballot}
use Rattle.scp_nominate.specs.scp_types.specs.declared.names.NodeId.{NodeId}
use Rattle.scp_nominate.specs.scp_quorum.specs.NodeSet.{node_cmp}
use Rattle.scp_nominate.specs.scp_quorum.specs.QuorumTree.{QuorumTree}
use Rattle.scp_nominate.specs.scp_quorum.specs.SharedSet.{SharedSet}
use Rattle.scp_nominate.specs.scp_envelope.specs.declared.statement.Pledges.{Pledges}
use Rattle.scp_nominate.specs.scp_envelope.specs.declared.statement.Pledges.TheVariants.{Prepare, Confirm, Externalize, Nominate}
use Rattle.scp_nominate.specs.scp_envelope.specs.declared.statement.Envelope.{Envelope as Enveloped}
use Rattle.scp_nominate.specs.scp_envelope.specs.Ballots.{value_cmp}
use Rattle.scp_nominate.specs.scp_envelope.specs.Newer.{ContainsAll, ArePledgesNewer}
use Rattle.scp_nominate.specs.scp_envelope.specs.Sane.{IsSane, IsSaneNominate}
use Rattle.scp_nominate.specs.scp_envelope.proofs.Longer.{larger_is_longer}
use Rattle.scp_nominate.specs.scp_envelope.specs.Short.{IsShortValue, SaysOnly, HasShortLists, IsShort}
use Rattle.scp_nominate.specs.scp_driver.specs.declared.driver.Level.{Level}
use Rattle.scp_nominate.specs.scp_driver.specs.declared.driver.Level.TheVariants.{Invalid, FullyValidated}
use Rattle.scp_nominate.specs.scp_driver.specs.Driver.{IsFull}
use Rattle.scp_nominate.specs.scp_vote.specs.declared.claim.StatementKind.{StatementKind}
use Rattle.scp_nominate.specs.scp_vote.specs.declared.claim.StatementKind.TheVariants.{Nomination as Nominating, Balloting}
use Rattle.scp_nominate.specs.scp_vote.specs.Board.{Seen, kind_of_pledges}
use Rattle.scp_nominate.specs.declared.nominator.Nominator.{Nominator}
use Rattle.scp_nominate.specs.Owed.{OwnLists, Suggests, MayVote, VotesFor}
use Rattle.scp_nominate.specs.Nomination as nominate
use Rattle.scp_ballot.specs.scp_ballot_rules.specs.declared.state.State.{State}
use Rattle.scp_ballot.specs.scp_ballot_rules.specs.Values.{BoardSaysOnly, StateSaysOnly}
use Rattle.scp_ballot.specs.scp_ballot_rules.proofs.Options.{none_some, for_some}
use Rattle.scp_ballot.specs.scp_ballot_rules.proofs.Saying.{compose_has, time_has, input_has}
use Rattle.scp_ballot.specs.declared.balloted.Balloted.{Balloted}
use Rattle.scp_ballot.specs.declared.balloted.Certified.{Certified}
use Rattle.scp_ballot.specs.Balloting as ballot
use Rattle.scp_ballot.specs.Outcome.{BeginsBlank, ComesOut, ComposesExactly, TimesExactly, HearsOn, HearsExactly}
use Rattle.scp_slot.specs.declared.output.SlotInput.{SlotInput}
use Rattle.scp_slot.specs.declared.output.SlotInput.TheVariants.{Propose, Round, Timer, Envelope}
use Rattle.scp_slot.specs.declared.output.SlotOutput.{SlotOutput}
use Rattle.scp_slot.specs.declared.output.Verdict.{Verdict}
use Rattle.scp_slot.specs.Judged.{HasInvalid, IsInvalid}
use Rattle.scp_slot.specs.Limits.{KeepsLimits}
use Rattle.scp_slot.specs.Slot.{SlotView, Begins, HoldsShort}
use Rattle.scp_slot.specs.Takes.{Rests, Ballots, BallotsRest, PassesOn, Nominates, HearsKind, TakesEnvelope, TakesInput, Takes, ballots_given}

no_one : {A : Type 0} (R : A → Type 0) (o : Option A) → o ≡ None → ForSome o R
no_one R o none = λ x e. none_some o x none e

is_one : {A : Type 0} (R : A → Type 0) (o : Option A) (y : A) → o ≡ Some y → R y → ForSome o R
is_one R o y e h = for_some R o y e h

same_option : {A : Type 0} (R : A → Type 0) (o n : Option A) → n ≡ o → ForSome o R → ForSome n R
same_option R o n e h = λ x is. h x (sym e ∙ is)

nothing_short : IsShortValue []
nothing_short = omega arith

unsigned_short : (s : List ℕ) → s ≡ [] → length s ≤ 64
unsigned_short s e = let l : length s ≡ 0 = ap length e in omega (arith, l)

-- ---- the ballots

-- what the ballots came to is short
record AreShort (b : ballot.Ballots) : Type 0 where
  pub board : BoardSaysOnly IsShortValue b.board
  pub state : StateSaysOnly IsShortValue b.state

come_short : (makes : State → State → Type 0) (board : Seen) (old new : ballot.Ballots) (given : Balloted) → BoardSaysOnly IsShortValue board → ((t : State) → makes old.state t → StateSaysOnly IsShortValue t) → ComesOut makes board old new given → AreShort new
come_short makes board old new given says then c =
    let all = input_has IsShortValue old.hash board old.state c.mid new.board new.state given.more nothing_short says (then c.mid c.made) c.after in
    record { board = all.0; state = all.1 }

compose_short : (z : List ℕ) (old new : ballot.Ballots) (given : Balloted) → IsShortValue z → AreShort old → ComposesExactly z old new given → AreShort new
compose_short z old new given short are c = come_short _ old.board old new given are.board (λ t made. compose_has IsShortValue old.state.phase z old.state t short are.state made) c

time_short : (old new : ballot.Ballots) (given : Balloted) → AreShort old → TimesExactly old new given → AreShort new
time_short old new given are c = come_short _ old.board old new given are.board (λ t made. time_has IsShortValue old.state t are.state made) c

put_short : (at : Bool) (o n : Option Pledges) (q : Pledges) → n ≡ cond at (Some q) o → SaysOnly IsShortValue q → ForSome o (λ p. SaysOnly IsShortValue p) → ForSome n (λ p. SaysOnly IsShortValue p)
put_short true o n q e says all = is_one (λ p. SaysOnly IsShortValue p) n q e says
put_short false o n q e says all = same_option (λ p. SaysOnly IsShortValue p) o n e all

heard_short : (old : ballot.Ballots) (e : Enveloped) (delivered : QuorumTree) (board : Seen) → SaysOnly IsShortValue e.statement.pledges → BoardSaysOnly IsShortValue old.board → HearsOn old e delivered board → BoardSaysOnly IsShortValue board
heard_short old e delivered board says all (inl heard) v = put_short (is_at (node_cmp e.statement.node) v) (old.board.statement v) (board.statement v) e.statement.pledges (heard.1.puts.statements v) says (all v)
heard_short old e delivered board says all (inr not) v = subst (λ (b : Seen). ForSome (b.statement v) (λ p. SaysOnly IsShortValue p)) (sym not.1) (all v)

hear_short : (e : Enveloped) (delivered : QuorumTree) (old new : ballot.Ballots) (given : Balloted) → SaysOnly IsShortValue e.statement.pledges → AreShort old → HearsExactly e delivered old new given → AreShort new
hear_short e delivered old new given says are h =
    come_short _ h.board old new given (heard_short old e delivered h.board says are.board h.hears) (λ t made. subst (λ (s : State). StateSaysOnly IsShortValue s) (sym made) are.state) h.comes

-- what they give is short
no_lists : (p : Pledges) → kind_of_pledges p ≡ Balloting → HasShortLists p
no_lists (Prepare p) kind = tt
no_lists (Confirm p) kind = tt
no_lists (Externalize p) kind = tt
no_lists (Nominate p) kind = absurd cc

own_short : (b : ballot.Ballots) (e : Enveloped) → AreShort b → ballot.IsOwnEnvelope b e → IsShort e
own_short b e are own = record { values = are.board b.board.me e.statement.pledges own.stands; lists = no_lists e.statement.pledges own.kind; signature = unsigned_short e.signature own.unsigned }

value_short : (p : Pledges) (d : Certified) → SaysOnly IsShortValue p → ballot.Externalizes p d → IsShortValue d.value
value_short (Prepare p) d says is = absurd is
value_short (Confirm p) d says is = absurd is
value_short (Externalize p) d says is = subst (λ (v : List ℕ). IsShortValue v) is.0 says
value_short (Nominate p) d says is = absurd is

-- What is short in the ballots and in what they give.
record Part (out : SlotOutput) (new : SlotView) : Type 0 where
  pub are : AreShort new.ballots
  pub ballot : ForSome out.emitted.ballot IsShort
  pub own : ForSome out.decided (λ d. IsShort d.own)
  pub value : ForSome out.decided (λ d. IsShortValue d.value)

part_of : (old : SlotView) (out : SlotOutput) (new : SlotView) → AreShort new.ballots → Ballots old out new → Part out new
part_of old out new are moves = record {
  are = are;
  ballot = λ e is. own_short new.ballots e are (moves.advances.statement e is);
  own = λ d is. own_short new.ballots d.own are (moves.advances.certified d is).own;
  value = λ d is. (let c = moves.advances.certified d is in value_short d.own.statement.pledges d (own_short new.ballots d.own are c.own).values c.externalizes);
}

part_rests : (old : SlotView) (out : SlotOutput) (new : SlotView) → AreShort old.ballots → BallotsRest old out new → Part out new
part_rests old out new are rests = record {
  are = subst (λ (b : ballot.Ballots). AreShort b) (sym rests.ballots) are;
  ballot = no_one IsShort out.emitted.ballot rests.emitted;
  own = no_one (λ (d : Certified). IsShort d.own) out.decided rests.decided;
  value = no_one (λ (d : Certified). IsShortValue d.value) out.decided rests.decided;
}

part_passed : (composite : Option (List ℕ)) (old : SlotView) (out : SlotOutput) (new : SlotView) → AreShort old.ballots → ForSome composite IsShortValue → PassesOn composite old out new → Part out new
part_passed None old out new are short passes = part_rests old out new are passes
part_passed (Some z) old out new are short passes = part_of old out new (compose_short z old.ballots new.ballots (ballots_given out) (short z refl) are passes.exact) passes.ballots

-- a ballot statement without an invalid value
some_valid : (level : List ℕ → Level) (valid : (v : List ℕ) → level v ≢ Invalid → IsShortValue v) (o : Option Ballot) → ¬ (IsSomeAnd o (λ x. IsInvalid level x.value)) → ForSome o (λ x. IsShortValue x.value)
some_valid level valid o not = λ x e. valid x.value (λ bad. not (subst (λ (p : Option Ballot). IsSomeAnd p (λ y. IsInvalid level y.value)) (sym e) bad))

says_valid : (level : List ℕ → Level) → ((v : List ℕ) → level v ≢ Invalid → IsShortValue v) → (p : Pledges) → kind_of_pledges p ≡ Balloting → ¬ (HasInvalid level p) → SaysOnly IsShortValue p
says_valid level valid (Prepare p) kind not =
    (valid p.ballot.value (λ bad. not (inl bad)), some_valid level valid p.prepared (λ bad. not (inr (inl bad))), some_valid level valid p.prepared_prime (λ bad. not (inr (inr bad))))
says_valid level valid (Confirm p) kind not = valid p.ballot.value not
says_valid level valid (Externalize p) kind not = valid p.commit.value not
says_valid level valid (Nominate p) kind not = absurd cc

-- ---- nomination

-- What the driver and the lists say of a machine after an input. What isn't invalid is short. The votes are few, the accepted
-- values are among them, and they are short if the proposal is. What the candidates are combined to is short.
pub record Given (level : List ℕ → Level) (combined : List (List ℕ) → List ℕ) (old new : nominate.Nomination) : Type 0 where
  pub valid : (v : List ℕ) → level v ≢ Invalid → IsShortValue v
  pub few : length new.lists.votes ≤ 7
  pub voted : (v : List ℕ) → Contains new.lists.accepted v → Contains new.lists.votes v
  pub votes : ForSome new.proposal IsShortValue → ((v : List ℕ) → Contains old.lists.votes v → IsShortValue v) → (v : List ℕ) → Contains new.lists.votes v → IsShortValue v
  pub made : new.slot ≡ old.slot → new.lists.candidates ≢ [] → IsShortValue (combined new.lists.candidates)

-- what it holds and what it gives
abbrev pub Holds : SlotOutput → SlotView → Type 0
Holds out new = HoldsShort new × KeepsLimits out

contains_each : (new old : List (List ℕ)) → ((v : List ℕ) → Contains old v → Contains new v) → ContainsAll new old
unfolding ContainsAll
contains_each new old all = All-weaker (λ v. Contains old v) (λ v. Contains new v) all old (All-contains_itself old)

-- of ascending lists, one that is within another isn't longer
no_longer : (old new : List (List ℕ)) → IsStrictlySortedBy value_cmp old → IsStrictlySortedBy value_cmp new → ((v : List ℕ) → Contains old v → Contains new v) → length old ≤ length new
no_longer old new first second all = elim (cases_lt (length new) (length old)) [
  | inl lt ↦
      let here : ContainsAll new old = contains_each new old all in
      let not : ¬ (ContainsAll old new) = λ back. (larger_is_longer new old second first back).1 lt here in
      let longer : length old < length new = (larger_is_longer old new first second here).0 not in
      omega (arith, lt, longer)
  | inr le ↦ le
]

nomination_short : (n : nominate.Nomination) (e : Enveloped) → length n.lists.votes ≤ 7 → ((v : List ℕ) → Contains n.lists.accepted v → Contains n.lists.votes v) → ((v : List ℕ) → Contains n.lists.votes v → IsShortValue v) → IsSane e.statement.pledges
    → nominate.IsOwnEnvelope n e → IsShort e
nomination_short n e few voted short sane own =
    let is : IsSaneNominate (record { set_hash = n.hash; votes = n.lists.votes; accepted = n.lists.accepted }) = subst (λ (p : Pledges). IsSane p) own.pledges sane in
    let shorter : length n.lists.accepted ≤ length n.lists.votes = no_longer n.lists.accepted n.lists.votes is.accepted_ascend is.votes_ascend voted in
    record {
      values = subst (λ (p : Pledges). SaysOnly IsShortValue p) (sym own.pledges) (short, λ v has. short v (voted v has));
      lists = subst (λ (p : Pledges). HasShortLists p) (sym own.pledges) (few, omega (arith, few, shorter));
      signature = unsigned_short e.signature own.unsigned;
    }

some_more : (old new : List (List ℕ)) → length old < length new → new ≢ []
some_more old new more e = let l : length new ≡ 0 = ap length e in omega (arith, l, more)

were_short : (v : SlotView) → HoldsShort v → AreShort v.ballots
were_short v holds = record { board = holds.board; state = holds.state }

short_nominated : (level : List ℕ → Level) (combined : List (List ℕ) → List ℕ) (old : SlotView) (out : SlotOutput) (new : SlotView) → Given level combined old.nomination new.nomination → HoldsShort old → ForSome new.nomination.proposal IsShortValue
    → Nominates combined old out new → Holds out new
short_nominated level combined old out new given holds proposal n =
    let votes = given.votes proposal holds.votes in
    let composite : ForSome n.composite IsShortValue =
    λ z is.
    subst (λ (v : List ℕ). IsShortValue v) (sym (n.advances.composite.all z is))
    (given.made n.making.slot (some_more old.nomination.lists.candidates new.nomination.lists.candidates (n.advances.composite.grew.0 (some_is n.composite z is)))) in
    let part : Part out new = part_passed n.composite old out new (were_short old holds) composite n.passed in (
      record { proposal = proposal; votes = votes; board = part.are.board; state = part.are.state },
      record { nomination = λ e is. nomination_short new.nomination e given.few given.voted votes (sane_in (λ q. ForSome (nominate.own old.nomination) (λ p. ArePledgesNewer p q)) (nominate.own new.nomination) e.statement.pledges (n.advances.statement e is).stands (n.advances.emitted.0 (some_is out.emitted.nomination e is))) (n.advances.statement e is); ballot = part.ballot; own = part.own; value = part.value },
    )
  where
    sane_in : (R : Pledges → Type 0) (o : Option Pledges) (p : Pledges) → o ≡ Some p → IsSomeAnd o (λ q. IsSane q × R q) → IsSane p
    sane_in R o p e h = let at : IsSane p × R p = subst (λ (x : Option Pledges). IsSomeAnd x (λ q. IsSane q × R q)) e h in at.0

    some_is : {A : Type 0} (o : Option A) (x : A) → o ≡ Some x → IsSome o
    some_is o x e = subst (λ p. IsSome p) (sym e) refl

short_balloted : (old : SlotView) (out : SlotOutput) (new : SlotView) → HoldsShort old → AreShort new.ballots → Ballots old out new → new.nomination ≡ old.nomination → out.emitted.nomination ≡ None → Holds out new
short_balloted old out new holds are moves stays none =
    let part : Part out new = part_of old out new are moves in (
      record {
        proposal = subst (λ (n : nominate.Nomination). ForSome n.proposal IsShortValue) (sym stays) holds.proposal;
        votes = subst (λ (n : nominate.Nomination). (v : List ℕ) → Contains n.lists.votes v → IsShortValue v) (sym stays) holds.votes;
        board = part.are.board;
        state = part.are.state;
      },
      record { nomination = no_one IsShort out.emitted.nomination none; ballot = part.ballot; own = part.own; value = part.value },
    )

short_rests : (verdict : Verdict) (old : SlotView) (out : SlotOutput) (new : SlotView) → HoldsShort old → Rests verdict old out new → Holds out new
short_rests verdict old out new holds rests = (
  subst (λ (v : SlotView). HoldsShort v) (sym rests.same) holds,
  subst (λ (o : SlotOutput). KeepsLimits o) (sym rests.quiet) (record { nomination = no_one IsShort None refl; ballot = no_one IsShort None refl; own = no_one (λ (d : Certified). IsShort d.own) None refl; value = no_one (λ (d : Certified). IsShortValue d.value) None refl }),
)

-- ---- each input

short_kind : (kind : StatementKind) (level : List ℕ → Level) (combined : List (List ℕ) → List ℕ) (e : Enveloped) (set : SharedSet) (old : SlotView) (out : SlotOutput) (new : SlotView) → kind_of_pledges e.statement.pledges ≡ kind → ¬ (HasInvalid level e.statement.pledges)
    → Given level combined old.nomination new.nomination → HoldsShort old → HearsKind kind combined e set old out new → Holds out new
short_kind Nominating level combined e set old out new is good given holds hears = short_nominated level combined old out new given holds (same_option IsShortValue old.nomination.proposal new.nomination.proposal hears.proposal holds.proposal) hears.nominates
short_kind Balloting level combined e set old out new is good given holds hears =
    short_balloted old out new holds
    (hear_short e set.value old.ballots new.ballots (ballots_given out) (says_valid level given.valid e.statement.pledges is good) (were_short old holds) hears.exact)
    hears.ballots hears.nomination hears.emitted

short_envelope : (level : List ℕ → Level) (combined : List (List ℕ) → List ℕ) (e : Enveloped) (set : SharedSet) (old : SlotView) (out : SlotOutput) (new : SlotView) → Given level combined old.nomination new.nomination → HoldsShort old → TakesEnvelope level combined e set old out new → Holds out new
short_envelope level combined e set old out new given holds takes = elim takes [
  | inl own ↦ short_rests _ old out new holds own.1
  | inr a ↦ elim a.1 [
    | inl bad ↦ short_rests _ old out new holds bad.1
    | inr b ↦ elim b.1 [
      | inl bad ↦ short_rests _ old out new holds bad.1
      | inr c ↦ elim c.1 [
        | inl stale ↦ short_rests _ old out new holds stale.1
        | inr d ↦ short_kind (kind_of_pledges e.statement.pledges) level combined e set old out new refl c.0 given holds d.1
      ]
    ]
  ]
]

-- a value that is fully validated, or one that isn't
not_invalid : (l : Level) → ¬ (l ≢ FullyValidated) → l ≢ Invalid
not_invalid l full bad = full (λ e. let t : Invalid ≡ FullyValidated = sym bad ∙ e in cc)

short_input : (level : List ℕ → Level) (combined : List (List ℕ) → List ℕ) (input : SlotInput) (old : SlotView) (out : SlotOutput) (new : SlotView) → Given level combined old.nomination new.nomination → HoldsShort old → TakesInput level combined input old out new → Holds out new
short_input level combined (Propose value) old out new given holds takes = elim takes [
  | inl bad ↦ short_rests _ old out new holds bad.1
  | inr a ↦ elim a.1 [
    | inl idle ↦ short_rests _ old out new holds idle.1
    | inr b ↦ short_nominated level combined old out new given holds (is_one IsShortValue new.nomination.proposal value b.1.proposal (given.valid value (not_invalid (level value) a.0))) b.1.nominates
  ]
]
short_input level combined Round old out new given holds takes = elim takes [
  | inl idle ↦ short_rests _ old out new holds idle.1
  | inr a ↦ short_nominated level combined old out new given holds (same_option IsShortValue old.nomination.proposal new.nomination.proposal a.1.proposal holds.proposal) a.1.nominates
]
short_input level combined Timer old out new given holds takes = short_balloted old out new holds (time_short old.ballots new.ballots (ballots_given out) (were_short old holds) takes.exact) takes.ballots takes.nomination takes.emitted
short_input level combined (Envelope e set) old out new given holds takes = short_envelope level combined e set old out new given holds takes

pub short_taken : (level : List ℕ → Level) (combined : List (List ℕ) → List ℕ) (input : SlotInput) (old : SlotView) (out : SlotOutput) (new : SlotView) → Given level combined old.nomination new.nomination → HoldsShort old → Takes level combined input old out new → Holds out new
short_taken level combined input old out new given holds takes = elim takes [ inl late ↦ short_rests _ old out new holds late.1 | inr on ↦ short_input level combined input old out new given holds on.1 ]

-- ---- what a driver and a nominator say

is_full : (l : Level) → l ≡ FullyValidated → l ≢ Invalid
is_full l full bad = let t : Invalid ≡ FullyValidated = sym bad ∙ full in cc

votes_short : (full : List ℕ → Type 0) (extracted : List ℕ → Option (List ℕ)) (leads : NodeId → Type 0) (proposal : Option (List ℕ)) (b : Seen) (old new : OwnLists) → ((v : List ℕ) → full v → IsShortValue v) → ((named v : List ℕ) → extracted named ≡ Some v → full v)
    → ((v : List ℕ) → Contains new.accepted v → full v) → VotesFor (MayVote full extracted leads proposal b) old new → ForSome proposal IsShortValue → ((v : List ℕ) → Contains old.votes v → IsShortValue v) → (v : List ℕ) → Contains new.votes v → IsShortValue v
votes_short full extracted leads proposal b old new short taken valid votes proposed before v has = elim (votes v has) [
  | inl had ↦ before v had
  | inr a ↦ elim a [
    | inl accepted ↦ short v (valid v accepted)
    | inr may ↦ elim may.1 [
      | inl own ↦ proposed v own.1
      | inr led ↦ suggested led.0 v led.2
    ]
  ]
]
  where
    suggested : (node : NodeId) (v : List ℕ) → Suggests full extracted b node v → IsShortValue v
    suggested node v some = elim some.1.2 [ inl is ↦ subst (λ (w : List ℕ). IsShortValue w) is.1 (short some.1.0 is.0) | inr other ↦ short v (taken some.1.0 v other.1) ]

pub given_by : {D : Type 0} (level : D → ℕ → List ℕ → Level) (extracted : D → ℕ → List ℕ → Option (List ℕ)) (combined : D → ℕ → List (List ℕ) → List ℕ) (place : D → ℕ → ℕ → ℕ → ℕ)
    → ((d : D) (slot : ℕ) (v : List ℕ) → level d slot v ≢ Invalid → length v ≤ 4096) → ((d : D) (slot : ℕ) (v : List ℕ) → IfSome (extracted d slot v) (λ found. IsFull (level d) slot found))
    → ((d : D) (slot : ℕ) (vs : List (List ℕ)) → vs ≢ [] → All (λ v. IsFull (level d) slot v) vs → IsFull (level d) slot (combined d slot vs)) → (d : D) (slot : ℕ) (old : nominate.Nomination) (m : Nominator D)
    → nominate.driver_of m ≡ d → nominate.IsSound level place m → (nominate.nomination m).failed ≡ false → nominate.VotesWell level extracted place old.lists m → Given (level d slot) (combined d old.slot) old (nominate.nomination m)
given_by {D} level extracted combined place valid_is_short extracts_full combines_full d slot old m driver sound working votes =
    let own : D = nominate.driver_of m in
    let n : nominate.Nomination = nominate.nomination m in
    let full : List ℕ → Type 0 = λ v. IsFull (level own) n.slot v in
    let ready = (sound working).rest.ready in
    let short : (v : List ℕ) → full v → IsShortValue v = λ v f. valid_is_short own n.slot v (is_full (level own n.slot v) f) in
    record {
      valid = λ v good. valid_is_short d slot v good;
      few = ready.few;
      voted = ready.voted;
      votes = λ proposed before. votes_short full (extracted own n.slot) _ n.proposal n.board old.lists n.lists short (λ named v e. subst (λ (o : Option (List ℕ)). IfSome o (λ found. full found)) e (extracts_full own n.slot named)) ready.valid votes proposed before;
      made = λ same some.
          let whole : full (combined own n.slot n.lists.candidates) =
          combines_full own n.slot n.lists.candidates some (All-weaker (λ v. Contains n.lists.candidates v) full (λ v has. ready.valid v (ready.candidates v has)) n.lists.candidates (All-contains_itself n.lists.candidates)) in
          subst (λ (k : ℕ). IsShortValue (combined d k n.lists.candidates)) same (subst (λ (x : D). IsShortValue (combined x n.slot n.lists.candidates)) driver (short (combined own n.slot n.lists.candidates) whole));
    }

-- ---- a machine that has heard and said nothing

none_in : (vs : List (List ℕ)) → vs ≡ [] → (v : List ℕ) → Contains vs v → IsShortValue v
none_in vs e v has = let l : length vs ≡ 0 = ap length e in absurd (omega (arith, l, has.1))

pub begins_short : (node : NodeId) (number : ℕ) (set : QuorumTree) (v : SlotView) → Begins node number set v → BeginsBlank v.ballots → HoldsShort v
begins_short node number set v begins blank =
    let none : (o : Option Ballot) → o ≡ None → ForSome o (λ x. IsShortValue x.value) = λ o e. no_one (λ (x : Ballot). IsShortValue x.value) o e in
    record {
      proposal = no_one IsShortValue v.nomination.proposal begins.nomination.proposal;
      votes = none_in v.nomination.lists.votes (ap (λ (l : OwnLists). l.votes) begins.nomination.lists);
      board = λ u. no_one (λ p. SaysOnly IsShortValue p) (v.ballots.board.statement u) (begins.ballots.statements u);
      state = record {
        present = none v.ballots.state.present blank.blank.present;
        prepared = none v.ballots.state.prepared blank.blank.prepared;
        prime = none v.ballots.state.prime blank.blank.prime;
        confirmed = none v.ballots.state.confirmed blank.blank.confirmed;
        high = none v.ballots.state.high blank.blank.high;
        low = none v.ballots.state.low blank.blank.low;
        composite = no_one IsShortValue v.ballots.state.composite blank.composite;
      };
    }
