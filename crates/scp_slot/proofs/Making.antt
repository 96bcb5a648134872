-- What the calls of nomination and ballots make of a machine, as its contracts see it.
use Rattle.std.proofs.Common.{◌≡◌, ◌≢◌, ◌<◌, ◌≤◌, ◌+◌, ◌↔◌, ◌⊎◌, ℕ, Bool, true, false, List, [], length, Option, Some, None, cond, refl, sym, ◌∙◌, ap, subst, inl, inr, rules}
use Rattle.std.specs.Prelude.{IsSome, is_some, IsSomeAnd}
use Rattle.std.specs.Option.{option_map, ForSome}
use Rattle.std.proofs.lemmas.Bool.{cases_lt}
use Rattle.scp_nominate.specs.scp_types.specs.declared.names.NodeId.{NodeId}
use Rattle.scp_nominate.specs.scp_quorum.specs.QuorumTree.{QuorumTree}
use Rattle.scp_nominate.specs.scp_driver.specs.declared.driver.Level.{Level}
use Rattle.scp_nominate.specs.scp_quorum.specs.SharedSet.{SharedSet}
use Rattle.scp_nominate.specs.scp_envelope.specs.Sane.{IsSane}
use Rattle.scp_nominate.specs.scp_envelope.specs.declared.statement.Envelope.{Envelope as Enveloped}
use Rattle.scp_nominate.specs.scp_envelope.specs.declared.statement.Envelope.{Envelope as AnEnvelope}
use Rattle.scp_nominate.specs.scp_vote.specs.declared.claim.StatementKind.{StatementKind}
use Rattle.scp_nominate.specs.scp_vote.specs.declared.claim.StatementKind.TheVariants.{Nomination as Nominating, Balloting}
use Rattle.scp_nominate.specs.scp_vote.specs.Board.{kind_of_pledges, counted_of_other}
use Rattle.scp_nominate.specs.declared.nominated.Nominated.{Nominated}
use Rattle.scp_nominate.specs.Nomination as nominate
use Rattle.scp_ballot.specs.declared.balloted.Balloted.{Balloted}
use Rattle.scp_ballot.specs.Balloting as ballot
use Rattle.scp_ballot.specs.Outcome.{ComposesExactly, HearsExactly}
use Rattle.scp_slot.specs.declared.newest.Heard.{Heard}
use Rattle.scp_slot.specs.declared.output.SlotOutput.{SlotOutput}
use Rattle.scp_slot.specs.declared.output.Verdict.{Verdict}
use Rattle.scp_slot.specs.declared.output.Verdict.TheVariants.{Fresh, Stale, Own, BadStatement, BadValue, Idle}
use Rattle.scp_slot.specs.Newest.{Puts}
use Rattle.scp_slot.specs.Judged.{HasInvalid, IsBehind}
use Rattle.scp_slot.specs.inside.Judged.{IsJudged}
use Rattle.scp_slot.specs.declared.state.State.{State}
use Rattle.scp_slot.specs.Slot.{SlotView, IsRunning, view_of}
use Rattle.scp_slot.specs.Takes.{Rests, Cases, Ballots, BallotsRest, Candidate, PassesOn, Nominates, nomination_given, ballots_given, IsSameMachine, Enters, Times, HearsNomination, HearsBallot, HearsFresh, TakesEnvelope, last_of}

pub after : {D : Type 0} (s t : State D) → s ≡ t → view_of s false ≡ view_of t false
after {D} s t e = ap (λ (x : State D). view_of x false) e

pub same_nominator : {D : Type 0} (s t : State D) → s ≡ t → s.nominator ≡ t.nominator
same_nominator {D} s t e = ap (λ (x : State D). x.nominator) e

pub enters_as : (e : Enveloped) (set : SharedSet) (old mid new : SlotView) → new.newest ≡ mid.newest → Enters e set old mid → Enters e set old new
enters_as e set old mid new is enters = record { heard = enters.heard; statement = enters.statement; with_set = enters.with_set; puts = subst (λ (n : StatementKind → NodeId → Option Heard). Puts old.newest n enters.heard) (sym is) enters.puts }

pub moves_by : (old : SlotView) (b : ballot.Ballots) (out : SlotOutput) (new : SlotView) (given : Balloted) → ballots_given out ≡ given → new.ballots ≡ b → new.more ≡ given.more → new.decided ≡ is_some given.decided
    → ballot.Advances old.ballots b given → (ballot.HasBallot old.ballots → ballot.HasBallot b) → b.failed ≡ false → Ballots old out new
moves_by old b out new given gives is more decided advances has working = record {
  advances = subst (λ (x : ballot.Ballots). ballot.Advances old.ballots x (ballots_given out)) (sym is) (subst (λ (g : Balloted). ballot.Advances old.ballots b g) (sym gives) advances);
  has_ballot = λ had. subst (λ (x : ballot.Ballots). ballot.HasBallot x) (sym is) (has had);
  working = ap (λ (x : ballot.Ballots). x.failed) is ∙ working;
  more = more ∙ ap (λ (g : Balloted). g.more) (sym gives);
  settled = decided ∙ ap (λ (g : Balloted). is_some g.decided) (sym gives);
}

-- what holds of what the ballots came to and gave holds of the machine's
pub exact_by : (P : ballot.Ballots → Balloted → Type 0) (b new : ballot.Ballots) (out : SlotOutput) (given : Balloted) → ballots_given out ≡ given → new ≡ b → P b given → P new (ballots_given out)
exact_by P b new out given gives is h = subst (λ (x : ballot.Ballots). P x (ballots_given out)) (sym is) (subst (λ (g : Balloted). P b g) (sym gives) h)

pub kept_by : (old new b : ballot.Ballots) → new ≡ b → ballot.KeepsOthers old.board b.board → ballot.KeepsOthers old.board new.board
kept_by old new b is others = subst (λ (x : ballot.Ballots). ballot.KeepsOthers old.board x.board) (sym is) others

-- what was passed on with a new nomination is passed on with the old one
pub passes_as : (composite : Option (List ℕ)) (old mid : SlotView) (out : SlotOutput) (new : SlotView) → mid.ballots ≡ old.ballots → mid.more ≡ old.more → mid.decided ≡ old.decided → PassesOn composite mid out new → PassesOn composite old out new
passes_as None old mid out new b m d passes = record { ballots = passes.ballots ∙ b; emitted = passes.emitted; decided = passes.decided; more = passes.more ∙ m; still = passes.still ∙ m; settled = passes.settled ∙ d }
passes_as (Some v) old mid out new b m d passes = record {
  ballots = record {
    advances = subst (λ (x : ballot.Ballots). ballot.Advances x new.ballots (ballots_given out)) b passes.ballots.advances;
    has_ballot = λ had. passes.has_ballot;
    working = passes.ballots.working;
    more = passes.ballots.more;
    settled = passes.ballots.settled;
  };
  composite = subst (λ (x : ballot.Ballots). ballot.TakesValue v x new.ballots) b passes.composite;
  first = subst (λ (x : ballot.Ballots). ballot.MakesFirst v x new.ballots) b passes.first;
  has_ballot = passes.has_ballot;
  others = subst (λ (x : ballot.Ballots). ballot.KeepsOthers x.board new.ballots.board) b passes.others;
  exact = subst (λ (x : ballot.Ballots). ComposesExactly v x new.ballots (ballots_given out)) b passes.exact;
}

pub nominates_by : (combined : List (List ℕ) → List ℕ) (old mid : SlotView) (out : SlotOutput) (new : SlotView) (given : Nominated) → nominate.Advances combined (nominate.own old.nomination) old.nomination.lists mid.nomination given → nominate.KeepsMaking old.nomination mid.nomination
    → mid.nomination.failed ≡ false → mid.ballots ≡ old.ballots → mid.more ≡ old.more → mid.decided ≡ old.decided → new.nomination ≡ mid.nomination → PassesOn given.composite mid out new → out.emitted.nomination ≡ given.statement → out.verdict ≡ Fresh → Nominates combined old out new
nominates_by combined old mid out new given advances making working b m d is passes emitted verdict = record {
  composite = given.composite;
  advances = subst (λ (n : nominate.Nomination). nominate.Advances combined (nominate.own old.nomination) old.nomination.lists n (nomination_given out given.composite)) (sym is)
      (subst (λ (s : Option AnEnvelope). nominate.Advances combined (nominate.own old.nomination) old.nomination.lists mid.nomination (record { statement = s; composite = given.composite })) (sym emitted) advances);
  making = subst (λ (n : nominate.Nomination). nominate.KeepsMaking old.nomination n) (sym is) making;
  working = ap (λ (n : nominate.Nomination). n.failed) is ∙ working;
  passed = passes_as given.composite old mid out new b m d passes;
  verdict = verdict;
}

pub none_proposed : (o : Option (List ℕ)) → ¬ (IsSome o) → o ≡ None
none_proposed None not = refl
none_proposed (Some v) not = absurd (not (search rules))

pub first_kept : (o : Option (List ℕ)) (v : List ℕ) → ¬ (IsSome o) → nominate.first_of o v ≡ Some v
first_kept o v not = subst (λ (x : Option (List ℕ)). nominate.first_of x v ≡ Some v) (sym (none_proposed o not)) refl

pub round_left : (rounds nodes : ℕ) → ¬ (nodes ≤ rounds) → rounds < nodes
round_left rounds nodes not = elim (cases_lt rounds nodes) [ inl lt ↦ lt | inr ge ↦ absurd (not ge) ]

-- the verdict on an envelope, and what comes of it
pub judged_rests : (level : List ℕ → Level) (combined : List (List ℕ) → List ℕ) (e : Enveloped) (set : SharedSet) (verdict : Verdict) (old : SlotView) (out : SlotOutput) (new : SlotView) → IsJudged level old.me (last_of old e.statement) e.statement verdict → verdict ≢ Fresh → Rests verdict old out new
    → TakesEnvelope level combined e set old out new
judged_rests level combined e set verdict old out new judged stale rests = elim judged [
  | inl own ↦ inl (own.0, turned _ own.1)
  | inr a ↦ inr (
    a.0,
    elim a.1 [
      | inl bad ↦ inl (bad.0, turned _ bad.1)
      | inr b ↦ inr (
        b.0,
        elim b.1 [
          | inl bad ↦ inl (bad.0, turned _ bad.1)
          | inr c ↦ inr (c.0, elim c.1 [ inl behind ↦ inl (behind.0, turned _ behind.1) | inr d ↦ absurd (stale d.1) ])
        ],
      )
    ],
  )
]
  where
    turned : (w : Verdict) → verdict ≡ w → Rests w old out new
    turned w is = subst (λ (x : Verdict). Rests x old out new) is rests

pub judged_fresh : (level : List ℕ → Level) (combined : List (List ℕ) → List ℕ) (e : Enveloped) (set : SharedSet) (verdict : Verdict) (old : SlotView) (out : SlotOutput) (new : SlotView) → IsJudged level old.me (last_of old e.statement) e.statement verdict → verdict ≡ Fresh → HearsFresh combined e set old out new
    → TakesEnvelope level combined e set old out new
judged_fresh level combined e set verdict old out new judged fresh hears = elim judged [
  | inl own ↦ absurd (let t : Own ≡ Fresh = sym own.1 ∙ fresh in cc)
  | inr a ↦ inr (
    a.0,
    elim a.1 [
      | inl bad ↦ absurd (let t : BadStatement ≡ Fresh = sym bad.1 ∙ fresh in cc)
      | inr b ↦ inr (
        b.0,
        elim b.1 [
          | inl bad ↦ absurd (let t : BadValue ≡ Fresh = sym bad.1 ∙ fresh in cc)
          | inr c ↦ inr (c.0, elim c.1 [ inl behind ↦ absurd (let t : Stale ≡ Fresh = sym behind.1 ∙ fresh in cc) | inr d ↦ inr (d.0, hears) ])
        ],
      )
    ],
  )
]

pub not_own : (level : List ℕ → Level) (me : NodeId) (newest : Option Heard) (e : Enveloped) (verdict : Verdict) → IsJudged level me newest e.statement verdict → verdict ≡ Fresh → e.statement.node ≢ me
not_own level me newest e verdict judged fresh = elim judged [ inl own ↦ absurd (let t : Own ≡ Fresh = sym own.1 ∙ fresh in cc) | inr a ↦ a.0 ]

pub hears_ballot : (old new : ballot.Ballots) (e : Enveloped) (q : QuorumTree) → e.statement.node ≢ old.board.me → e.statement.slot.0 ≡ old.slot → kind_of_pledges e.statement.pledges ≡ Balloting → (ballot.IsDecided old → ⊥) → ballot.HearsOnly old new e q
    → ballot.Hears old.board new.board e.statement.node e.statement.pledges (counted_of_other e.statement.node e.statement.pledges q)
hears_ballot old new e q other slot kind undecided hears = elim hears [ inl heard ↦ heard.1 | inr not ↦ absurd (not.0 (other, slot, kind, undecided)) ]

pub heard_by : (e : Enveloped) (set : SharedSet) (old mid : SlotView) (b : ballot.Ballots) (out : SlotOutput) (new : SlotView) (given : Balloted) → IsRunning old → old.decided ≡ false → e.statement.node ≢ old.me → e.statement.slot.0 ≡ old.slot → kind_of_pledges e.statement.pledges ≡ Balloting
    → mid.me ≡ old.me → mid.slot ≡ old.slot → mid.nomination ≡ old.nomination → mid.ballots ≡ old.ballots → Enters e set old mid
    → new.me ≡ mid.me → new.slot ≡ mid.slot → new.nomination ≡ mid.nomination → new.newest ≡ mid.newest → new.ballots ≡ b → new.more ≡ given.more → new.decided ≡ is_some given.decided
    → ballots_given out ≡ given → out.emitted.nomination ≡ None → out.verdict ≡ Fresh
    → ballot.Advances mid.ballots b given → (ballot.HasBallot mid.ballots → ballot.HasBallot b) → b.failed ≡ false → b.composite ≡ mid.ballots.composite → ballot.HearsOnly mid.ballots b e set.value → HearsExactly e set.value mid.ballots b given → HearsBallot e set old out new
heard_by e set old mid b out new given runs undecided other slot kind m_me m_slot m_nomination m_ballots enters n_me n_slot n_nomination n_newest n_ballots n_more n_decided gives silent fresh advances has working composite hears exact = record {
  machine = record { me = n_me ∙ m_me; slot = n_slot ∙ m_slot };
  ballots = moves_by old b out new given gives n_ballots n_more n_decided (subst (λ (x : ballot.Ballots). ballot.Advances x b given) m_ballots advances) (subst (λ (x : ballot.Ballots). ballot.HasBallot x → ballot.HasBallot b) m_ballots has) working;
  composite = ap (λ (x : ballot.Ballots). x.composite) n_ballots ∙ composite ∙ ap (λ (x : ballot.Ballots). x.composite) m_ballots;
  exact = exact_by (λ x g. HearsExactly e set.value old.ballots x g) b new.ballots out given gives n_ballots (subst (λ (x : ballot.Ballots). HearsExactly e set.value x b given) m_ballots exact);
  hears = subst (λ (x : ballot.Ballots). ballot.Hears old.ballots.board x.board e.statement.node e.statement.pledges (counted_of_other e.statement.node e.statement.pledges set.value)) (sym n_ballots)
      (hears_ballot old.ballots b e set.value (λ is. other (is ∙ runs.ballots_me)) (slot ∙ sym runs.ballots_slot) kind (λ was. let t : true ≡ false = sym (runs.decided.1 was) ∙ undecided in absurd cc) (subst (λ (x : ballot.Ballots). ballot.HearsOnly x b e set.value) m_ballots hears));
  nomination = n_nomination ∙ m_nomination;
  emitted = silent;
  enters = enters_as e set old mid new n_newest enters;
  verdict = fresh;
}

pub nominated_by : (combined : List (List ℕ) → List ℕ) (e : Enveloped) (set : SharedSet) (old noted mid : SlotView) (out : SlotOutput) (new : SlotView) (given : Nominated)
    → noted.me ≡ old.me → noted.slot ≡ old.slot → noted.nomination ≡ old.nomination → mid.ballots ≡ old.ballots → mid.more ≡ old.more → mid.decided ≡ old.decided → Enters e set old noted
    → new.me ≡ noted.me → new.slot ≡ noted.slot → new.nomination ≡ mid.nomination → new.newest ≡ noted.newest
    → nominate.Advances combined (nominate.own noted.nomination) noted.nomination.lists mid.nomination given → nominate.KeepsMaking noted.nomination mid.nomination → mid.nomination.failed ≡ false
    → mid.nomination.proposal ≡ noted.nomination.proposal → mid.nomination.rounds ≡ noted.nomination.rounds → nominate.Hears noted.nomination.board mid.nomination.board e.statement.node e.statement.pledges (counted_of_other e.statement.node e.statement.pledges set.value)
    → PassesOn given.composite mid out new → out.emitted.nomination ≡ given.statement → out.verdict ≡ Fresh → HearsNomination combined e set old out new
nominated_by combined e set old noted mid out new given o_me o_slot o_nomination o_ballots o_more o_decided enters n_me n_slot is n_newest advances making working proposal rounds hears passes emitted verdict = record {
  machine = record { me = n_me ∙ o_me; slot = n_slot ∙ o_slot };
  nominates = nominates_by combined old mid out new given
      (subst (λ (n : nominate.Nomination). nominate.Advances combined (nominate.own n) n.lists mid.nomination given) o_nomination advances)
      (subst (λ (n : nominate.Nomination). nominate.KeepsMaking n mid.nomination) o_nomination making)
      working o_ballots o_more o_decided is passes emitted verdict;
  proposal = ap (λ (n : nominate.Nomination). n.proposal) is ∙ proposal ∙ ap (λ (n : nominate.Nomination). n.proposal) o_nomination;
  rounds = ap (λ (n : nominate.Nomination). n.rounds) is ∙ rounds ∙ ap (λ (n : nominate.Nomination). n.rounds) o_nomination;
  hears = subst (λ (n : nominate.Nomination). nominate.Hears n.board new.nomination.board e.statement.node e.statement.pledges (counted_of_other e.statement.node e.statement.pledges set.value)) o_nomination
      (subst (λ (n : nominate.Nomination). nominate.Hears noted.nomination.board n.board e.statement.node e.statement.pledges (counted_of_other e.statement.node e.statement.pledges set.value)) (sym is) hears);
  enters = enters_as e set old noted new n_newest enters;
}
