-- A machine runs on after each input, and decides once.
use Rattle.std.proofs.Common.{◌≡◌, ◌≢◌, ◌↔◌, ◌⊎◌, ℕ, Bool, true, false, List, [], Option, Some, None, cond, refl, sym, ◌∙◌, ap, subst, inl, inr, rules}
use Rattle.std.specs.Prelude.{IsSome, IsSomeAnd}
use Rattle.std.specs.Option.{option_map, ForSome}
use Rattle.std.specs.BTreeMap.{is_at}
use Rattle.scp_nominate.specs.scp_types.specs.declared.names.NodeId.{NodeId}
use Rattle.scp_nominate.specs.scp_quorum.specs.NodeSet.{node_cmp}
use Rattle.scp_nominate.specs.scp_quorum.specs.QuorumTree.{QuorumTree}
use Rattle.scp_nominate.specs.scp_driver.specs.declared.driver.Level.{Level}
use Rattle.scp_nominate.specs.scp_quorum.specs.SharedSet.{SharedSet}
use Rattle.scp_nominate.specs.scp_envelope.specs.declared.statement.Pledges.{Pledges}
use Rattle.scp_nominate.specs.scp_envelope.specs.declared.statement.Statement.{Statement}
use Rattle.scp_nominate.specs.scp_envelope.specs.declared.statement.Envelope.{Envelope as Enveloped}
use Rattle.scp_nominate.specs.scp_vote.specs.declared.claim.StatementKind.{StatementKind}
use Rattle.scp_nominate.specs.scp_vote.specs.declared.claim.StatementKind.TheVariants.{Nomination as Nominating, Balloting}
use Rattle.scp_nominate.specs.scp_vote.specs.Board.{Seen, kind_of_pledges, counted_of_other}
use Rattle.scp_nominate.specs.scp_types.specs.declared.names.Hash.{Hash}
use Rattle.scp_nominate.specs.scp_types.specs.declared.ballot.Ballot.{Ballot}
use Rattle.scp_ballot.specs.scp_ballot_rules.specs.Owed.{OwesNothing, IsSettled, own_or_nothing}
use Rattle.scp_ballot.specs.declared.balloted.Certified.{Certified}
use Rattle.scp_nominate.specs.Nomination as nominate
use Rattle.scp_nominate.specs.Owed.{OwnLists}
use Rattle.scp_ballot.specs.Balloting as ballot
use Rattle.scp_ballot.specs.Balloting.{IsDecided, HasBallot}
use Rattle.scp_slot.specs.declared.newest.Heard.{Heard}
use Rattle.scp_slot.specs.declared.output.SlotInput.{SlotInput}
use Rattle.scp_slot.specs.declared.output.SlotInput.TheVariants.{Propose, Round, Timer, Envelope}
use Rattle.scp_slot.specs.declared.output.SlotOutput.{SlotOutput}
use Rattle.scp_slot.specs.declared.output.Verdict.{Verdict}
use Rattle.scp_slot.specs.Newest.{Puts}
use Rattle.scp_slot.specs.Slot.{SlotView, Shows, IsRunning, Begins}
use Rattle.scp_slot.specs.Takes.{Rests, Cases, Ballots, BallotsRest, PassesOn, Nominates, IsSameMachine, Enters, Proposes, AddsRound, Times, HearsNomination, HearsBallot, HearsKind, HearsFresh, TakesEnvelope, TakesInput, Takes, Decides, quiet}
use Rattle.scp_slot.proofs.Running.{none_not, shows_kept, shows_put, running_nominated, running_balloted}

running_rests : (verdict : Verdict) (old : SlotView) (out : SlotOutput) (new : SlotView) → IsRunning old → Rests verdict old out new → IsRunning new
running_rests verdict old out new runs rests = subst (λ (v : SlotView). IsRunning v) (sym rests.same) runs

running_kind : (kind : StatementKind) (combined : List (List ℕ) → List ℕ) (e : Enveloped) (set : SharedSet) (old : SlotView) (out : SlotOutput) (new : SlotView) → kind_of_pledges e.statement.pledges ≡ kind → IsRunning old → old.decided ≡ false → HearsKind kind combined e set old out new → IsRunning new
running_kind Nominating combined e set old out new is runs undecided hears =
    let h = hears.enters.heard in
    let same_kind : kind_of_pledges h.statement.pledges ≡ Nominating = ap (λ (s : Statement). kind_of_pledges s.pledges) hears.enters.statement ∙ is in
    let puts : (v : NodeId) → new.newest Nominating v ≡ cond (is_at (node_cmp e.statement.node) v) (Some h) (old.newest Nominating v) =
    λ v. subst (λ (n : NodeId). new.newest Nominating v ≡ cond (is_at (node_cmp n) v) (Some h) (old.newest Nominating v)) (ap (λ (s : Statement). s.node) hears.enters.statement) (subst (λ (k : StatementKind). new.newest k v ≡ cond (is_at (node_cmp h.statement.node) v) (Some h) (old.newest k v)) same_kind (hears.enters.puts.its_kind v)) in
    running_nominated combined old out new runs undecided hears.machine hears.nominates
    (shows_put old.nomination.board new.nomination.board (old.newest Nominating) (new.newest Nominating) h e.statement.node e.statement.pledges set.value hears.nominates.making.me hears.hears.statements hears.hears.sets puts (ap (λ (s : Statement). s.pledges) hears.enters.statement) hears.enters.with_set runs.nominations)
    (λ v. hears.enters.puts.other_kind Balloting (λ other. let t : Balloting ≡ Nominating = other ∙ same_kind in absurd cc) v)
running_kind Balloting combined e set old out new is runs undecided hears =
    let h = hears.enters.heard in
    let same_kind : kind_of_pledges h.statement.pledges ≡ Balloting = ap (λ (s : Statement). kind_of_pledges s.pledges) hears.enters.statement ∙ is in
    let puts : (v : NodeId) → new.newest Balloting v ≡ cond (is_at (node_cmp e.statement.node) v) (Some h) (old.newest Balloting v) =
    λ v. subst (λ (n : NodeId). new.newest Balloting v ≡ cond (is_at (node_cmp n) v) (Some h) (old.newest Balloting v)) (ap (λ (s : Statement). s.node) hears.enters.statement) (subst (λ (k : StatementKind). new.newest k v ≡ cond (is_at (node_cmp h.statement.node) v) (Some h) (old.newest k v)) same_kind (hears.enters.puts.its_kind v)) in
    running_balloted old out new runs undecided hears.machine hears.ballots hears.nomination
    (shows_put old.ballots.board new.ballots.board (old.newest Balloting) (new.newest Balloting) h e.statement.node e.statement.pledges set.value hears.ballots.advances.making.me hears.hears.statements hears.hears.sets puts (ap (λ (s : Statement). s.pledges) hears.enters.statement) hears.enters.with_set runs.statements)
    (λ v. hears.enters.puts.other_kind Nominating (λ other. let t : Nominating ≡ Balloting = other ∙ same_kind in absurd cc) v)

running_envelope : (level : List ℕ → Level) (combined : List (List ℕ) → List ℕ) (e : Enveloped) (set : SharedSet) (old : SlotView) (out : SlotOutput) (new : SlotView) → IsRunning old → old.decided ≡ false → TakesEnvelope level combined e set old out new → IsRunning new
running_envelope level combined e set old out new runs undecided takes = elim takes [
  | inl own ↦ running_rests _ old out new runs own.1
  | inr a ↦ elim a.1 [
    | inl bad ↦ running_rests _ old out new runs bad.1
    | inr b ↦ elim b.1 [
      | inl bad ↦ running_rests _ old out new runs bad.1
      | inr c ↦ elim c.1 [
        | inl stale ↦ running_rests _ old out new runs stale.1
        | inr d ↦ running_kind (kind_of_pledges e.statement.pledges) combined e set old out new refl runs undecided d.1
      ]
    ]
  ]
]

newest_kept : (old new : SlotView) (kind : StatementKind) → new.newest ≡ old.newest → (v : NodeId) → new.newest kind v ≡ old.newest kind v
newest_kept old new kind same v = ap (λ (n : StatementKind → NodeId → Option Heard). n kind v) same

shows_nominations : (old new : SlotView) → IsRunning old → new.nomination.board.me ≡ old.nomination.board.me → nominate.KeepsOthers old.nomination.board new.nomination.board → new.newest ≡ old.newest → Shows new.nomination.board (new.newest Nominating)
shows_nominations old new runs me others newest = subst (λ (n : StatementKind → NodeId → Option Heard). Shows new.nomination.board (n Nominating)) (sym newest) (shows_kept old.nomination.board new.nomination.board (old.newest Nominating) me others.statements others.sets runs.nominations)

running_proposed : (combined : List (List ℕ) → List ℕ) (value : List ℕ) (old : SlotView) (out : SlotOutput) (new : SlotView) → IsRunning old → old.decided ≡ false → Proposes combined value old out new → IsRunning new
running_proposed combined value old out new runs undecided p = running_nominated combined old out new runs undecided p.machine p.nominates (shows_nominations old new runs p.nominates.making.me p.others p.newest) (newest_kept old new Balloting p.newest)

running_round : (combined : List (List ℕ) → List ℕ) (old : SlotView) (out : SlotOutput) (new : SlotView) → IsRunning old → old.decided ≡ false → AddsRound combined old out new → IsRunning new
running_round combined old out new runs undecided p = running_nominated combined old out new runs undecided p.machine p.nominates (shows_nominations old new runs p.nominates.making.me p.others p.newest) (newest_kept old new Balloting p.newest)

running_timed : (old : SlotView) (out : SlotOutput) (new : SlotView) → IsRunning old → old.decided ≡ false → Times old out new → IsRunning new
running_timed old out new runs undecided t = running_balloted old out new runs undecided t.machine t.ballots t.nomination
    (subst (λ (n : StatementKind → NodeId → Option Heard). Shows new.ballots.board (n Balloting)) (sym t.newest) (shows_kept old.ballots.board new.ballots.board (old.newest Balloting) t.ballots.advances.making.me t.others.statements t.others.sets runs.statements))
    (newest_kept old new Nominating t.newest)

pub running_input : (level : List ℕ → Level) (combined : List (List ℕ) → List ℕ) (input : SlotInput) (old : SlotView) (out : SlotOutput) (new : SlotView) → IsRunning old → old.decided ≡ false → TakesInput level combined input old out new → IsRunning new
running_input level combined (Propose value) old out new runs undecided takes = elim takes [
  | inl bad ↦ running_rests _ old out new runs bad.1
  | inr a ↦ elim a.1 [ inl idle ↦ running_rests _ old out new runs idle.1 | inr b ↦ running_proposed combined value old out new runs undecided b.1 ]
]
running_input level combined Round old out new runs undecided takes = elim takes [ inl idle ↦ running_rests _ old out new runs idle.1 | inr a ↦ running_round combined old out new runs undecided a.1 ]
running_input level combined Timer old out new runs undecided takes = running_timed old out new runs undecided takes
running_input level combined (Envelope e set) old out new runs undecided takes = running_envelope level combined e set old out new runs undecided takes

-- nothing was said
nothing_on : (b : Seen) → ((v : NodeId) → b.statement v ≡ None) → (v : NodeId) (P : Pledges → Type 0) → IsSomeAnd (b.statement v) P → ⊥
nothing_on b none v P has = subst (λ (o : Option Pledges). IsSomeAnd o P) (none v) has

shows_nothing : (b : Seen) (n : NodeId → Option Heard) → ((v : NodeId) → b.statement v ≡ None) → ((v : NodeId) → b.counted v ≡ None) → ((v : NodeId) → n v ≡ None) → Shows b n
shows_nothing b n statements sets none = record {
  statements = λ v ne. statements v ∙ ap (λ o. option_map (λ (h : Heard). h.statement.pledges) o) (sym (none v));
  sets = λ v ne. sets v ∙ ap (λ o. option_map (λ (h : Heard). counted_of_other v h.statement.pledges h.set.value) o) (sym (none v));
}

owes_nothing : (hash : Hash) (b : Seen) → ((v : NodeId) → b.statement v ≡ None) → OwesNothing hash b
owes_nothing hash b none = subst (λ (o : Option Pledges). IsSettled b (own_or_nothing hash o)) (sym (none b.me)) (record {
  prepared = λ x c a. absurd (nothing_on b none c.node _ c.named);
  commit = λ v n c. absurd (nothing_on b none c.node _ c.bounds);
  confirmed = λ ne. absurd (ne refl);
  counter = λ some. absurd (none_not Ballot some);
})

pub begins_running : (node : NodeId) (number : ℕ) (set : QuorumTree) (v : SlotView) → Begins node number set v → IsRunning v
begins_running node number set v begins = record {
  nominating = begins.nomination.failed;
  balloting = begins.ballots.failed;
  me = begins.nomination.me ∙ sym begins.me;
  ballots_me = begins.ballots.me ∙ sym begins.me;
  slot = begins.nomination.slot ∙ sym begins.slot;
  ballots_slot = begins.ballots.slot ∙ sym begins.slot;
  local = begins.ballots.local ∙ sym begins.nomination.local;
  nominations = shows_nothing v.nomination.board (v.newest Nominating) begins.nomination.statements begins.nomination.sets (begins.newest Nominating);
  statements = shows_nothing v.ballots.board (v.newest Balloting) begins.ballots.statements begins.ballots.sets (begins.newest Balloting);
  decided = (λ e. let t : true ≡ false = sym e ∙ begins.decided in absurd cc, λ d. absurd (nothing_on v.ballots.board begins.ballots.statements v.ballots.board.me _ d));
  ballot = λ some. absurd (some (ap (λ (l : OwnLists). l.candidates) begins.nomination.lists));
  owed = λ more. owes_nothing v.ballots.hash v.ballots.board begins.ballots.statements;
}

-- a machine takes an input, and runs on
pub running_taken : (level : List ℕ → Level) (combined : List (List ℕ) → List ℕ) (input : SlotInput) (old : SlotView) (out : SlotOutput) (new : SlotView) → IsRunning old → old.decided ≡ false → TakesInput level combined input old out new → IsRunning new
running_taken level combined input old out new runs undecided takes = running_input level combined input old out new runs undecided takes

-- a decision comes exactly where the own statement becomes an EXTERNALIZE
decides_not : (old : SlotView) (out : SlotOutput) (new : SlotView) → new.ballots ≡ old.ballots → out.decided ≡ None → Decides old out new
decides_not old out new same none = record {
  exactly = (λ some. absurd (none_not Certified (subst (λ (o : Option Certified). IsSome o) none some)), λ p. absurd (p.0 (subst (λ (b : ballot.Ballots). IsDecided b) same p.1)));
  certified = subst (λ (o : Option Certified). ForSome o (λ d. ballot.IsCertified new.ballots d)) (sym none) (search rules);
}

decides_rests : (verdict : Verdict) (old : SlotView) (out : SlotOutput) (new : SlotView) → Rests verdict old out new → Decides old out new
decides_rests verdict old out new rests = decides_not old out new (ap (λ (v : SlotView). v.ballots) rests.same) (ap (λ (o : SlotOutput). o.decided) rests.quiet)

decides_moves : (old : SlotView) (out : SlotOutput) (new : SlotView) → Ballots old out new → Decides old out new
decides_moves old out new moves = record { exactly = moves.advances.decided; certified = moves.advances.certified }

decides_passed : (composite : Option (List ℕ)) (old : SlotView) (out : SlotOutput) (new : SlotView) → PassesOn composite old out new → Decides old out new
decides_passed None old out new passes = decides_not old out new passes.ballots passes.decided
decides_passed (Some v) old out new passes = decides_moves old out new passes.ballots

decides_kind : (kind : StatementKind) (combined : List (List ℕ) → List ℕ) (e : Enveloped) (set : SharedSet) (old : SlotView) (out : SlotOutput) (new : SlotView) → HearsKind kind combined e set old out new → Decides old out new
decides_kind Nominating combined e set old out new hears = decides_passed hears.nominates.composite old out new hears.nominates.passed
decides_kind Balloting combined e set old out new hears = decides_moves old out new hears.ballots

decides_envelope : (level : List ℕ → Level) (combined : List (List ℕ) → List ℕ) (e : Enveloped) (set : SharedSet) (old : SlotView) (out : SlotOutput) (new : SlotView) → TakesEnvelope level combined e set old out new → Decides old out new
decides_envelope level combined e set old out new takes = elim takes [
  | inl own ↦ decides_rests _ old out new own.1
  | inr a ↦ elim a.1 [
    | inl bad ↦ decides_rests _ old out new bad.1
    | inr b ↦ elim b.1 [
      | inl bad ↦ decides_rests _ old out new bad.1
      | inr c ↦ elim c.1 [ inl stale ↦ decides_rests _ old out new stale.1 | inr d ↦ decides_kind (kind_of_pledges e.statement.pledges) combined e set old out new d.1 ]
    ]
  ]
]

decides_input : (level : List ℕ → Level) (combined : List (List ℕ) → List ℕ) (input : SlotInput) (old : SlotView) (out : SlotOutput) (new : SlotView) → TakesInput level combined input old out new → Decides old out new
decides_input level combined (Propose value) old out new takes = elim takes [
  | inl bad ↦ decides_rests _ old out new bad.1
  | inr a ↦ elim a.1 [ inl idle ↦ decides_rests _ old out new idle.1 | inr b ↦ decides_passed b.1.nominates.composite old out new b.1.nominates.passed ]
]
decides_input level combined Round old out new takes = elim takes [ inl idle ↦ decides_rests _ old out new idle.1 | inr a ↦ decides_passed a.1.nominates.composite old out new a.1.nominates.passed ]
decides_input level combined Timer old out new takes = decides_moves old out new takes.ballots
decides_input level combined (Envelope e set) old out new takes = decides_envelope level combined e set old out new takes

pub decides_taken : (level : List ℕ → Level) (combined : List (List ℕ) → List ℕ) (input : SlotInput) (old : SlotView) (out : SlotOutput) (new : SlotView) → Takes level combined input old out new → Decides old out new
decides_taken level combined input old out new takes = elim takes [ inl late ↦ decides_rests _ old out new late.1 | inr on ↦ decides_input level combined input old out new on.1 ]
