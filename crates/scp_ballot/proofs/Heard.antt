-- A machine that heard another node is still at rest.
use Rattle.std.proofs.Common.{◌≡◌, ◌≢◌, Bool, true, false, cond, Option, Some, None, IfSome, refl, sym, ◌∙◌, ap, subst, ◌⊎◌, inl, inr}
use Rattle.std.specs.Option.{option_map}
use Rattle.std.specs.BTreeMap.{is_at}
use Rattle.scp_ballot_rules.specs.scp_types.specs.declared.names.NodeId.{NodeId}
use Rattle.scp_ballot_rules.specs.scp_quorum.specs.NodeSet.{node_cmp}
use Rattle.scp_ballot_rules.specs.scp_quorum.specs.QuorumTree.{QuorumTree}
use Rattle.scp_ballot_rules.specs.scp_envelope.specs.declared.statement.Pledges.{Pledges}
use Rattle.scp_ballot_rules.specs.scp_envelope.specs.declared.statement.Envelope.{Envelope}
use Rattle.scp_ballot_rules.specs.scp_vote.specs.Board.{Seen, PutsCounted, KeepsOwn}
use Rattle.scp_ballot_rules.specs.scp_vote.specs.declared.board.Board.{Board}
use Rattle.scp_ballot_rules.specs.scp_vote.proofs.Chain.{same_at}
use Rattle.scp_ballot_rules.specs.declared.state.State.{State}
use Rattle.scp_ballot_rules.specs.Own.{StandsFor}
use Rattle.scp_ballot_rules.specs.Ready.{IsReady}
use Rattle.scp_ballot_rules.specs.inside.Rules.{IsChange}
use Rattle.scp_ballot.specs.declared.machine.Machine.{Machine}
use Rattle.scp_ballot_rules.specs.Told.{ballots_on}
use Rattle.scp_ballot.specs.inside.Machine.{own_at, KeepsRest, IsAtRest}
use Rattle.scp_ballot.specs.inside.Inputs.{HearsOne, Times}

decided : (b : Bool) → (b ≡ true) ⊎ (b ≡ false)
decided true = inl refl
decided false = inr refl

pub apart : (v w : NodeId) → v ≢ w → is_at (node_cmp v) w ≡ false
apart v w differ = elim (decided (is_at (node_cmp v) w)) [ inl here ↦ absurd (differ (same_at v w here)) | inr e ↦ e ]

module _ (old new : Seen) (node : NodeId) (p : Pledges) (set : QuorumTree) (put : PutsCounted old new node p set) (other : node ≢ old.me) where
  pub same_own : new.statement new.me ≡ old.statement old.me
  same_own = ap new.statement put.puts.me ∙ put.puts.statements old.me ∙ ap (λ t. cond t (Some p) (old.statement old.me)) (apart node old.me other)

  same_set : new.counted new.me ≡ old.counted old.me
  same_set = ap new.counted put.puts.me ∙ put.puts.sets old.me ∙ ap (λ t. cond t (Some put.set) (old.counted old.me)) (apart node old.me other)

  pub keeps_put : KeepsOwn old → KeepsOwn new
  keeps_put keeps = same_set ∙ keeps ∙ ap (λ (l : QuorumTree). option_map (λ _. l) (old.statement old.me)) (sym put.puts.local) ∙ ap (option_map (λ _. new.local)) (sym same_own)

-- the state is as it was, on a board with the same own statement
rests_on : (old new : Machine) → KeepsRest old new → new.state ≡ old.state → (ballots_on new.board).me ≡ (ballots_on old.board).me → own_at new ≡ own_at old → KeepsOwn (ballots_on new.board) → IsAtRest old → IsAtRest new
rests_on old new kept state me own keeps rest = record {
  keeps = keeps;
  stands = subst (λ s. StandsFor (own_at new) new.hash s) (sym state) (subst (λ h. StandsFor (own_at new) h old.state) (sym kept.hash) (subst (λ o. StandsFor o old.hash old.state) (sym own) rest.stands));
  ready = subst (λ s. IsReady s) (sym state) rest.ready;
  emitted = λ s e. let was = rest.emitted s (sym kept.emitted ∙ e) in (was.0 ∙ sym me, was.1 ∙ sym kept.slot);
}

pub heard_rests : (old new : Machine) (e : Envelope) (set : QuorumTree) → HearsOne old new e set → IsAtRest old → IsAtRest new
heard_rests old new e set h rest = elim h.board [
  | inl (heard, put) ↦
      rests_on old new h.rest h.state put.puts.me (same_own (ballots_on old.board) (ballots_on new.board) e.statement.node e.statement.pledges set put heard.0)
      (keeps_put (ballots_on old.board) (ballots_on new.board) e.statement.node e.statement.pledges set put heard.0 rest.keeps) rest
  | inr (unheard, same) ↦
      rests_on old new h.rest h.state (ap (λ (b : Board). (ballots_on b).me) same) (ap (λ (b : Board). (ballots_on b).statement (ballots_on b).me) same) (subst (λ (b : Board). KeepsOwn (ballots_on b)) (sym same) rest.keeps) rest
]

pub own_heard : (old new : Machine) (e : Envelope) (set : QuorumTree) → HearsOne old new e set → own_at new ≡ own_at old
own_heard old new e set h = elim h.board [
  | inl (heard, put) ↦ same_own (ballots_on old.board) (ballots_on new.board) e.statement.node e.statement.pledges set put heard.0
  | inr (unheard, same) ↦ ap (λ (b : Board). (ballots_on b).statement (ballots_on b).me) same
]

-- the inputs' changes
pub times_change : (b : Seen) (s next : State) → Times s next → IsChange b s next
times_change b s next (inl (phase, step), up) = inr (inr (phase, step))
times_change b s next (inr (phase, step), up) = inl (inr (phase, inr (inr (inr step))))

pub all_change : (P Q : State → Type 0) (o : Option State) → ((s : State) → P s → Q s) → IfSome o P → IfSome o Q
all_change P Q None f h = h
all_change P Q (Some s) f h = f s h
