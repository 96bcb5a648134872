-- A slot's machine that decides emits its EXTERNALIZE.
use Rattle.std.proofs.Common.{◌≡◌, ◌≢◌, List, ℕ, sym, ap, subst, inl, inr}
use Rattle.std.specs.Prelude.{Option, Some, None, IsSomeAnd}
use Rattle.std.specs.Option.{ForSome}
use Rattle.scp_core.specs.scp_types.specs.declared.names.Hash.{Hash}
use Rattle.scp_core.specs.scp_quorum.specs.SharedSet.{SharedSet}
use Rattle.scp_core.specs.scp_envelope.specs.Newer.{ArePledgesNewer}
use Rattle.scp_core.specs.scp_envelope.specs.declared.statement.Envelope.{Envelope as Enveloped}
use Rattle.scp_core.specs.scp_envelope.specs.declared.statement.Pledges.{Pledges}
use Rattle.scp_core.specs.scp_envelope.specs.declared.statement.Pledges.TheVariants.{Prepare, Confirm, Externalize, Nominate}
use Rattle.scp_core.specs.scp_driver.specs.declared.driver.Level.{Level}
use Rattle.scp_core.specs.scp_vote.specs.declared.claim.StatementKind.{StatementKind}
use Rattle.scp_core.specs.scp_vote.specs.declared.claim.StatementKind.TheVariants.{Nomination as Nominating, Balloting}
use Rattle.scp_core.specs.scp_vote.specs.Board.{Seen}
use Rattle.scp_core.specs.scp_vote.specs.Licence.{IsExternalize}
use Rattle.scp_core.specs.scp_ballot_rules.specs.declared.state.State.{State}
use Rattle.scp_core.specs.scp_ballot_rules.specs.declared.state.Phase.{Phase}
use Rattle.scp_core.specs.scp_ballot_rules.specs.declared.state.Phase.TheVariants as phase
use Rattle.scp_core.specs.scp_ballot_rules.specs.Own.{own_of, own_in, StandsFor}
use Rattle.scp_core.specs.scp_ballot.specs.declared.balloted.Balloted.{Balloted}
use Rattle.scp_core.specs.scp_ballot.specs.declared.balloted.Certified.{Certified}
use Rattle.scp_core.specs.scp_ballot.specs.Balloting as ballot
use Rattle.scp_core.specs.scp_ballot.specs.Balloting.{Ballots, own}
use Rattle.scp_core.specs.scp_ballot.specs.Outcome.{IsToEmit, ComesOut}
use Rattle.scp_core.specs.scp_slot.specs.declared.output.SlotInput.{SlotInput}
use Rattle.scp_core.specs.scp_slot.specs.declared.output.SlotOutput.{SlotOutput}
use Rattle.scp_core.specs.scp_slot.specs.declared.output.Verdict.{Verdict}
use Rattle.scp_core.specs.scp_slot.specs.Slot.{SlotView}
use Rattle.scp_core.specs.scp_slot.specs.Takes as slot
use Rattle.scp_core.specs.scp_theorem.proofs.Basics.{some_there, none_some}
use Rattle.scp_core.specs.scp_theorem.proofs.Emitted.{whatever_input}
use Rattle.scp_again.proofs.Current.{IsOpenBallot}

-- the EXTERNALIZE that is emitted
abbrev pub Ends : Option Enveloped → Type 0
Ends found = (e : Enveloped) × (found ≡ Some e) × IsExternalize e.statement.pledges

-- it is newer than a PREPARE and a CONFIRM
newer_than : (p q : Pledges) → IsOpenBallot p → IsExternalize q → ArePledgesNewer p q
newer_than p (Prepare q) h k = absurd k
newer_than p (Confirm q) h k = absurd k
newer_than p (Nominate q) h k = absurd k
newer_than (Prepare p) (Externalize q) h k = tt
newer_than (Confirm p) (Externalize q) h k = tt
newer_than (Externalize p) (Externalize q) h k = absurd h
newer_than (Nominate p) (Externalize q) h k = absurd h

past_prepare : (ph : Phase) (hash : Hash) (s : State) → IsExternalize (own_in ph hash s) → ph ≢ phase.Prepare
past_prepare phase.Prepare hash s x = absurd x
past_prepare phase.Confirm hash s x = absurd x
past_prepare phase.Externalize hash s x = λ e. cc

-- ---- the ballots

module _ (old new : Ballots) (given : Balloted) (before : ForSome old.emitted IsOpenBallot) (ended : ballot.IsDecided new) where
  -- the own statement of the state is the EXTERNALIZE
  own_ends : StandsFor (own new) new.hash new.state → IsExternalize (own_of new.hash new.state)
  own_ends h = elim h [
    | inl is ↦ subst (λ (o : Option Pledges). IsSomeAnd o IsExternalize) is ended
    | inr w ↦ absurd (subst (λ (o : Option Pledges). IsSomeAnd o IsExternalize) w.0 ended)
  ]

  pub comes_to_end : (makes : State → State → Type 0) (board : Seen) → ComesOut makes board old new given → Ends given.statement
  comes_to_end makes board c =
      let ends : IsExternalize (own_of new.hash new.state) = own_ends c.stands in
      let due : IsToEmit old.emitted new = (inr (past_prepare new.state.phase new.hash new.state ends), λ p there. newer_than p (own_of new.hash new.state) (before p there) ends) in
      let e = some_there given.statement (c.emitted.1 due) in
      (e.0, e.1, subst IsExternalize (sym (c.statement e.0 e.1)) ends)

-- ---- a machine

module _ (old : SlotView) (out : SlotOutput) (new : SlotView) (before : ForSome old.ballots.emitted IsOpenBallot) (c : Certified) (decides : out.decided ≡ Some c) (ended : ballot.IsDecided new.ballots) where
  comes : (makes : State → State → Type 0) (board : Seen) → ComesOut makes board old.ballots new.ballots (slot.ballots_given out) → Ends out.emitted.ballot
  comes makes board h = comes_to_end old.ballots new.ballots (slot.ballots_given out) before ended makes board h

  rests : (verdict : Verdict) → slot.Rests verdict old out new → Ends out.emitted.ballot
  rests verdict r = none_some out.decided c (ap (λ (o : SlotOutput). o.decided) r.quiet) decides

  passes : (composite : Option (List ℕ)) → slot.PassesOn composite old out new → Ends out.emitted.ballot
  passes None p = none_some out.decided c p.decided decides
  passes (Some composite) p = comes _ _ p.exact

  hears : (kind : StatementKind) (combined : List (List ℕ) → List ℕ) (e : Enveloped) (set : SharedSet) → slot.HearsKind kind combined e set old out new → Ends out.emitted.ballot
  hears Nominating combined e set h = passes h.nominates.composite h.nominates.passed
  hears Balloting combined e set h = comes _ h.exact.board h.exact.comes

  -- whatever the input is
  pub ends : (level : List ℕ → Level) (combined : List (List ℕ) → List ℕ) (input : SlotInput) → slot.Takes level combined input old out new → Ends out.emitted.ballot
  ends level combined input t =
      whatever_input (Ends out.emitted.ballot) level combined old out new rests (λ (n : slot.Nominates combined old out new). passes n.composite n.passed) (λ (u : slot.Times old out new). comes _ _ u.exact)
      (λ kind e set h. hears kind combined e set h) input t
