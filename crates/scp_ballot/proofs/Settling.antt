-- The machine settles: each rule gives one link of the chain, and the state stays ready.
use Rattle.std.proofs.Common.{◌≡◌, ◌≢◌, ◌≤◌, ℕ, List, Option, Some, None, IsSomeAnd, refl, sym, ◌∙◌, ap, subst, inl, inr, arith}
use Rattle.scp_ballot_rules.specs.scp_types.specs.declared.names.Hash.{Hash}
use Rattle.scp_ballot_rules.specs.scp_vote.specs.declared.claim.Claim.TheVariants.{Committed}
use Rattle.scp_ballot_rules.specs.scp_vote.specs.declared.claim.Support.TheVariants.{Accepts}
use Rattle.scp_ballot_rules.specs.scp_vote.specs.Claims.{Stands}
use Rattle.scp_ballot_rules.specs.scp_vote.specs.Board.{Seen, Puts, Confirmed, KeepsOwn}
use Rattle.scp_ballot_rules.specs.scp_vote.specs.Licence.{Follows}
use Rattle.scp_ballot_rules.specs.scp_vote.proofs.Chain.{chain_start, chain_more, own_new}
use Rattle.scp_ballot_rules.specs.scp_vote.specs.inside.Chain.{IsChain}
use Rattle.scp_ballot_rules.specs.scp_envelope.specs.declared.statement.Pledges.{Pledges}
use Rattle.scp_ballot_rules.specs.declared.state.State.{State}
use Rattle.scp_ballot_rules.specs.declared.state.Phase.{Phase}
use Rattle.scp_ballot_rules.specs.declared.state.Phase.TheVariants.{Prepare, Confirm, Externalize}
use Rattle.scp_ballot_rules.specs.Own.{own_of, own_in, or_zero, counter_of, StandsFor}
use Rattle.scp_ballot_rules.specs.Ready.{IsPreparing, IsReadyIn, IsReady}
use Rattle.scp_ballot_rules.specs.inside.Rises.{Rises, Moves, or_state}
use Rattle.scp_ballot_rules.specs.Owed.{AreAheadOf}
use Rattle.scp_ballot_rules.specs.Rules.{ConfirmsCommit}
use Rattle.scp_ballot_rules.specs.inside.Rules.{IsStep, IsChange}
use Rattle.scp_ballot_rules.proofs.Options.{some_of}
use Rattle.scp_ballot_rules.proofs.Rising.{rises_trans, rises_itself, step_rises}
use Rattle.scp_ballot_rules.proofs.Raising.{composing_keeps}
use Rattle.scp_ballot_rules.proofs.Following.{composing_follows}
use Rattle.scp_ballot_rules.proofs.FollowingMore.{step_keeps, raised_link}
use Rattle.scp_ballot_rules.proofs.Moving.{ahead_same, step_composite, moves_itself, moves_more}
use Rattle.scp_ballot_rules.proofs.Certifying.{confirmed_stays}
use Rattle.scp_ballot.specs.declared.machine.Machine.{Machine}
use Rattle.scp_ballot_rules.specs.Told.{ballots_on}
use Rattle.scp_ballot.proofs.Others.{keeps_others}
use Rattle.scp_ballot.specs.inside.Machine.{own_at, Renews, IsConfirmedAt, IsAtRest, IsSettled}

-- a rule or a composite keeps the state ready, and gives one link
change_keeps : (b : Seen) (hash : Hash) (old next : State) → StandsFor (b.statement b.me) hash old → IsReady old → IsChange b old next → IsReady next × Follows b (b.statement b.me) (own_of hash next)
change_keeps b hash old next stands ready (inl step) = step_keeps b hash (b.statement b.me) old next refl stands ready step
change_keeps b hash old next stands ready (inr (inr (phase, step))) = raised_link b hash (b.statement b.me) old next refl stands (subst (λ ph. IsReadyIn ph old) phase ready) phase step
change_keeps b hash old next stands ready (inr (inl (phase, z, step))) =
    let r : IsPreparing old = subst (λ ph. IsReadyIn ph old) phase ready in
    (subst (λ ph. IsReadyIn ph next) (sym (ap (λ (s : State). s.phase) step.frame ∙ phase)) (composing_keeps z old next r step), composing_follows b hash (b.statement b.me) old next refl r phase stands z step)

-- the own EXTERNALIZE accepts its commit at the high end, where it is put in this node's place
externalized_at : (b new : Seen) (hash : Hash) (old next : State) → KeepsOwn b → Puts b new b.me (own_of hash next) b.local → ConfirmsCommit b old next → IsConfirmedAt new next
externalized_at b new hash old next keeps puts step phase =
    let c = some_of (λ c. IsSomeAnd next.high (λ h. (c.counter ≢ 0) × (c.value ≡ h.value) × (c.counter ≤ h.counter) × Confirmed b (Committed c.counter h.counter h.value))) next.low step.range in
    let h = some_of (λ h. (c.0.counter ≢ 0) × (c.0.value ≡ h.value) × (c.0.counter ≤ h.counter) × Confirmed b (Committed c.0.counter h.counter h.value)) next.high c.2 in
    let value : h.0.value ≡ (or_zero next.low).value = sym h.2.1 ∙ ap (λ o. (or_zero o).value) (sym c.1) in
    let low : c.0.counter ≡ (or_zero next.low).counter = ap (λ o. (or_zero o).counter) (sym c.1) in
    let high : h.0.counter ≡ counter_of next.high = ap counter_of (sym h.1) in
    let le : c.0.counter ≤ h.0.counter = h.2.2 in
    let mine : Stands Accepts (Committed h.0.counter h.0.counter h.0.value) (own_in Externalize hash next) = λ n from to. (value, omega (arith, le, low, from)) in
    let stays = confirmed_stays b new (own_in Externalize hash next) c.0.counter h.0.counter h.0.value keeps (subst (λ ph. Puts b new b.me (own_in ph hash next) b.local) phase puts) le mine h.2.3 in
    subst (λ (n : ℕ). Confirmed new (Committed n n (or_zero next.low).value)) high (subst (λ (v : List ℕ). Confirmed new (Committed h.0.counter h.0.counter v)) value stays)

phases_apart : (p : Phase) → p ≡ Prepare → p ≡ Externalize → ⊥
phases_apart p e f = let k : Prepare ≡ Externalize = sym e ∙ f in cc

phases_part : (p : Phase) → p ≡ Confirm → p ≡ Externalize → ⊥
phases_part p e f = let k : Confirm ≡ Externalize = sym e ∙ f in cc

-- nothing changes what is externalized
step_open : (b : Seen) (old next : State) → IsStep b old next → old.phase ≡ Externalize → ⊥
step_open b old next (inl (phase, step)) e = phases_apart old.phase phase e
step_open b old next (inr (phase, step)) e = phases_part old.phase phase e

change_open : (b : Seen) (old next : State) → IsChange b old next → old.phase ≡ Externalize → ⊥
change_open b old next (inl step) e = step_open b old next step e
change_open b old next (inr (inl (phase, z, step))) e = phases_apart old.phase phase e
change_open b old next (inr (inr (phase, step))) e = phases_apart old.phase phase e

-- only the fourth rule externalizes
change_confirmed : (b new : Seen) (hash : Hash) (old next : State) → KeepsOwn b → Puts b new b.me (own_of hash next) b.local → IsChange b old next → IsConfirmedAt new next
change_confirmed b new hash old next keeps puts (inl (inl (phase, inl step))) e = absurd (phases_apart next.phase (ap (λ (s : State). s.phase) step.frame ∙ phase) e)
change_confirmed b new hash old next keeps puts (inl (inl (phase, inr (inl step)))) e = absurd (phases_apart next.phase (ap (λ (s : State). s.phase) step.frame ∙ phase) e)
change_confirmed b new hash old next keeps puts (inl (inl (phase, inr (inr (inl step))))) e = absurd (phases_part next.phase step.phase e)
change_confirmed b new hash old next keeps puts (inl (inl (phase, inr (inr (inr step))))) e = absurd (phases_apart next.phase (ap (λ (s : State). s.phase) step.raises.frame ∙ phase) e)
change_confirmed b new hash old next keeps puts (inl (inr (phase, inl step))) e = absurd (phases_part next.phase (ap (λ (s : State). s.phase) step.frame ∙ phase) e)
change_confirmed b new hash old next keeps puts (inl (inr (phase, inr (inl step)))) e = absurd (phases_part next.phase step.0.phase e)
change_confirmed b new hash old next keeps puts (inl (inr (phase, inr (inr (inl step))))) e = externalized_at b new hash old next keeps puts step e
change_confirmed b new hash old next keeps puts (inl (inr (phase, inr (inr (inr step))))) e = absurd (phases_part next.phase (ap (λ (s : State). s.phase) step.frame ∙ phase) e)
change_confirmed b new hash old next keeps puts (inr (inl (phase, z, step))) e = absurd (phases_apart next.phase (ap (λ (s : State). s.phase) step.frame ∙ phase) e)
change_confirmed b new hash old next keeps puts (inr (inr (phase, step))) e = absurd (phases_apart next.phase (ap (λ (s : State). s.phase) step.frame ∙ phase) e)

-- the others were ahead before, too
ahead_before : (first now : Machine) (own : Option Pledges) → IsChain (ballots_on first.board) own (ballots_on now.board) → (n : ℕ) → AreAheadOf (ballots_on now.board) n → AreAheadOf (ballots_on first.board) n
ahead_before first now own chain n ahead =
    ahead_same (ballots_on first.board) (ballots_on now.board) n chain.board.me chain.board.local (keeps_others (ballots_on first.board) (ballots_on now.board) (own_at now) chain.board).statements ahead

module _ (first : Machine) (input : Option State) where
  pub settled_renews : (now new : Machine) (next : State) → IsSettled first input now → IsStep (ballots_on now.board) now.state next → Renews now new next → IsSettled first input new
  settled_renews now new next s step renews =
      let b = ballots_on now.board in
      let kept = change_keeps b now.hash now.state next s.stands s.ready (inl step) in
      let P : State → Type 0 = λ x. StandsFor (own_at new) new.hash x in
      let stands : StandsFor (own_at new) now.hash next = inl (own_new (ballots_on first.board) (own_at first) b (ballots_on new.board) (own_of now.hash next) s.chain renews.board) in
      record {
        rest = record { slot = renews.rest.slot ∙ s.rest.slot; hash = renews.rest.hash ∙ s.rest.hash; emitted = renews.rest.emitted ∙ s.rest.emitted };
        chain = chain_more (ballots_on first.board) (own_at first) b (ballots_on new.board) (own_of now.hash next) s.chain renews.board kept.1;
        stands = subst P (sym renews.state) (subst (λ h. StandsFor (own_at new) h next) (sym renews.rest.hash) stands);
        ready = subst (λ x. IsReady x) (sym renews.state) kept.0;
        rises = subst (λ x. Rises (or_state input first.state) x) (sym renews.state) (rises_trans (or_state input first.state) now.state next s.rises (step_rises b now.state next step));
        composite = ap (λ (x : State). x.composite) renews.state ∙ step_composite b now.state next step ∙ s.composite;
        moves = subst (λ x. Moves (ballots_on first.board) (or_state input first.state) x) (sym renews.state)
            (moves_more (ballots_on first.board) b (or_state input first.state) now.state next (ahead_before first now (own_at first) s.chain) s.moves s.ready step);
        confirmed = λ before. subst (λ x. IsConfirmedAt (ballots_on new.board) x) (sym renews.state) (change_confirmed b (ballots_on new.board) now.hash now.state next s.chain.keeps renews.board (inl step));
        ended = λ e. absurd (step_open b now.state next step (ap (λ (m : Machine). m.state.phase) (s.ended e) ∙ e));
      }

pub settled_start : (m : Machine) (input : Option State) → input ≡ None → IsAtRest m → IsSettled m input m
settled_start m input none rest = record {
  rest = record { slot = refl; hash = refl; emitted = refl };
  chain = chain_start (ballots_on m.board) rest.keeps;
  stands = rest.stands;
  ready = rest.ready;
  rises = subst (λ o. Rises (or_state o m.state) m.state) (sym none) (rises_itself m.state);
  composite = ap (λ o. (or_state o m.state).composite) (sym none);
  moves = subst (λ o. Moves (ballots_on m.board) (or_state o m.state) m.state) (sym none) (moves_itself (ballots_on m.board) m.state);
  confirmed = λ before e. absurd (before e);
  ended = λ e. refl;
}

-- the first change, with which settling begins
pub settled_first : (m new : Machine) (input : Option State) (next : State) → input ≡ Some next → IsAtRest m → IsChange (ballots_on m.board) m.state next → Renews m new next → IsSettled m input new
settled_first m new input next is rest change renews =
    let b = ballots_on m.board in
    let kept = change_keeps b m.hash m.state next rest.stands rest.ready change in
    let stands : StandsFor (own_at new) m.hash next = inl (own_new b (own_at m) b (ballots_on new.board) (own_of m.hash next) (chain_start b rest.keeps) renews.board) in
    record {
      rest = renews.rest;
      chain = chain_more b (own_at m) b (ballots_on new.board) (own_of m.hash next) (chain_start b rest.keeps) renews.board kept.1;
      stands = subst (λ x. StandsFor (own_at new) new.hash x) (sym renews.state) (subst (λ h. StandsFor (own_at new) h next) (sym renews.rest.hash) stands);
      ready = subst (λ x. IsReady x) (sym renews.state) kept.0;
      rises = subst (λ o. Rises (or_state o m.state) new.state) (sym is) (subst (λ x. Rises next x) (sym renews.state) (rises_itself next));
      composite = ap (λ (x : State). x.composite) renews.state ∙ ap (λ o. (or_state o m.state).composite) (sym is);
      moves = subst (λ o. Moves b (or_state o m.state) new.state) (sym is) (subst (λ x. Moves b next x) (sym renews.state) (moves_itself b next));
      confirmed = λ before. subst (λ x. IsConfirmedAt (ballots_on new.board) x) (sym renews.state) (change_confirmed b (ballots_on new.board) m.hash m.state next rest.keeps renews.board change);
      ended = λ e. absurd (change_open b m.state next change e);
    }
