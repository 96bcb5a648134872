-- The laws of the ballot protocol.
use Rattle.std.proofs.Common.{◌≡◌, ◌≢◌, ◌+◌, ℕ, List, Option, Some, None, refl, sym, ◌∙◌, ap, subst, inl, inr}
use Rattle.scp_vote.specs.scp_types.specs.declared.ballot.Ballot.{Ballot}
use Rattle.scp_ballot_rules.specs.declared.state.State.{State}
use Rattle.scp_ballot_rules.specs.declared.state.Phase.TheVariants.{Prepare, Confirm, Externalize}
use Rattle.scp_ballot_rules.specs.Greatest.{ballot_at}
use Rattle.scp_ballot_rules.specs.Own.{counter_of}
use Rattle.scp_ballot_rules.specs.Steps.{renewed, Settles}
use Rattle.scp_ballot_rules.specs.Inputs.{Composed}
use Rattle.scp_ballot_rules.specs.Laws.{StepIsAFunction, SettlingIsAFunction, ComposingIsAFunction, TimingIsAFunction, InputIsAFunction, StepIsLicensed, RestOwesNothing}
use Rattle.scp_ballot_rules.proofs.Exacts.{where_one, raise_to_one, step_one, settles_one}
use Rattle.scp_ballot_rules.proofs.FollowingMore.{step_keeps}
use Rattle.scp_ballot_rules.proofs.Owing.{owes_nothing}
use Rattle.scp_ballot_rules.proofs.Licensing.{is_step}
use Rattle.scp_ballot_rules.proofs.Resting.{step_rests}

pub step_function : StepIsAFunction
step_function b s t u h k = step_one b s t u h k

pub settling_function : SettlingIsAFunction
settling_function n hash b s c d t u more other h k = settles_one n hash b s c d t u more other h k

composed_one : (z : List ℕ) (s t u : State) → Composed z s t → Composed z s u → t ≡ u
composed_one z s t u h k = h.frame ∙ ap (λ (o : Option Ballot). let r : State = record s { present = o; composite = Some z } in r) (where_one (s.present ≡ None) (Some (ballot_at 1 z)) s.present t.present u.present h.present k.present) ∙ sym k.frame

pub composing_function : ComposingIsAFunction
composing_function Prepare z s t u h k = composed_one z s t u h k
composing_function Confirm z s t u h k = h ∙ sym k
composing_function Externalize z s t u h k = h ∙ sym k

pub timing_function : TimingIsAFunction
timing_function s t u (inl h) (inl k) = h.1 ∙ sym k.1
timing_function s t u (inl h) (inr k) = absurd (k.0 h.0)
timing_function s t u (inr h) (inl k) = absurd (h.0 k.0)
timing_function s t u (inr h) (inr k) = raise_to_one (counter_of s.present + 1) s t u h.1 k.1

pub input_function : InputIsAFunction
input_function hash b s mid c d t u more other h k =
    let start : h.start ≡ k.start = where_one (mid ≢ s) (renewed hash b mid) b h.start k.start h.renews k.renews in
    settles_one 64 hash k.start mid c d t u more other (subst (λ x. Settles 64 hash x mid c t more) start h.settles) k.settles

pub step_licensed : StepIsLicensed
step_licensed b hash s t stands ready step differs = step_keeps b hash (b.statement b.me) s t refl stands ready (is_step b s t differs ready step)

pub rest_owes : RestOwesNothing
rest_owes b hash s stands ready step = owes_nothing b hash s stands ready (step_rests b s ready step)
