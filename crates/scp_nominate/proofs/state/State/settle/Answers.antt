use Rattle.std.proofs.Common.{◌≡◌, ◌∙◌, ℕ, List, ap, inl, sym, subst, Contains, rules}
use Rattle.scp_driver.specs.Driver.{IsFull}
use Rattle.scp_nominate.specs.Heard.{heard}
use Rattle.scp_vote.specs.Board.{Seen}
use Rattle.scp_nominate.specs.declared.lists.Lists.{Lists}
use Rattle.scp_nominate.specs.inside.Own.{size}
use Rattle.scp_nominate.specs.Owed.{MayVote, VotesFor}
use Rattle.scp_nominate.specs.Steps.{own_lists}
use Rattle.scp_nominate.proofs.Suggesting.{may_stays, votes_weaker, votes_then}
use Rattle.scp_nominate.proofs.Passing.{size_bounded, pass_keeps, unchanged}
use Rattle.scp_nominate.proofs.Settling.{settling_start, settling_rests, settling_renewed, falls}
use Rattle.scp_nominate.specs.Repeating.{Rule, renewed}
use Rattle.scp_nominate.proofs.Repeated.{round_first, round_more, round_ends, puts_renewed, says_same, says_other}
use Rattle.scp_nominate.proofs.state.State.settle.Goals as goal

pub loop-self-init : goal.loop-self-init
loop-self-init g c = record { settling = settling_start (IsFull (g.D.Driver.says.level c.args.guide.now.driver) c.args.guide.now.slot.0) c.args.self.now c.requires.rest; votes = λ v has. inl has; exact = round_first (record { full = IsFull (g.D.Driver.says.level c.args.guide.now.driver) c.args.guide.now.slot.0; extracted = g.D.Driver.says.extracted c.args.guide.now.driver c.args.guide.now.slot.0; leads = λ node. Contains c.args.guide.now.leaders.items node; proposal = c.args.guide.now.proposal }) c.args.self.now.hash (heard c.args.self.now.board) (own_lists c.args.self.now.lists) }

pub size-before-requires : goal.size-before-requires
size-before-requires g c = record { few = size_bounded (IsFull (g.D.Driver.says.level c.args.guide.now.driver) c.args.guide.now.slot.0) c.loop-self.self.lists c.loop-self.invariant.settling.ready }

pub pass-requires : goal.pass-requires
pass-requires g c = record { known = c.loop-self.invariant.settling.known; ascending = c.requires.ascending }

pub size-requires : goal.size-requires
size-requires g c = record { few = size_bounded (IsFull (g.D.Driver.says.level c.args.guide.now.driver) c.args.guide.now.slot.0) c.pass.new.lists (pass_keeps (IsFull (g.D.Driver.says.level c.args.guide.now.driver) c.args.guide.now.slot.0) (heard c.loop-self.self.board) c.loop-self.self.lists c.pass.new.lists c.loop-self.invariant.settling.ready c.in_ok-pass.ensures.passes) }

pub returns-then-size-before-clause-settled : goal.returns-then-size-before-clause-settled
returns-then-size-before-clause-settled g c =
    let same : size c.pass.new.lists ≡ size c.loop-self.self.lists = search rules in
    settling_rests (IsFull (g.D.Driver.says.level c.args.guide.now.driver) c.args.guide.now.slot.0) c.args.self.now c.loop-self.self c.loop-self.renewed c.pass.new.lists c.loop-self.invariant.settling c.in_ok-pass.ensures.passes same

pub loop-self-smaller : goal.loop-self-smaller
loop-self-smaller g c =
    let differ : size c.pass.new.lists ≡ size c.loop-self.self.lists → ⊥ = λ e. (search rules) in
    falls (IsFull (g.D.Driver.says.level c.args.guide.now.driver) c.args.guide.now.slot.0) (heard c.loop-self.self.board) c.loop-self.self.lists c.pass.new.lists c.renew.new.self.lists c.loop-self.invariant.settling.ready c.in_ok-pass.ensures.passes differ c.in_ok-renew.ensures.renews.lists

pub returns-then-size-before-clause-votes : goal.returns-then-size-before-clause-votes
returns-then-size-before-clause-votes g c = votes_then
    (MayVote (IsFull (g.D.Driver.says.level c.args.guide.now.driver) c.args.guide.now.slot.0) (g.D.Driver.says.extracted c.args.guide.now.driver c.args.guide.now.slot.0) (λ node. Contains c.args.guide.now.leaders.items node) c.args.guide.now.proposal (heard c.loop-self.self.board))
    c.args.self.now.lists
    c.loop-self.self.lists
    c.pass.new.lists
    c.loop-self.invariant.settling.candidates
    c.in_ok-pass.ensures.passes.accepted
    c.loop-self.invariant.votes
    c.in_ok-pass.ensures.votes

pub loop-self-preserved : goal.loop-self-preserved
loop-self-preserved g c =
    let differ : size c.pass.new.lists ≡ size c.loop-self.self.lists → ⊥ = λ e. (search rules) in
    let may : Seen → List ℕ → Type 0 = MayVote (IsFull (g.D.Driver.says.level c.args.guide.now.driver) c.args.guide.now.slot.0) (g.D.Driver.says.extracted c.args.guide.now.driver c.args.guide.now.slot.0) (λ node. Contains c.args.guide.now.leaders.items node) c.args.guide.now.proposal in
    let rule : Rule = (record { full = IsFull (g.D.Driver.says.level c.args.guide.now.driver) c.args.guide.now.slot.0; extracted = g.D.Driver.says.extracted c.args.guide.now.driver c.args.guide.now.slot.0; leads = λ node. Contains c.args.guide.now.leaders.items node; proposal = c.args.guide.now.proposal }) in
    let passed : VotesFor (may (heard c.loop-self.self.board)) (own_lists c.args.self.now.lists) (own_lists c.pass.new.lists) =
    votes_then (may (heard c.loop-self.self.board)) c.args.self.now.lists c.loop-self.self.lists c.pass.new.lists c.loop-self.invariant.settling.candidates c.in_ok-pass.ensures.passes.accepted c.loop-self.invariant.votes c.in_ok-pass.ensures.votes in
    record {
      settling = settling_renewed (IsFull (g.D.Driver.says.level c.args.guide.now.driver) c.args.guide.now.slot.0) c.args.self.now c.loop-self.self c.loop-self.renewed c.pass.new.lists c.loop-self.invariant.settling c.in_ok-pass.ensures.passes c.renew.new.self differ c.in_ok-renew.ensures.renews;
      votes = subst (λ (t : Lists). VotesFor (may (heard c.renew.new.self.board)) (own_lists c.args.self.now.lists) (own_lists t)) (sym c.in_ok-renew.ensures.renews.lists)
          (votes_weaker (may (heard c.loop-self.self.board)) (may (heard c.renew.new.self.board)) c.args.self.now.lists c.pass.new.lists
          (may_stays (IsFull (g.D.Driver.says.level c.args.guide.now.driver) c.args.guide.now.slot.0) (g.D.Driver.says.extracted c.args.guide.now.driver c.args.guide.now.slot.0) c.args.guide.now.proposal (λ node. Contains c.args.guide.now.leaders.items node) (heard c.loop-self.self.board) (heard c.renew.new.self.board) _ _ c.in_ok-renew.ensures.renews.board)
          passed);
      exact = round_more rule c.args.self.now.hash (heard c.args.self.now.board) (own_lists c.args.self.now.lists) (heard c.loop-self.self.board) (heard c.renew.new.self.board) (own_lists c.loop-self.self.lists) (own_lists c.pass.new.lists) (own_lists c.renew.new.self.lists) c.loop-self.invariant.exact c.in_ok-pass.ensures.exact
          (says_other c.loop-self.self.lists c.pass.new.lists differ)
          (puts_renewed (heard c.loop-self.self.board) (heard c.renew.new.self.board) c.loop-self.self.hash c.pass.new.lists c.in_ok-renew.ensures.renews.board ∙ ap (λ h. renewed h (heard c.loop-self.self.board) (own_lists c.pass.new.lists)) c.loop-self.invariant.settling.hash)
          (ap (λ (t : Lists). own_lists t) c.in_ok-renew.ensures.renews.lists);
    }

pub returns-then-size-before-clause-exact : goal.returns-then-size-before-clause-exact
returns-then-size-before-clause-exact g c =
    let same : size c.pass.new.lists ≡ size c.loop-self.self.lists = search rules in
    round_ends (record { full = IsFull (g.D.Driver.says.level c.args.guide.now.driver) c.args.guide.now.slot.0; extracted = g.D.Driver.says.extracted c.args.guide.now.driver c.args.guide.now.slot.0; leads = λ node. Contains c.args.guide.now.leaders.items node; proposal = c.args.guide.now.proposal }) c.args.self.now.hash (heard c.args.self.now.board) (own_lists c.args.self.now.lists) (heard c.loop-self.self.board) (own_lists c.loop-self.self.lists) (own_lists c.pass.new.lists) c.loop-self.invariant.exact c.in_ok-pass.ensures.exact
    (says_same c.loop-self.self.lists c.pass.new.lists (unchanged (IsFull (g.D.Driver.says.level c.args.guide.now.driver) c.args.guide.now.slot.0) (heard c.loop-self.self.board) c.loop-self.self.lists c.pass.new.lists c.in_ok-pass.ensures.passes same))
