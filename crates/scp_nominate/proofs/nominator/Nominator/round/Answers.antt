use Rattle.std.proofs.Common.{◌≡◌, ◌+◌, ◌↔◌, ◌⊎◌, Contains, slice_get, subst, Some, false, length, arith, rules}
use Rattle.scp_vote.specs.scp_types.specs.declared.names.NodeId.{NodeId}
use Rattle.scp_driver.specs.Driver.{IsFull}
use Rattle.scp_nominate.specs.Heard.{heard}
use Rattle.scp_nominate.specs.Steps.{own_lists}
use Rattle.scp_nominate.specs.Turns.{Leads}
use Rattle.scp_nominate.proofs.Advancing.{advances, works, paid_by, keeps_others, unchanged}
use Rattle.scp_nominate.proofs.Turning.{more_leads}
use Rattle.scp_nominate.proofs.Suggesting.{own_lists_of, votes_led}
use Rattle.scp_nominate.proofs.Repeated.{leads_to}
use Rattle.scp_nominate.proofs.nominator.Nominator.round.Goals as goal

pub returns-then-self-len-clause-advances : goal.returns-then-self-len-clause-advances
returns-then-self-len-clause-advances g c =
    let whole : c.args.self.now.failed ≡ false = search rules in
    unchanged (IsFull (g.D.Driver.says.level c.args.self.now.guide.driver) c.args.self.now.guide.slot.0) (g.D.Driver.says.combined c.args.self.now.guide.driver c.args.self.now.guide.slot.0) c.args.self.now.state c.args.self.now.guide.slot.0 c.args.self.now.guide.proposal c.args.self.now.nodes.items c.args.self.now.rounds c.args.self.now.failed c.nothing.result c.nothing.ensures.statement c.nothing.ensures.composite (c.requires.sound whole).rest

pub returns-clause-advances : goal.returns-clause-advances
returns-clause-advances g c = advances (IsFull (g.D.Driver.says.level c.args.self.now.guide.driver) c.args.self.now.guide.slot.0) (g.D.Driver.says.combined c.args.self.now.guide.driver c.args.self.now.guide.slot.0) c.args.self.now.state c.advance.new.self c.args.self.now.guide.slot.0 c.args.self.now.guide.proposal c.args.self.now.nodes.items (c.args.self.now.rounds + 1) false c.in_ok-given.given c.in_ok-given.ensures.settled c.in_ok-given.ensures.own c.in_ok-given.ensures.more c.in_ok-given.ensures.all

pub returns-clause-others : goal.returns-clause-others
returns-clause-others g c = keeps_others (heard c.args.self.now.state.board) (heard c.advance.new.self.board) _ c.in_ok-given.ensures.settled.chain.board

pub returns-clause-paid : goal.returns-clause-paid
returns-clause-paid g c =
    let whole : c.args.self.now.failed ≡ false = search rules in
    paid_by (IsFull (g.D.Driver.says.level c.args.self.now.guide.driver) c.args.self.now.guide.slot.0) (λ node. Contains c.add_leader.new.leaders.items node) (Leads (g.D.Driver.says.place c.args.self.now.guide.driver c.args.self.now.guide.slot.0) c.args.self.now.nodes.items (c.args.self.now.rounds + 1)) c.args.self.now.guide.proposal (heard c.advance.new.self.board) (own_lists c.advance.new.self.lists) (λ v l. ((more_leads (g.D.Driver.says.place c.args.self.now.guide.driver c.args.self.now.guide.slot.0) c.args.self.now.nodes.items c.args.self.now.rounds (λ v. Contains c.add_leader.new.leaders.items v) (λ v. Contains c.args.self.now.guide.leaders.items v) (c.requires.sound whole).leaders (subst (λ xs. (v : NodeId) → Contains c.add_leader.new.leaders.items v ↔ (Contains c.args.self.now.guide.leaders.items v ⊎ (slice_get xs ((g.D.Driver.says.place c.args.self.now.guide.driver c.args.self.now.guide.slot.0) (c.args.self.now.rounds + 1) (length xs)) ≡ Some v))) c.as_slice-nodes.ensures.value c.in_ok-add_leader.ensures.added)) v).1 l) c.in_ok-given.ensures.owed

pub returns-clause-sound : goal.returns-clause-sound
returns-clause-sound g c e =
    let whole : c.args.self.now.failed ≡ false = search rules in
    works g.D.Driver.says.level g.D.Driver.says.place _ c.args.self.now.state _ c.in_ok-given.ensures.settled c.in_ok-given.ensures.owed (more_leads (g.D.Driver.says.place c.args.self.now.guide.driver c.args.self.now.guide.slot.0) c.args.self.now.nodes.items c.args.self.now.rounds (λ v. Contains c.add_leader.new.leaders.items v) (λ v. Contains c.args.self.now.guide.leaders.items v) (c.requires.sound whole).leaders (subst (λ xs. (v : NodeId) → Contains c.add_leader.new.leaders.items v ↔ (Contains c.args.self.now.guide.leaders.items v ⊎ (slice_get xs ((g.D.Driver.says.place c.args.self.now.guide.driver c.args.self.now.guide.slot.0) (c.args.self.now.rounds + 1) (length xs)) ≡ Some v))) c.as_slice-nodes.ensures.value c.in_ok-add_leader.ensures.added)) (c.requires.sound whole).nodes (omega (arith, c.if-self-len.false, c.len.ensures)) c.in_ok-add_leader.ensures.ascending

pub returns-then-self-len-clause-stands : goal.returns-then-self-len-clause-stands
returns-then-self-len-clause-stands g c =
    let whole : c.args.self.now.failed ≡ false = search rules in
    (c.requires.sound whole).rest.stands

pub returns-then-self-len-clause-lists : goal.returns-then-self-len-clause-lists
returns-then-self-len-clause-lists g c =
    let whole : c.args.self.now.failed ≡ false = search rules in
    own_lists_of (IsFull (g.D.Driver.says.level c.args.self.now.guide.driver) c.args.self.now.guide.slot.0) c.args.self.now.state.lists (c.requires.sound whole).rest.ready

pub returns-clause-stands : goal.returns-clause-stands
returns-clause-stands g c = c.in_ok-given.ensures.settled.stands

pub returns-clause-lists : goal.returns-clause-lists
returns-clause-lists g c = own_lists_of (IsFull (g.D.Driver.says.level c.args.self.now.guide.driver) c.args.self.now.guide.slot.0) c.advance.new.self.lists c.in_ok-given.ensures.settled.ready

pub returns-clause-votes : goal.returns-clause-votes
returns-clause-votes g c =
    let whole : c.args.self.now.failed ≡ false = search rules in
    votes_led (IsFull (g.D.Driver.says.level c.args.self.now.guide.driver) c.args.self.now.guide.slot.0) (g.D.Driver.says.extracted c.args.self.now.guide.driver c.args.self.now.guide.slot.0) c.args.self.now.guide.proposal (λ v. Contains c.add_leader.new.leaders.items v) (Leads (g.D.Driver.says.place c.args.self.now.guide.driver c.args.self.now.guide.slot.0) c.args.self.now.nodes.items (c.args.self.now.rounds + 1)) (heard c.advance.new.self.board) c.args.self.now.state.lists c.advance.new.self.lists (more_leads (g.D.Driver.says.place c.args.self.now.guide.driver c.args.self.now.guide.slot.0) c.args.self.now.nodes.items c.args.self.now.rounds (λ v. Contains c.add_leader.new.leaders.items v) (λ v. Contains c.args.self.now.guide.leaders.items v) (c.requires.sound whole).leaders (subst (λ xs. (v : NodeId) → Contains c.add_leader.new.leaders.items v ↔ (Contains c.args.self.now.guide.leaders.items v ⊎ (slice_get xs ((g.D.Driver.says.place c.args.self.now.guide.driver c.args.self.now.guide.slot.0) (c.args.self.now.rounds + 1) (length xs)) ≡ Some v))) c.as_slice-nodes.ensures.value c.in_ok-add_leader.ensures.added)) c.in_ok-given.ensures.votes

pub returns-then-self-len-clause-counted : goal.returns-then-self-len-clause-counted
returns-then-self-len-clause-counted g c =
    let whole : c.args.self.now.failed ≡ false = search rules in
    (c.requires.sound whole).rest.keeps

pub returns-clause-counted : goal.returns-clause-counted
returns-clause-counted g c = c.in_ok-given.ensures.settled.chain.keeps

pub add_leader-requires-clause-ascending : goal.add_leader-requires-clause-ascending
add_leader-requires-clause-ascending g c =
    let whole : c.args.self.now.failed ≡ false = search rules in
    (c.requires.sound whole).ascending

pub returns-clause-exact : goal.returns-clause-exact
returns-clause-exact g c below =
    let whole : c.args.self.now.failed ≡ false = search rules in
    leads_to (IsFull (g.D.Driver.says.level c.args.self.now.guide.driver) c.args.self.now.guide.slot.0) (g.D.Driver.says.extracted c.args.self.now.guide.driver c.args.self.now.guide.slot.0) c.args.self.now.guide.proposal (λ v. Contains c.add_leader.new.leaders.items v) (Leads (g.D.Driver.says.place c.args.self.now.guide.driver c.args.self.now.guide.slot.0) c.args.self.now.nodes.items (c.args.self.now.rounds + 1)) (more_leads (g.D.Driver.says.place c.args.self.now.guide.driver c.args.self.now.guide.slot.0) c.args.self.now.nodes.items c.args.self.now.rounds (λ v. Contains c.add_leader.new.leaders.items v) (λ v. Contains c.args.self.now.guide.leaders.items v) (c.requires.sound whole).leaders (subst (λ xs. (v : NodeId) → Contains c.add_leader.new.leaders.items v ↔ (Contains c.args.self.now.guide.leaders.items v ⊎ (slice_get xs ((g.D.Driver.says.place c.args.self.now.guide.driver c.args.self.now.guide.slot.0) (c.args.self.now.rounds + 1) (length xs)) ≡ Some v))) c.as_slice-nodes.ensures.value c.in_ok-add_leader.ensures.added)) c.args.self.now.state.hash (heard c.args.self.now.state.board) (own_lists c.args.self.now.state.lists) (heard c.advance.new.self.board) (own_lists c.advance.new.self.lists) c.in_ok-given.ensures.exact
