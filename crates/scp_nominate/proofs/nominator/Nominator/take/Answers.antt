use Rattle.std.proofs.Common.{◌≡◌, Contains, subst, false, rules}
use Rattle.scp_driver.specs.Driver.{IsFull}
use Rattle.scp_nominate.specs.Heard.{heard}
use Rattle.scp_nominate.specs.Steps.{own_lists}
use Rattle.scp_nominate.specs.Turns.{Leads}
use Rattle.scp_nominate.specs.Owed.{MayVote, VotesFor}
use Rattle.scp_nominate.specs.declared.lists.Lists.{Lists}
use Rattle.scp_nominate.specs.State.{own_at}
use Rattle.scp_nominate.specs.Nomination.{Advances, nomination_of}
use Rattle.scp_nominate.proofs.Advancing.{advances, works, paid_by, keeps_others, heard_rests, same_own, hears_of, turns_kept}
use Rattle.scp_nominate.proofs.Suggesting.{own_lists_of, votes_led}
use Rattle.scp_vote.specs.scp_types.specs.declared.names.Hash.{Hash}
use Rattle.scp_nominate.specs.Repeating.{Rule, LeadsTo}
use Rattle.scp_nominate.proofs.Repeated.{leads_to}
use Rattle.scp_nominate.proofs.nominator.Nominator.take.Goals as goal

pub advance-requires : goal.advance-requires
advance-requires g c =
    let whole : c.args.self.now.failed ≡ false = search rules in
    record { rest = heard_rests (IsFull (g.D.Driver.says.level c.args.self.now.guide.driver) c.args.self.now.guide.slot.0) c.args.self.now.state c.hear.new.self c.args.envelope.statement.node c.args.envelope.statement.pledges c.args.delivered.value (c.requires.sound whole).rest c.in_ok-hear.ensures.heard c.requires.other; ascending = (c.requires.sound whole).ascending }

pub returns-clause-advances : goal.returns-clause-advances
returns-clause-advances g c =
    let whole : c.args.self.now.failed ≡ false = search rules in
    let new = nomination_of c.advance.new.self c.args.self.now.guide.slot.0 c.args.self.now.guide.proposal c.args.self.now.nodes.items c.args.self.now.rounds false in
    let given = c.in_ok-given.given in
    subst (λ o. Advances (g.D.Driver.says.combined c.args.self.now.guide.driver c.args.self.now.guide.slot.0) o (own_lists c.args.self.now.state.lists) new given) (same_own (IsFull (g.D.Driver.says.level c.args.self.now.guide.driver) c.args.self.now.guide.slot.0) c.args.self.now.state c.hear.new.self c.args.envelope.statement.node c.args.envelope.statement.pledges c.args.delivered.value (c.requires.sound whole).rest c.in_ok-hear.ensures.heard c.requires.other)
    (subst (λ (s : Lists). Advances (g.D.Driver.says.combined c.args.self.now.guide.driver c.args.self.now.guide.slot.0) (own_at c.hear.new.self) (own_lists s) new given) c.in_ok-hear.ensures.heard.lists (advances (IsFull (g.D.Driver.says.level c.args.self.now.guide.driver) c.args.self.now.guide.slot.0) (g.D.Driver.says.combined c.args.self.now.guide.driver c.args.self.now.guide.slot.0) c.hear.new.self c.advance.new.self c.args.self.now.guide.slot.0 c.args.self.now.guide.proposal c.args.self.now.nodes.items c.args.self.now.rounds false c.in_ok-given.given c.in_ok-given.ensures.settled c.in_ok-given.ensures.own c.in_ok-given.ensures.more c.in_ok-given.ensures.all))

pub returns-clause-others : goal.returns-clause-others
returns-clause-others g c = hears_of (IsFull (g.D.Driver.says.level c.args.self.now.guide.driver) c.args.self.now.guide.slot.0) c.args.self.now.state c.hear.new.self c.args.envelope.statement.node c.args.envelope.statement.pledges c.args.delivered.value c.in_ok-hear.ensures.heard c.requires.other (heard c.advance.new.self.board) (keeps_others (heard c.hear.new.self.board) (heard c.advance.new.self.board) _ c.in_ok-given.ensures.settled.chain.board)

pub returns-clause-paid : goal.returns-clause-paid
returns-clause-paid g c =
    let whole : c.args.self.now.failed ≡ false = search rules in
    paid_by (IsFull (g.D.Driver.says.level c.args.self.now.guide.driver) c.args.self.now.guide.slot.0) (λ node. Contains c.args.self.now.guide.leaders.items node) (Leads (g.D.Driver.says.place c.args.self.now.guide.driver c.args.self.now.guide.slot.0) c.args.self.now.nodes.items c.args.self.now.rounds) c.args.self.now.guide.proposal (heard c.advance.new.self.board) (own_lists c.advance.new.self.lists) (λ v l. ((c.requires.sound whole).leaders v).1 l) c.in_ok-given.ensures.owed

pub returns-clause-sound : goal.returns-clause-sound
returns-clause-sound g c e =
    let whole : c.args.self.now.failed ≡ false = search rules in
    works g.D.Driver.says.level g.D.Driver.says.place _ c.hear.new.self _ c.in_ok-given.ensures.settled c.in_ok-given.ensures.owed (c.requires.sound whole).leaders (turns_kept (IsFull (g.D.Driver.says.level c.args.self.now.guide.driver) c.args.self.now.guide.slot.0) c.args.self.now.state c.hear.new.self c.args.envelope.statement.node c.args.envelope.statement.pledges c.args.delivered.value c.args.self.now.nodes.items c.in_ok-hear.ensures.heard (c.requires.sound whole).nodes) (c.requires.sound whole).rounds (c.requires.sound whole).ascending

pub returns-clause-stands : goal.returns-clause-stands
returns-clause-stands g c = c.in_ok-given.ensures.settled.stands

pub returns-clause-lists : goal.returns-clause-lists
returns-clause-lists g c = own_lists_of (IsFull (g.D.Driver.says.level c.args.self.now.guide.driver) c.args.self.now.guide.slot.0) c.advance.new.self.lists c.in_ok-given.ensures.settled.ready

pub returns-clause-votes : goal.returns-clause-votes
returns-clause-votes g c =
    let whole : c.args.self.now.failed ≡ false = search rules in
    votes_led (IsFull (g.D.Driver.says.level c.args.self.now.guide.driver) c.args.self.now.guide.slot.0) (g.D.Driver.says.extracted c.args.self.now.guide.driver c.args.self.now.guide.slot.0) c.args.self.now.guide.proposal (λ v. Contains c.args.self.now.guide.leaders.items v) (Leads (g.D.Driver.says.place c.args.self.now.guide.driver c.args.self.now.guide.slot.0) c.args.self.now.nodes.items c.args.self.now.rounds) (heard c.advance.new.self.board) c.args.self.now.state.lists c.advance.new.self.lists (c.requires.sound whole).leaders (subst
    (λ (s : Lists). VotesFor
    (MayVote (IsFull (g.D.Driver.says.level c.args.self.now.guide.driver) c.args.self.now.guide.slot.0) (g.D.Driver.says.extracted c.args.self.now.guide.driver c.args.self.now.guide.slot.0) (λ node. Contains c.args.self.now.guide.leaders.items node) c.args.self.now.guide.proposal (heard c.advance.new.self.board))
    (own_lists s)
    (own_lists c.advance.new.self.lists))
    c.in_ok-hear.ensures.heard.lists
    c.in_ok-given.ensures.votes)

pub returns-clause-counted : goal.returns-clause-counted
returns-clause-counted g c = c.in_ok-given.ensures.settled.chain.keeps

pub returns-clause-exact : goal.returns-clause-exact
returns-clause-exact g c =
    let whole : c.args.self.now.failed ≡ false = search rules in
    let h = c.in_ok-hear.ensures.heard in
    let b = heard c.hear.new.self.board in
    let d = heard c.advance.new.self.board in
    let t = own_lists c.advance.new.self.lists in
    let rule : Rule = record { full = (IsFull (g.D.Driver.says.level c.args.self.now.guide.driver) c.args.self.now.guide.slot.0); extracted = (g.D.Driver.says.extracted c.args.self.now.guide.driver c.args.self.now.guide.slot.0); leads = (Leads (g.D.Driver.says.place c.args.self.now.guide.driver c.args.self.now.guide.slot.0) c.args.self.now.nodes.items c.args.self.now.rounds); proposal = c.args.self.now.guide.proposal } in
    let led = leads_to (IsFull (g.D.Driver.says.level c.args.self.now.guide.driver) c.args.self.now.guide.slot.0) (g.D.Driver.says.extracted c.args.self.now.guide.driver c.args.self.now.guide.slot.0) c.args.self.now.guide.proposal (λ v. Contains c.args.self.now.guide.leaders.items v) (Leads (g.D.Driver.says.place c.args.self.now.guide.driver c.args.self.now.guide.slot.0) c.args.self.now.nodes.items c.args.self.now.rounds) (c.requires.sound whole).leaders c.hear.new.self.hash b (own_lists c.hear.new.self.lists) d t c.in_ok-given.ensures.exact in
    record {
      board = b;
      puts = h.put;
      comes = subst (λ (s : Lists). LeadsTo rule c.args.self.now.state.hash b (own_lists s) d t) h.lists (subst (λ (k : Hash). LeadsTo rule k b (own_lists c.hear.new.self.lists) d t) h.hash led);
    }
