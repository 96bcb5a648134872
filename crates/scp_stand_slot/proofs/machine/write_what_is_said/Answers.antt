use Rattle.std.proofs.Common.{◌≡◌, ◌++◌, ℕ, List, Option, string_bytes, ◌∙◌, ap, subst}
use Rattle.std.specs.Option.{option_map}
use Rattle.std.specs.Prelude.{OnOk, codes, flat_map, option_copied}
use Rattle.scp_slot.specs.scp_types.specs.declared.names.NodeId.{NodeId}
use Rattle.scp_slot.specs.scp_envelope.specs.declared.statement.Envelope.{Envelope}
use Rattle.scp_slot.specs.scp_envelope.specs.declared.statement.Pledges.{Pledges}
use Rattle.scp_slot.specs.scp_vote.specs.declared.claim.StatementKind.TheVariants.{Nomination, Balloting}
use Rattle.scp_slot.specs.scp_vote.specs.Seen.{seen, envelope_at}
use Rattle.scp_slot.specs.scp_nominate.specs.Heard.{heard}
use Rattle.scp_slot.specs.scp_nominate.specs.Nomination.{nomination}
use Rattle.scp_stand_slot.specs.Machine.{rounds_line, phase_line, statement_line, sent, lines_of}
use Rattle.scp_stand_slot.proofs.Ways.{five}
use Rattle.scp_stand_slot.proofs.machine.write_what_is_said.Goals as goal

pub returns-clause-added : goal.returns-clause-added
returns-clause-added c =
    let slot = c.args.slot in
    let me = c.args.me in
    let names = c.args.names.now in
    let shown = c.args.shown.now in
    let n = nomination shown.nominator.now in
    let leaders = shown.leaders.items in
    let s0 = string_bytes c.args.out.now in
    let s1 = string_bytes c.write_rounds.new.out in
    let s2 = string_bytes c.write_phase.new.out in
    let s3 = string_bytes c.write_said.new.out in
    let s4 = string_bytes c.write_said-2.new.out in
    let s5 = string_bytes c.write_heard.new.out in
    let line : NodeId → List ℕ = lines_of names me slot (codes "heard") shown.nominations.now shown.ballots.now in
    let own = (seen Balloting shown.ballots.now).statement (seen Balloting shown.ballots.now).me in
    let spoken = (heard shown.nominations.now).statement (heard shown.nominations.now).me in
    let first : s1 ≡ s0 ++ rounds_line names me slot leaders spoken n.rounds n.proposal =
    c.in_ok-write_rounds.ensures.added
    ∙ ap (λ (vs : List NodeId). s0 ++ rounds_line names me slot vs (option_map (λ e. e.now.statement.pledges) c.own-nomination.result) c.rounds.result (option_copied c.proposal.result)) c.as_slice-leaders.ensures.value
    ∙ ap (λ (o : Option Pledges). s0 ++ rounds_line names me slot leaders o c.rounds.result (option_copied c.proposal.result)) c.own-nomination.ensures.pledges
    ∙ ap (λ (k : ℕ). s0 ++ rounds_line names me slot leaders spoken k (option_copied c.proposal.result)) c.rounds.ensures
    ∙ ap (λ (o : Option (List ℕ)). s0 ++ rounds_line names me slot leaders spoken n.rounds o) c.proposal.ensures
    in
    let second : s2 ≡ s1 ++ phase_line names me slot own n.lists.candidates = c.in_ok-write_phase.ensures.added ∙ ap (λ (o : Option Pledges). s1 ++ phase_line names me slot o n.lists.candidates) c.own-ballot.ensures.pledges in
    let third : s3 ≡ s2 ++ statement_line names me slot (codes "own") me (envelope_at Nomination shown.nominations.now (heard shown.nominations.now).me) =
    c.in_ok-write_said.ensures.added ∙ ap (λ (o : Option Envelope). s2 ++ statement_line names me slot (codes "own") me o) c.own-nomination.ensures.envelope
    in
    let fourth : s4 ≡ s3 ++ statement_line names me slot (codes "own") me (sent (envelope_at Balloting shown.ballots.now (seen Balloting shown.ballots.now).me)) =
    c.in_ok-write_said-2.ensures.added
    ∙ ap (λ (o : Option Envelope). s3 ++ statement_line names me slot (codes "own") me o) c.sent-said.ensures
    ∙ ap (λ (o : Option Envelope). s3 ++ statement_line names me slot (codes "own") me (sent o)) c.own-ballot.ensures.envelope
    in
    five c.write_heard.result s0 s1 s2 s3 s4 s5 _ _ _ _ (flat_map line shown.others.items) first second third fourth
    (subst (λ (vs : List NodeId). OnOk c.write_heard.result (s5 ≡ s4 ++ flat_map line vs)) c.as_slice.ensures.value c.write_heard.ensures.added)
