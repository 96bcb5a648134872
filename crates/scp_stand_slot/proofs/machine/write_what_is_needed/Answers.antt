use Rattle.std.proofs.Common.{◌≡◌, ◌++◌, ℕ, Bool, List, Option, string_bytes, sym, ◌∙◌, ap, subst, filter}
use Rattle.std.specs.Prelude.{OnOk, flat_map, is_some}
use Rattle.scp_slot.specs.scp_types.specs.declared.names.NodeId.{NodeId}
use Rattle.scp_slot.specs.scp_envelope.specs.declared.statement.Pledges.{Pledges}
use Rattle.scp_slot.specs.scp_vote.specs.declared.claim.StatementKind.TheVariants.{Balloting}
use Rattle.scp_slot.specs.scp_vote.specs.Seen.{seen}
use Rattle.scp_slot.specs.scp_nominate.specs.Heard.{heard}
use Rattle.scp_slot.specs.scp_nominate.specs.Nomination.{nomination}
use Rattle.scp_stand_needs.specs.declared.steps.Need.{Need}
use Rattle.scp_stand_slot.specs.Machine.{silent_line, is_silent, votes_line, lacks_vote, need_text}
use Rattle.scp_stand_slot.proofs.Ways.{four}
use Rattle.scp_stand_slot.proofs.Gathering.{some_mapped}
use Rattle.scp_stand_slot.proofs.machine.write_what_is_needed.Goals as goal

pub returns-clause-added : goal.returns-clause-added
returns-clause-added c =
    let names = c.args.names.now in
    let slot = c.args.place.slot in
    let me = c.args.me in
    let shown = c.args.shown.now in
    let n = nomination shown.nominator.now in
    let b = heard shown.nominations.now in
    let leaders = shown.leaders.items in
    let s0 = string_bytes c.args.out.now in
    let s1 = string_bytes c.write_silent.new.out in
    let s2 = string_bytes c.write_votes.new.out in
    let s3 = string_bytes c.write_needs.new.out in
    let s4 = string_bytes c.write_needs-2.new.out in
    let line : Need → List ℕ = need_text names me slot in
    let quiet = filter (is_silent me b (seen Balloting shown.ballots.now)) c.args.place.members.now in
    let proposes : c.is_some-proposes.result ≡ is_some n.proposal = c.is_some-proposes.ensures ∙ sym (some_mapped _ c.proposal.result) ∙ ap is_some c.proposal.ensures in
    let first : s1 ≡ s0 ++ silent_line names me slot quiet = c.in_ok-write_silent.ensures.added ∙ ap (λ (vs : List NodeId). s0 ++ silent_line names me slot vs) (c.as_slice-2.ensures.value ∙ c.in_ok-nodes.ensures) in
    let voters : c.as_slice-3.result.now ≡ filter (lacks_vote me (is_some n.proposal) b) leaders =
    c.as_slice-3.ensures.value ∙ c.in_ok-voters.ensures
    ∙ ap (λ (vs : List NodeId). filter (lacks_vote me c.is_some-proposes.result b) vs) c.as_slice.ensures.value
    ∙ ap (λ (p : Bool). filter (lacks_vote me p b) leaders) proposes
    in
    let second : s2 ≡ s1 ++ votes_line names me slot (b.statement b.me) (filter (lacks_vote me (is_some n.proposal) b) leaders) =
    c.in_ok-write_votes.ensures.added
    ∙ ap (λ (o : Option Pledges). s1 ++ votes_line names me slot o c.as_slice-3.result.now) c.own-own.ensures.pledges
    ∙ ap (λ (vs : List NodeId). s1 ++ votes_line names me slot (b.statement b.me) vs) voters
    in
    let third : s3 ≡ s2 ++ flat_map line shown.to_nominate.items = c.in_ok-write_needs.ensures.added ∙ ap (λ (xs : List Need). s2 ++ flat_map line xs) c.as_slice-4.ensures.value in
    four c.write_needs-2.result s0 s1 s2 s3 s4 _ _ _ (flat_map line shown.to_ballot.items) first second third
    (subst (λ (xs : List Need). OnOk c.write_needs-2.result (s4 ≡ s3 ++ flat_map line xs)) c.as_slice-5.ensures.value c.write_needs-2.ensures.added)
