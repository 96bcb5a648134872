use Rattle.std.proofs.Common.{inl, inr}
use Rattle.scp_ballot_rules.proofs.Options.{is_some_and}
use Rattle.scp_ballot.proofs.next.later_next.Goals as goal

pub catch_up_more-requires : goal.catch_up_more-requires
catch_up_more-requires c = record { low = is_some_and _ c.args.state.now.low c.requires.ready.range }

pub returns-in-Some-clause-step : goal.returns-in-Some-clause-step
returns-in-Some-clause-step c =
    let h = rw c.in-Some.is at c.in_ok-next.ensures.step in
    elim h [ inl commits ↦ inl commits | inr confirms ↦ inr (inl confirms) ]

pub returns-in-Some-2-clause-step : goal.returns-in-Some-2-clause-step
returns-in-Some-2-clause-step c = let h = rw c.in-Some-2.is at c.in_ok-next-in-None.ensures.step in inr (inr h)

pub returns-in-None-2-clause-rests : goal.returns-in-None-2-clause-rests
returns-in-None-2-clause-rests c =
    let h = rw c.in-None.is at c.in_ok-next.ensures.rests in
    let k = rw c.in-None-2.is at c.in_ok-next-in-None.ensures.rests in
    record { commits = h.0; confirms = h.1; raises = k }
