use Rattle.std.proofs.Common.{◌≡◌, ◌+◌, sym, ap, inl, inr}
use Rattle.std.proofs.lemmas.Bool.{cases_lt}
use Rattle.scp_ledger.specs.declared.journal.Decision.{Decision}
use Rattle.scp_ledger.proofs.state.State.conclude.Goals as goal

pub decide-requires-clause-from : goal.decide-requires-clause-from
decide-requires-clause-from g c = rw c.get.ensures.same c.requires.is_open.not_old

pub decide-requires-clause-last : goal.decide-requires-clause-last
decide-requires-clause-last g c = rw c.get.ensures.same (elim (cases_lt 4294967295 c.args.decision.slot.0) [ inl lt ↦ absurd (c.requires.is_open.not_far (inl lt)) | inr le ↦ le ])

pub returns-clause-window : goal.returns-clause-window
returns-clause-window g c =
    let slot : c.args.decision.slot ≡ c.get.result.now.slot = ap (λ (d : Decision). d.slot) (sym c.get.ensures.same) in
    rw c.in_ok-add.ensures.decisions (c.in_ok-decide.ensures.window (c.args.self.now.before + 1) c.args.self.now.decisions.items c.args.decision slot c.requires.window)
