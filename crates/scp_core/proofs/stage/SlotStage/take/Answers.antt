use Rattle.std.proofs.Common.{◌∙◌, sym, ap}
use Rattle.std.specs.Prelude.{length}
use Rattle.scp_theorem.specs.scp_ledger.specs.declared.took.Took.{Took}
use Rattle.scp_theorem.specs.scp_ledger.specs.Seen.{LedgerView}
use Rattle.scp_core.specs.declared.stage.Given.{Given}
use Rattle.scp_core.proofs.Staging.{given_by, takes_out, refused_shows, cut_shows, full_as, isnt_full, taken_isnt, given_isnt, no_memory_isnt}
use Rattle.scp_core.proofs.stage.SlotStage.take.Goals as goal

pub returns-in-Err-clause-full : goal.returns-in-Err-clause-full
returns-in-Err-clause-full g c = rw (← c.self.view_is) (full_as Took Given c.in-Err.fault c.self.inside.cut c.self.inside.ledger c.args.ready (ap (λ (v : LedgerView _). v.failed) c.self.view_is ∙ c.requires.runs) c.in-Err.ensures.full)

pub returns-in-Err-clause-read : goal.returns-in-Err-clause-read
returns-in-Err-clause-read g c = rw (← c.self.view_is) (refused_shows c.self.inside.cut c.self.inside.ledger c.take.new.self (ap (λ (v : LedgerView _). v.failed) c.self.view_is ∙ c.requires.runs) c.in-Err.ensures.read)

pub returns-in_default-clause-full : goal.returns-in_default-clause-full
returns-in_default-clause-full g c = rw (← c.self.view_is) (isnt_full _ _ c.self.inside.cut c.self.inside.ledger c.args.ready (ap (λ (v : LedgerView _). v.failed) c.self.view_is ∙ c.requires.runs) (taken_isnt c.in-Ok.took) no_memory_isnt c.in-Ok.ensures.full)

pub returns-in_default-clause-read : goal.returns-in_default-clause-read
returns-in_default-clause-read g c =
    rw (← c.self.view_is) (cut_shows g.A.Driver.says c.what_holds_of_a_ledger_holds_with_one_thing_more.ensures.grows c.self.inside.cut c.self.inside.ledger c.args.ready c.in-Ok.took c.take.new.self (length c.journal-journal.result.now) (length c.decisions-decisions.result.now) (ap (λ (v : LedgerView _). v.failed) c.self.view_is ∙ c.requires.runs) (ap length c.journal-journal.ensures.same) (ap length c.decisions-decisions.ensures.same) c.in-Ok.ensures.takes c.in_default.ensures.to_all)

pub returns-clause-takes : goal.returns-clause-takes
returns-clause-takes g c =
    rw (← c.self.view_is) (takes_out g.A.Driver.says c.what_holds_of_a_ledger_holds_with_one_thing_more.ensures.grows c.self.inside.cut c.self.inside.ledger c.args.outboxes.now c.args.ready c.in-Ok.took c.take.new.self c.hand_out_all.new.outboxes c.in-Ok-hand_out_all.said (sym c.in-Ok-hand_out_all.ensures.said) (ap (λ (v : LedgerView _). v.failed) c.self.view_is ∙ c.requires.runs) c.in-Ok.ensures.takes c.in-Ok.ensures.tells c.take.ensures.known c.take.ensures.running c.in-Ok-hand_out_all.ensures.hands)

pub returns-clause-full : goal.returns-clause-full
returns-clause-full g c = rw (← c.self.view_is) (isnt_full _ _ c.self.inside.cut c.self.inside.ledger c.args.ready (ap (λ (v : LedgerView _). v.failed) c.self.view_is ∙ c.requires.runs) (taken_isnt c.in-Ok.took) (given_isnt (given_by c.in-Ok.took c.in-Ok-hand_out_all.said)) c.in-Ok.ensures.full)
