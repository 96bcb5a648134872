use Rattle.std.proofs.Common.{◌≡◌, ◌+◌, ◌++◌, ◌∙◌, ap, List}
use Rattle.std.specs.Prelude.{Some, option_to_list, option_map}
use Rattle.scp_ledger.specs.declared.journal.Fate.{Fate}
use Rattle.scp_ledger.specs.inside.Entering.{entries_of}
use Rattle.scp_ledger.specs.inside.State.{IsSound}
use Rattle.scp_ledger.specs.inside.Window.{IsWindow}
use Rattle.scp_ledger.specs.Takes.{decision_of, decided_onward, to_peers, verdict_from}
use Rattle.scp_ledger.proofs.Outcomes.{if_ok5, RanAs, ran_as}
use Rattle.scp_ledger.proofs.Stated.{on_ok3, sound_ran}
use Rattle.scp_ledger.proofs.state.State.take_input.Goals as goal

pub returns-clause-sound : goal.returns-clause-sound
returns-clause-sound g c =
    let old = c.args.self.now in
    let mid = c.run.new.self in
    let new = c.settle.new.self in
    let out = c.in_ok-out.out in
    let fates = option_to_list c.entry_with-fate.result in
    let more = option_to_list (decision_of c.args.slot out.decided) in
    on_ok3 c.settle.result (new.journal.items ≡ mid.journal.items ++ fates) (new.decisions.items ≡ mid.decisions.items ++ more) (IsWindow (new.before + 1) new.decisions.items new.window) (IsSound g.D.Driver.says.level g.D.Driver.says.place new)
    (λ journal decisions window. sound_ran g.D.Driver.says.level g.D.Driver.says.extracted g.D.Driver.says.combined g.D.Driver.says.place old mid new c.args.slot c.args.input out c.args.entering c.requires.sound c.requires.is_open c.in_ok-out.ensures.ran c.in_ok-out.ensures.same c.requires.entry c.requires.of_slot c.requires.room
    (journal ∙ ap (λ (fs : List Fate). mid.journal.items ++ fs) (c.entry_with-fate.ensures ∙ ap (entries_of c.args.entering) c.verdict_from-verdict.ensures)) decisions window c.settle.ensures.rest)
    c.settle.ensures.journal c.settle.ensures.decisions c.settle.ensures.window

pub returns-clause-ran : goal.returns-clause-ran
returns-clause-ran g c =
    let old = c.args.self.now in
    let mid = c.run.new.self in
    let new = c.settle.new.self in
    let out = c.in_ok-out.out in
    if_ok5 c.settle.result
    (λ took. took.verdict ≡ Some (verdict_from out.verdict)) (λ took. took.onward ≡ option_map decided_onward (decision_of c.args.slot out.decided)) (λ took. took.outgoing ≡ to_peers out.emitted)
    (λ took. RanAs g.D.Driver.says.level g.D.Driver.says.extracted g.D.Driver.says.combined g.D.Driver.says.place old new c.args.slot c.args.input c.args.entering took)
    (new.journal.items ≡ mid.journal.items ++ option_to_list c.entry_with-fate.result) (new.decisions.items ≡ mid.decisions.items ++ option_to_list (decision_of c.args.slot out.decided))
    (λ took verdict onward outgoing journal decisions. ran_as g.D.Driver.says.level g.D.Driver.says.extracted g.D.Driver.says.combined g.D.Driver.says.place old mid new c.args.slot c.args.input out c.args.entering took c.requires.is_open c.in_ok-out.ensures.ran c.in_ok-out.ensures.same verdict onward outgoing
    (journal ∙ ap (λ (fs : List Fate). mid.journal.items ++ fs) (c.entry_with-fate.ensures ∙ ap (entries_of c.args.entering) c.verdict_from-verdict.ensures)) decisions c.settle.ensures.rest)
    c.settle.ensures.verdict c.settle.ensures.onward c.settle.ensures.outgoing c.settle.ensures.journal c.settle.ensures.decisions
