use Rattle.std.proofs.Common.{◌≡◌, ◌≢◌, ◌⊎◌, inr}
use Rattle.std.proofs.lemmas.Result.{IfOk-weaker, IfErr-weaker}
use Rattle.scp_archive.specs.scp_types.specs.declared.fault.Fault.{Fault}
use Rattle.scp_archive.specs.scp_types.specs.declared.fault.Fault.TheVariants.{NoMemory, TooLong, Device}
use Rattle.scp_judged.specs.Named.{set_in}
use Rattle.scp_audit.specs.inside.Finding.{Finds}
use Rattle.scp_audit.specs.declared.archive.Found.{Found}
use Rattle.scp_audit.proofs.Refusing.{on_ok_any, if_err_any, no_device}
use Rattle.scp_audit.proofs.archive.find.Goals as goal

pub returns-clause-finds : goal.returns-clause-finds
returns-clause-finds g c =
    let left = g.R.ScriptIn.left in
    IfOk-weaker c.judge_next.result _ (λ (found : Found). Finds (set_in c.args.sets.now) (left c.args.reader.now) found (set_in c.judge_next.new.sets) (left c.take.new.reader))
    (λ found all. all (left c.args.reader.now) (left c.take.new.reader) c.in_ok-next.ensures.takes) c.judge_next.ensures.finds

pub returns-clause-fresh : goal.returns-clause-fresh
returns-clause-fresh g c = on_ok_any c.judge_next.result _ c.in_ok-next.ensures.fresh

pub returns-clause-cause : goal.returns-clause-cause
returns-clause-cause g c = IfErr-weaker c.judge_next.result (λ (f : Fault). (f ≡ NoMemory) ⊎ (f ≡ TooLong)) (λ (f : Fault). (f ≡ Device) ⊎ ((f ≡ NoMemory) ⊎ (f ≡ TooLong))) (λ f h. inr h) c.judge_next.ensures.only

pub returns-clause-device : goal.returns-clause-device
returns-clause-device g c = λ e. no_device c.judge_next.result _ c.judge_next.ensures.only e

pub returns-clause-hidden : goal.returns-clause-hidden
returns-clause-hidden g c =
    let failures = g.R.ScriptIn.failures in
    if_err_any c.judge_next.result (λ (f : Fault). f ≢ Device → failures c.take.new.reader ≡ failures c.args.reader.now) (λ f other. c.in_ok-next.ensures.kept)

pub returns-clause-kept : goal.returns-clause-kept
returns-clause-kept g c = on_ok_any c.judge_next.result _ c.in_ok-next.ensures.kept
