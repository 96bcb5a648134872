use Rattle.std.proofs.Common.{ℕ, List, refl, subst}
use Rattle.std.specs.Prelude.{Option, Err}
use Rattle.std.proofs.lemmas.Result.{IfOk-weaker}
use Rattle.scp_archive.specs.Stream.{Takes, TakesRecord}
use Rattle.scp_archive.specs.declared.entries.Next.{Next}
use Rattle.scp_judged.specs.Named.{set_in}
use Rattle.scp_audit.specs.inside.Finding.{Finds}
use Rattle.scp_audit.specs.declared.archive.Found.{Found}
use Rattle.scp_audit.proofs.archive.judge_next.Goals as goal

pub returns-in-Entry-clause-finds : goal.returns-in-Entry-clause-finds
returns-in-Entry-clause-finds c =
    IfOk-weaker c.judge_record.result _ (λ (found : Found). (left after : Option (List ℕ)) → Takes left c.args.next after → Finds (set_in c.args.sets.now) left found (set_in c.judge_record.new.sets) after)
    (λ found all left after took. all left after (subst (λ (n : Next). Takes left n after) c.in-Entry.is took)) c.judge_record.ensures.finds

pub returns-in-Unread-clause-finds : goal.returns-in-Unread-clause-finds
returns-in-Unread-clause-finds c = λ left after took.
    let here : TakesRecord left (Err c.in-Unread.why) after = subst (λ (n : Next). Takes left n after) c.in-Unread.is took in
    ((here.0, here.1, here.2, (here.3, λ h. refl)), tt)

pub returns-in-End-clause-finds : goal.returns-in-End-clause-finds
returns-in-End-clause-finds c = λ left after took. subst (λ (n : Next). Takes left n after) c.in-End.is took

pub returns-in-Cut-clause-finds : goal.returns-in-Cut-clause-finds
returns-in-Cut-clause-finds c = λ left after took. subst (λ (n : Next). Takes left n after) c.in-Cut.is took
