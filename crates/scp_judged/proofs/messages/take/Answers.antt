use Rattle.std.proofs.Common.{◌≡◌, ◌∙◌, [], ◌∷◌, ◌++◌, map, refl, subst}
use Rattle.std.specs.Prelude.{Some}
use Rattle.scp_ledger.specs.scp_envelope.specs.declared.statement.Envelope.{Envelope}
use Rattle.scp_ledger.specs.scp_envelope.specs.Kinds.{set_hash_of}
use Rattle.scp_judged.specs.declared.verdict.Verdict.TheVariants.{Counts}
use Rattle.scp_judged.specs.Named.{set_in}
use Rattle.scp_judged.specs.Verdicts.{IsVerdict, heard_of, heard_with}
use Rattle.scp_judged.specs.inside.Newest.{newest_in}
use Rattle.scp_judged.proofs.Judging.{took_counting, took_other}
use Rattle.scp_judged.proofs.messages.take.Goals as goal

pub returns-in_ok-push-in-Ok-clause-takes : goal.returns-in_ok-push-in-Ok-clause-takes
returns-in_ok-push-in-Ok-clause-takes c =
    let sets = set_in c.args.sets.now in
    let set = c.in-Ok.set.now.value in
    let same : c.get.result.now ≡ c.args.envelope = c.get.ensures ∙ c.in_ok-envelope.ensures.same in
    took_counting sets c.args.slot.0 c.args.newest.now c.args.judged.now (record { messages = c.push.new.self; counting = c.count.new.counting }) c.args.envelope set (record { envelope = c.in_ok-envelope.envelope; verdict = Counts }) c.requires
    (subst (λ (e : Envelope). IsVerdict sets c.args.slot.0 (newest_in c.args.newest.now) e.statement Counts) same c.in-Ok.ensures.counts)
    (subst (λ (e : Envelope). sets (set_hash_of e.statement.pledges) ≡ Some set) same c.in-Ok.ensures.set)
    c.in_ok-push-in-Ok.ensures.items c.in_ok-envelope.ensures.same refl
    (subst (λ (e : Envelope). map heard_of c.count.new.counting.items ≡ map heard_of c.args.judged.now.counting.items ++ heard_with e.statement set ∷ []) c.in_ok-envelope.ensures.same c.in_ok-count-in-Ok.ensures.counts)

pub returns-in_ok-push-in-Err-clause-takes : goal.returns-in_ok-push-in-Err-clause-takes
returns-in_ok-push-in-Err-clause-takes c =
    let sets = set_in c.args.sets.now in
    let same : c.get.result.now ≡ c.args.envelope = c.get.ensures ∙ c.in_ok-envelope.ensures.same in
    took_other sets c.args.slot.0 c.args.newest.now c.args.judged.now (record { messages = c.push-in-Err.new.self; counting = c.args.judged.now.counting }) c.args.envelope c.in-Err.verdict (record { envelope = c.in_ok-envelope.envelope; verdict = c.in-Err.verdict }) c.requires
    (subst (λ (e : Envelope). IsVerdict sets c.args.slot.0 (newest_in c.args.newest.now) e.statement c.in-Err.verdict) same c.in-Err.ensures.why)
    c.in-Err.ensures.not c.in_ok-push-in-Err.ensures.items c.in_ok-envelope.ensures.same refl refl
