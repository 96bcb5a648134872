use Rattle.scp_audit.proofs.archive.judge_record.Goals as goal

pub returns-clause-finds : goal.returns-clause-finds
returns-clause-finds c = λ left after took. ((took.0, took.1, took.2, (c.args.entry, took.3, c.in_ok-ledger.ensures.named, c.in_ok-ledger.ensures.judged)), c.in_ok-ledger.ensures.sane)
