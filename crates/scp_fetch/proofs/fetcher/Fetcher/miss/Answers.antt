use Rattle.std.proofs.Common.{rules, sym}
use Rattle.scp_fetch.proofs.Tables.{missed_none, unwanted_is}
use Rattle.scp_fetch.proofs.fetcher.Fetcher.miss.Goals as goal

pub returns-then-not-is_wanted-clause-answer : goal.returns-then-not-is_wanted-clause-answer
returns-then-not-is_wanted-clause-answer c = unwanted_is c.args.hash.now c.args.self.now (search rules)

pub returns-then-not-is_wanted-clause-counted : goal.returns-then-not-is_wanted-clause-counted
returns-then-not-is_wanted-clause-counted c = sym (missed_none c.args.hash.now c.args.self.now (search rules))
