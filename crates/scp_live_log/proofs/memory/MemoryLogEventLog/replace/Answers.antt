use Rattle.std.proofs.Common.{◌≡◌, ◌∙◌, refl, rules}
use Rattle.scp_live_log.proofs.Past.{leaves_either, leaves_it}
use Rattle.scp_live_log.proofs.memory.MemoryLogEventLog.replace.Goals as goal

pub returns-in_err-next-clause-any_moment : goal.returns-in_err-next-clause-any_moment
returns-in_err-next-clause-any_moment c file holds only = leaves_it file c.args.bytes.now c.args.self.now c.args.self.now holds refl refl

pub returns-in_err-put-clause-any_moment : goal.returns-in_err-put-clause-any_moment
returns-in_err-put-clause-any_moment c file holds only =
    leaves_it file c.args.bytes.now c.args.self.now (record { alloc = c.args.self.now.alloc; bytes = c.put.new.bytes; past = c.put.new.past }) holds c.in_err-put.ensures.past_err c.in_err-put.ensures.err

pub returns-clause-any_moment : goal.returns-clause-any_moment
returns-clause-any_moment c file holds only =
    let past = c.in_ok-put.ensures.past in
    let next : c.in_ok-next.next.items ≡ c.args.bytes.now = search rules in
    leaves_either file c.args.bytes.now c.args.self.now (record { alloc = c.args.self.now.alloc; bytes = c.put.new.bytes; past = c.put.new.past }) holds past.0 past.1 past.2 (c.in_ok-put.ensures.ok ∙ next)
