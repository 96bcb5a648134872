use Rattle.std.proofs.Common.{◌≡◌, ◌-◌}
use Rattle.scp_xdr.specs.Passing.{passing, pass_items}
use Rattle.scp_xdr.proofs.xdr.pass_times.Given as goal

-- what is still passed over leads where all of them lead
abbrev pub invariant-loop : goal.invariant-loop
invariant-loop g l = pass_items (λ c. passing g.T.Xdr.kind c) (l.count - l.counter) l.reader ≡ pass_items (λ c. passing g.T.Xdr.kind c) l.count l.fn.reader
