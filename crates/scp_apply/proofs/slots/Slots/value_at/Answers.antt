use Rattle.std.proofs.Common.{◌+◌, sym, arith}
use Rattle.scp_apply.proofs.Values.{value_before, value_found, value_missing}
use Rattle.scp_apply.proofs.slots.Slots.value_at.Goals as goal

pub returns-then-slot-first : goal.returns-then-slot-first
returns-then-slot-first c = record { same = sym (value_before (c.args.self.now.before + 1) c.args.slot.0 c.args.self.now.applied.items c.requires.in_order (omega (arith, c.if-slot-first.true))); short = tt }

pub returns-in-Some : goal.returns-in-Some
returns-in-Some c =
    let there = c.in-Some.ensures.lookup in
    record {
      same = value_found (c.args.self.now.before + 1) c.args.slot.0 c.deref.result.now c.args.self.now.applied.items c.in-Some.decision.now c.get-in-Some.result.now c.deref.ensures.value c.requires.in_order (omega (arith, c.if-slot-first.false)) there.3.0 there.3.1 c.get-in-Some.ensures.same;
      short = rw c.get-in-Some.ensures.same c.get-in-Some.ensures.short;
    }

pub returns-in-None : goal.returns-in-None
returns-in-None c =
    let missing = c.in-None.ensures.lookup in
    record { same = value_missing (c.args.self.now.before + 1) c.args.slot.0 c.deref.result.now c.args.self.now.applied.items c.deref.ensures.value c.requires.in_order (omega (arith, c.if-slot-first.false)) missing.3; short = tt }
