use Rattle.std.proofs.Common.{arith, ◌∙◌, ap, string_bytes}
use Rattle.std.specs.List.{flat_map}
use Rattle.scp_script_hints.specs.Told.{halting_line}
use Rattle.scp_script_hints.proofs.QuorumTexts.{lines_more, lines_all}
use Rattle.scp_script_hints.proofs.told.halting_text.Goals as goal

pub loop-lost-preserved : goal.loop-lost-preserved
loop-lost-preserved c =
    lines_more (halting_line c.args.node.now) c.deref-lost-items.result.now c.loop-lost.lost-index c.lost-item.result (string_bytes c.loop-lost.out) _ c.loop-lost-test.true c.lost-item.is c.in_ok-write_lost.ensures.added c.loop-lost.invariant

pub returns-clause-tells : goal.returns-clause-tells
returns-clause-tells c =
    record {
      found = c.in_ok-found.found.items;
      each = c.in_ok-found.ensures.each;
      all = c.in_ok-found.ensures.all;
      is = lines_all (halting_line c.args.node.now) c.deref-lost-items.result.now c.loop-lost.lost-index (string_bytes c.loop-lost.out) (omega arith) c.loop-lost.invariant
          ∙ ap (λ ls. flat_map (halting_line c.args.node.now) ls) c.deref-lost-items.ensures.value;
    }
