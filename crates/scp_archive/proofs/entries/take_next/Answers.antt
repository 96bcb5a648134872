use Rattle.std.proofs.Common.{◌≡◌, ◌∙◌, ◌^◌, ◌<◌, ℕ, List, length, sym, subst, ap, rules, arith}
use Rattle.std.proofs.lemmas.Grind.{common_steps}
use Rattle.scp_device.specs.Device.{Loses}
use Rattle.scp_quorum.specs.scp_xdr.specs.Kind.{word}
use Rattle.scp_archive.proofs.Marking.{took_short, marked_all}
use Rattle.scp_archive.proofs.entries.take_next.Goals as goal

pub returns-then-len-lt-MARK-clause-takes : goal.returns-then-len-lt-MARK-clause-takes
returns-then-len-lt-MARK-clause-takes g c =
    let left = g.R.ScriptIn.left in
    let mark = c.in_ok-mark.mark.items in
    let some : 0 < length mark = first_of (search rules, grind (arith, common_steps), omega arith) in
    let short : length mark < 4 = first_of (search rules, omega arith, grind (arith, common_steps)) in
    took_short (left c.args.reader.now) (left c.read_body.new.reader) mark c.in_ok-mark.ensures.bytes (c.in_ok-mark.ensures.end short) (λ none. (let e : length mark ≡ 0 = ap (λ (l : List ℕ). length l) none in omega (arith, some, e))) short

pub returns-clause-takes : goal.returns-clause-takes
returns-clause-takes g c =
    let left = g.R.ScriptIn.left in
    let number = c.number_of.result in
    let small : number < 2 ^ 32 = first_of (omega arith, search rules) in
    let text : c.in_ok-mark.mark.items ≡ word number = sym c.deref.ensures.value ∙ c.number_of.ensures in
    let lost : Loses (left c.args.reader.now) (word number) (left c.read_body.new.reader) = subst (λ (l : List ℕ). Loses (left c.args.reader.now) l (left c.read_body.new.reader)) text c.in_ok-mark.ensures.bytes in
    marked_all c.take_marked.result number (left c.args.reader.now) (left c.read_body.new.reader) _ small lost c.take_marked.ensures.next
