use Rattle.std.proofs.Common.{rules, ◌≡◌, ◌≢◌, [], ◌∙◌, sym, ap, length}
use Rattle.std.proofs.lemmas.List.{nil_from_length}
use Rattle.scp_kv.specs.Saved.{state_of}
use Rattle.scp_driver.specs.KvLaws.{none_say_the_empty_map}
use Rattle.scp_driver.proofs.Bases.{refused_by}
use Rattle.scp_driver.proofs.kv_driver.KvDriverApplication.begin.Goals as goal

pub returns-then-is_empty-clause-begun : goal.returns-then-is_empty-clause-begun
returns-then-is_empty-clause-begun c =
    let zero : length c.args.bytes.now ≡ 0 = search rules in
    let none : c.args.bytes.now ≡ [] = nil_from_length c.args.bytes.now zero in
    c.new.ensures ∙ sym none_say_the_empty_map ∙ ap state_of (sym none)

pub returns-clause-refused : goal.returns-clause-refused
returns-clause-refused c =
    let some : c.args.bytes.now ≢ [] = search rules in
    refused_by c.the_bytes_of_a_state_are_its_own.ensures.only c.args.bytes.now c.decode.result some c.decode.ensures.exact
