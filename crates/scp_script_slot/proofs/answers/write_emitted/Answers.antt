use Rattle.std.proofs.Common.{[], refl, sym, string_bytes}
use Rattle.std.proofs.lemmas.List.{append-nil}
use Rattle.scp_script_slot.proofs.answers.write_emitted.Goals as goal

pub returns-in_ok-write_envelope-in-Some : goal.returns-in_ok-write_envelope-in-Some
returns-in_ok-write_envelope-in-Some c = rw c.in-Some.is (rw c.get.ensures at c.in_ok-write_envelope-in-Some.ensures)

pub returns-in-None : goal.returns-in-None
returns-in-None c = rw c.in-None.is ([], refl, sym (append-nil (string_bytes c.args.out.now)))
