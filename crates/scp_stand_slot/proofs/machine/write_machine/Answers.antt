use Rattle.std.proofs.Common.{◌≡◌, ◌++◌, ℕ, List, string_bytes, refl, sym, ◌∙◌, ap, subst}
use Rattle.std.specs.Prelude.{is_some}
use Rattle.scp_slot.specs.scp_nominate.specs.Nomination.{Nomination, nomination}
use Rattle.scp_slot.specs.Slot.{slot_view}
use Rattle.scp_stand_slot.specs.Machine.{said_lines, needs_lines, machine_lines}
use Rattle.scp_stand_slot.specs.inside.Facts.{facts_of}
use Rattle.scp_stand_slot.proofs.Ways.{then_ok, joined}
use Rattle.scp_stand_slot.proofs.machine.write_machine.Goals as goal

pub returns-clause-added : goal.returns-clause-added
returns-clause-added c =
    let p = c.args.place in
    let f = facts_of c.in_ok-shown.shown in
    let n = nomination c.in_ok-shown.shown.nominator.now in
    let lines : Nomination → List ℕ = λ k. machine_lines c.args.names.now c.args.me p.members.now p.slot k f in
    then_ok c.write_what_is_needed.result c.write_what_is_needed.ensures.added (λ e. (
      lines n,
      joined (string_bytes c.args.out.now) (string_bytes c.write_what_is_said.new.out) (string_bytes c.write_what_is_needed.new.out) (said_lines c.args.names.now c.args.me p.slot n f) (needs_lines c.args.names.now c.args.me p.members.now p.slot (is_some n.proposal) f) c.in_ok-write_what_is_said.ensures.added e,
      (f, c.in_ok-shown.ensures.facts, ap lines c.in_ok-shown.ensures.nomination),
    ))
