use Rattle.std.proofs.Common.{◌≡◌, ◌++◌, [], map}
use Rattle.scp_judged.specs.Named.{set_in}
use Rattle.scp_judged.specs.Verdicts.{AreVerdicts, heard_of}
use Rattle.scp_judged.specs.inside.Newest.{KeepsLast}
use Rattle.scp_judged.specs.inside.Judging.{envelopes_of, verdicts_of}
use Rattle.scp_judged.proofs.messages.judge.Given as goal

-- those so far are judged, and with what is left they are all
abbrev pub invariant-loop-envelope : goal.invariant-loop-envelope
invariant-loop-envelope l = record {
  keeps : KeepsLast l.newest (map heard_of l.judged.counting.items);
  same : envelopes_of l.judged ≡ l.yielded;
  verdicts : AreVerdicts (set_in l.sets) l.slot.0 [] (map (λ e. e.statement) l.yielded) (verdicts_of l.judged) (map heard_of l.judged.counting.items);
  rest : l.fn.messages.items ≡ l.yielded ++ l.envelope-iterator.rest.items;
}
