use Rattle.std.proofs.Common.{◌≡◌, ◌∙◌, List, ℕ, take, drop, length, ◌-◌, subst}
use Rattle.scp_device.specs.Device.{Gains, GainsPart}
use Rattle.scp_prompt.proofs.DeviceLemmas.{gains-more, gains_part-more, front_and_rest}
use Rattle.scp_prompt.proofs.bytes.write_bytes.Goals as goal

pub loop-rest-preserved : goal.loop-rest-preserved
loop-rest-preserved g c =
    let written = g.W.ReportOut.written in
    let rest = c.loop-rest.rest.now in
    let count = c.in_ok-count.count in
    let back : List ℕ = take (length rest - count) (drop count rest) in
    record {
      leads = λ end h.
          let more : Gains (written c.write.new.self) back end = h in
          c.loop-rest.invariant.leads end
          (subst (λ (l : List ℕ). Gains (written c.loop-rest.writer) l end) (front_and_rest count rest)
          (gains-more (written c.loop-rest.writer) (written c.write.new.self) end (take count rest) back c.in_ok-count.ensures.bytes more));
      parted = λ end h.
          let more : GainsPart (written c.write.new.self) back end = h in
          c.loop-rest.invariant.parted end
          (subst (λ (l : List ℕ). GainsPart (written c.loop-rest.writer) l end) (front_and_rest count rest)
          (gains_part-more (written c.loop-rest.writer) (written c.write.new.self) end (take count rest) back c.in_ok-count.ensures.bytes more));
      failures = c.in_ok-count.ensures.kept ∙ c.loop-rest.invariant.failures;
    }
