use Rattle.std.proofs.lemmas.Result.{on_ok_weaker}
use Rattle.scp_core.proofs.Putting.{all_put_out, box_fits}
use Rattle.scp_core.proofs.handing.hand_to_all.Goals as goal

pub of-fitting-requires : goal.of-fitting-requires
of-fitting-requires c = record { fits = box_fits c.args.envelope c.from_shared-boxed.result c.from_shared-boxed.ensures.same c.requires.fits }

pub returns : goal.returns
returns c = record { hands = on_ok_weaker c.put_all.result (λ h. all_put_out c.args.outboxes.now c.put_all.new.self c.args.envelope c.from_shared-boxed.result c.of-fitting.result c.from_shared-boxed.ensures.same c.of-fitting.ensures.same h) c.put_all.ensures.puts }
