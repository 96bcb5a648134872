use Rattle.std.proofs.Common.{refl}
use Rattle.scp_apply.proofs.Applying.{buffered}
use Rattle.scp_apply.proofs.slots.Slots.enter.Goals as goal

pub advance-requires : goal.advance-requires
advance-requires g c = record { is_applied = buffered c.args.self.now _ c.args.decision c.requires.sound c.requires.in_window refl refl c.in_ok-push.ensures.items }
