use Rattle.std.proofs.Common.{◌≡◌, ◌++◌, ◌∷◌, []}
use Rattle.scp_ledger.specs.inside.State.{IsSound}
use Rattle.scp_ledger.proofs.Stated.{on_ok, sound_passed}
use Rattle.scp_ledger.proofs.state.State.pass_entry.Goals as goal

pub returns-clause-sound : goal.returns-clause-sound
returns-clause-sound g c =
    let old = c.args.self.now in
    let new = c.pass.new.self in
    on_ok c.pass.result (new.journal.items ≡ old.journal.items ++ c.args.fate ∷ []) (IsSound g.D.Driver.says.level g.D.Driver.says.place new)
    (λ journal. sound_passed g.D.Driver.says.level g.D.Driver.says.extracted g.D.Driver.says.combined g.D.Driver.says.place old new c.args.fate c.requires.sound c.requires.quiet c.requires.room journal c.pass.ensures.decisions c.pass.ensures.rest c.pass.ensures.window) c.pass.ensures.journal
