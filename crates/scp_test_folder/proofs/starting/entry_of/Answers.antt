use Rattle.std.proofs.Common.{◌≡◌, length, subst, sym, rules}
use Rattle.scp_live_head.specs.scp_live_log.specs.Log.{IsEntry}
use Rattle.scp_test_folder.proofs.starting.entry_of.Goals as goal

pub returns : goal.returns
returns c =
    let size : length c.args.sent.0 ≡ 32 = search rules in
    record { entry = subst IsEntry (sym c.new.ensures) (record { line = c.requires.line; sent = record { size = size; bytes = c.are_bytes.ensures } }) }
