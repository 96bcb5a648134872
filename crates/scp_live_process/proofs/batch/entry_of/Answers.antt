use Rattle.std.proofs.Common.{◌≡◌, length, subst, sym}
use Rattle.scp_batches.specs.scp_live_log.specs.Log.{IsEntry}
use Rattle.scp_live_process.proofs.batch.entry_of.Goals as goal

pub returns-clause-entry : goal.returns-clause-entry
returns-clause-entry c =
    let size : length c.args.sent.0 ≡ 32 = search (c.well_formed) in
    subst IsEntry (sym c.new.ensures) (record { line = c.requires.line; sent = record { size = size; bytes = c.are_bytes.ensures } })
