use Rattle.std.proofs.Common.{◌≡◌, min, length, take, rules}
use Rattle.scp_live_folder.specs.Folder.{with_now}
use Rattle.scp_test_folder.proofs.Contents.{cut_at_once}
use Rattle.scp_test_folder.proofs.memory.MemoryFolderFolder.cut.Goals as goal

pub returns-clause-crash : goal.returns-clause-crash
returns-clause-crash c =
    let end : c.min-end.result ≡ min c.args.length (length c.args.self.now.content.now) = search rules in
    let bytes : c.in_ok-now.now.items ≡ take c.min-end.result c.args.self.now.content.now = search rules in
    let made : c.put.new.self.content ≡ with_now c.in_ok-now.now.items c.args.self.now.content = search rules in
    cut_at_once c.args.length c.min-end.result c.in_ok-now.now.items c.args.self.now.content c.put.new.self.content end bytes made
