use Rattle.std.proofs.Common.{refl, string_bytes}
use Rattle.std.specs.BTreeMap as hash_map
use Rattle.scp_stand_slot.specs.Names.{hash_cmp}
use Rattle.scp_stand_slot.proofs.Named.{named_more, puts_text}
use Rattle.scp_stand_slot.proofs.names.Names.add.Goals as goal

pub returns-clause-added : goal.returns-clause-added
returns-clause-added c = λ sets nodes before.
    named_more sets nodes c.args.set.now c.in_ok-hash.hash (string_bytes c.in_ok-text.text) c.args.self.now _
    (puts_text string_bytes c.in_ok-hash.hash c.in_ok-text.text (hash_map.get hash_cmp c.args.self.now.sets) (hash_map.get hash_cmp c.insert.new.self) c.in_ok-insert.ensures.updates.0)
    refl c.in_ok-hash.ensures.digest c.in_ok-text.ensures.text before
