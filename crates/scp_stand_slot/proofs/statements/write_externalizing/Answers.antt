use Rattle.std.proofs.Common.{◌∷◌, [], string_bytes}
use Rattle.std.specs.Prelude.{codes}
use Rattle.std.specs.Fmt.{decimal}
use Rattle.scp_text.specs.Messages.{externalize_words}
use Rattle.scp_stand_slot.specs.Names.{node_name, name_of}
use Rattle.scp_stand_slot.proofs.Words.{after_words}
use Rattle.scp_stand_slot.proofs.statements.write_externalizing.Goals as goal

pub returns-clause-added : goal.returns-clause-added
returns-clause-added c =
    let p = c.args.p.now in
    after_words c.write_externalize.result (string_bytes c.args.out.now) (string_bytes c.write_front.new.out) (string_bytes c.write_externalize.new.out) (codes "externalize") (node_name c.args.names.now c.args.node ∷ decimal c.args.slot ∷ name_of c.args.names.now p.set_hash ∷ []) (externalize_words p) c.in_ok-write_front.ensures.added c.write_externalize.ensures.added
