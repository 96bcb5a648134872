use Rattle.std.proofs.Common.{◌∙◌, ◌∷◌, [], List, map, ap}
use Rattle.scp_shown.specs.Parts.{entry_of}
use Rattle.scp_shown.specs.declared.part.Part.{Part}
use Rattle.scp_shown.proofs.Listing.{map_push}
use Rattle.scp_ledgers.specs.Entries.{is_within}
use Rattle.scp_ledgers.proofs.Entering.{cond_not, cond_is}
use Rattle.scp_ledgers.proofs.entries.add_entry.Goals as goal

pub returns-then-not-is_shown : goal.returns-then-not-is_shown
returns-then-not-is_shown c = cond_not (map entry_of c.args.parts.now.items) ((c.args.file, c.args.ledger.now) ∷ []) c.is_shown.result (is_within c.args.span c.args.ledger.now) c.is_shown.ensures c.if-not-is_shown.true

pub returns : goal.returns
returns c =
    cond_is (map entry_of c.args.parts.now.items) ((c.args.file, c.args.ledger.now) ∷ []) (map entry_of c.push.new.self.items) c.is_shown.result (is_within c.args.span c.args.ledger.now) c.is_shown.ensures c.if-not-is_shown.false
    (ap (λ (l : List Part). map entry_of l) c.in_ok-push.ensures.items ∙ map_push entry_of c.args.parts.now.items _)
