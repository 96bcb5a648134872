use Rattle.std.proofs.Common.{◌≡◌, None, sym, ◌∙◌, ap}
use Rattle.std.specs.Option.{option_map}
use Rattle.scp_stand_slot.proofs.Empty.{none_found, none_there, none_mapped}
use Rattle.scp_stand_slot.proofs.machine.is_empty.Goals as goal

pub returns : goal.returns
returns c =
    let m = c.statements.result.now in (
      (λ yes v. sym (c.statements.ensures.pledges v) ∙ ap (option_map _) (none_found m (c.is_empty.ensures.0 yes) v)),
      λ none. c.is_empty.ensures.1 (none_there m (λ v. none_mapped _ _ (c.statements.ensures.pledges v ∙ none v))),
    )
