use Rattle.std.proofs.Common.{rules, ◌≡◌, ◌++◌, ap, refl}
use Rattle.std.specs.Prelude.{Option, Some, option_to_list}
use Rattle.scp_theorem.specs.scp_wire.specs.declared.link.Inbound.{Inbound}
use Rattle.scp_core.proofs.link.Link.give.Goals as goal

pub returns-in-Some : goal.returns-in-Some
returns-in-Some c =
    let first : c.self.inside.hand ≡ Some c.in-Some.item = search rules in (
      search rules,
      c.self.inside.reader.rest,
      rw (← c.self.view_is) (ap (λ (hand : Option Inbound). option_to_list hand ++ c.self.inside.reader.rest) first),
      rw (← c.self.view_is, c.rest.ensures.same, c.rest.ensures.gives) refl,
    )
