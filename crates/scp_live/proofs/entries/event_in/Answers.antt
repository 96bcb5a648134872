use Rattle.std.proofs.Common.{ℕ, List, subst, string_bytes}
use Rattle.std.specs.Prelude.{map}
use Rattle.scp_live_lines.specs.declared.asked.Asked.{Asked}
use Rattle.scp_live_lines.specs.declared.asked.Asked.TheVariants.{Event}
use Rattle.scp_live_lines.specs.Says.{Says}
use Rattle.scp_live.proofs.Replaying.{asks_else, says_nothing}
use Rattle.scp_live.proofs.entries.event_in.Goals as goal

pub returns-in-Err-Bad-clause-none : goal.returns-in-Err-Bad-clause-none
returns-in-Err-Bad-clause-none c = says_nothing c.in-Err-Bad.field-0 _ (map string_bytes c.names.result.now) c.args.live.now.names c.args.line.now c.in-Err-Bad.field-0-is c.names.ensures c.in-Err-Bad.ensures.says_nothing

pub returns-in-Event-clause-says : goal.returns-in-Event-clause-says
returns-in-Event-clause-says c =
    let read = subst (λ (asked : Asked). Says (map string_bytes c.names.result.now) c.args.line.now asked) c.in-Event.is c.in-Ok.ensures.read in
    subst (λ (names : List (List ℕ)). Says names c.args.line.now (Event c.in-Event.event)) c.names.ensures read

pub returns-in_default-clause-none : goal.returns-in_default-clause-none
returns-in_default-clause-none c = asks_else c.in-Ok.said (map string_bytes c.names.result.now) c.args.live.now.names c.args.line.now c.names.ensures c.in-Ok.ensures.read c.in_default.not-Event
