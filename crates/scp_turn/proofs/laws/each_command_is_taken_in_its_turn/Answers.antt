use Rattle.scp_turn.proofs.Taking.{more_in_turn, all_in_turn}
use Rattle.scp_turn.proofs.laws.each_command_is_taken_in_its_turn.Goals as goal

pub returns : goal.returns
returns g c =
    let keeps = c.what_holds_of_a_past_holds_with_one_step_more.ensures.keeps in
    let law = c.each_step_takes_commands_in_turn.ensures in
    record { more = more_in_turn g.D.Driver.says keeps law.step; run = all_in_turn g.D.Driver.says keeps law.none law.step }
