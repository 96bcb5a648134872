use Rattle.scp_line.proofs.Fates.{fates_are_of_lines, reported_are_of_lines}
use Rattle.scp_line.proofs.Given.{lines_are_given}
use Rattle.scp_line.proofs.laws.each_fate_is_of_its_command.Goals as goal

pub returns : goal.returns
returns c = record {
  given = lines_are_given;
  played = fates_are_of_lines c.each_command_is_taken_in_its_turn.ensures.run;
  reported = reported_are_of_lines;
}
