use Rattle.scp_theorem.proofs.Keeping.{ran_keeps_ledger}
use Rattle.scp_theorem.proofs.laws.what_ran_keeps_the_ledger.Goals as goal

pub returns : goal.returns
returns g c = ran_keeps_ledger (record {
  in_order = c.what_is_read_keeps_the_shape.ensures;
  sent_is = c.what_is_read_is_what_was_sent.ensures;
  front = c.a_beginning_keeps_the_shape.ensures.front;
  of_peer = c.a_beginning_keeps_the_shape.ensures.peer;
  parts = c.parts_say_what_the_whole_says.ensures.parts;
  lanes = c.parts_say_what_the_whole_says.ensures.lanes;
  peers = c.parts_say_what_the_whole_says.ensures.peers;
  numbers = c.each_number_names_its_message.ensures.numbers;
  others = c.each_number_names_its_message.ensures.others;
  lanes_sent = c.a_lane_follows_what_was_sent.ensures.lanes;
  follows = c.a_lane_follows_what_was_sent.ensures.follows;
  accounts = c.no_message_is_lost_or_overtaken.ensures.accounts;
  exits = c.each_connection_ends_by_its_cause.ensures.exits;
  causes = c.each_fate_has_its_cause.ensures.causes;
  commands = c.each_command_passes_once.ensures.commands;
  places = c.each_command_keeps_its_place.ensures.place;
  passing = c.no_lane_delays_another.ensures.place;
  led = c.no_lane_delays_another.ensures.led;
  links = c.nothing_is_of_a_stranger.ensures.links;
  parked = c.what_is_parked_came.ensures.parked;
  live = c.what_is_live_is_so_by_its_place.ensures.places;
}) g.D.Driver.says.level g.D.Driver.says.extracted g.D.Driver.says.combined g.D.Driver.says.place
