use Rattle.scp_gather.proofs.Joining.{gathered}
use Rattle.scp_gather.proofs.laws.what_ends_well_is_gathered.Goals as goal

pub returns : goal.returns
returns g c = gathered g.D.Driver.says (record {
  ran = c.what_ran_keeps_the_ledger.ensures;
  in_order = c.what_is_read_keeps_the_shape.ensures;
  sent_is = c.what_is_read_is_what_was_sent.ensures;
  peers_say = c.parts_say_what_the_whole_says.ensures.peers;
  numbers = c.each_number_names_its_message.ensures.numbers;
  settled = c.what_has_nothing_ready_is_settled.ensures.settled;
  accounts = c.no_message_is_lost_or_overtaken.ensures.accounts;
  parked = c.what_is_parked_came.ensures.parked;
})
