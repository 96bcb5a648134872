-- What travels between the nodes of a script whose stages run in threads.
use Rattle.std.specs.Prelude.{◌≡◌, ℕ, List, Some, slice_get}
use Rattle.scp_threaded_node.specs.scp_wire.specs.Shape.{of_peer}
use Rattle.scp_threaded_node.specs.scp_outbox.specs.declared.mark.Out.{Out}
use Rattle.scp_threaded_node.specs.scp_shared_outbox.specs.Places.{link_of}
use Rattle.scp_threaded_node.specs.scp_shared_outbox.specs.Table.{CameOut}
use Rattle.scp_threaded_node.specs.scp_theorem.specs.Grounds.{Grounds, IsSentOut}
use Rattle.scp_threaded_node.specs.scp_theorem.specs.Handed.{handed_by}
use Rattle.scp_threaded_node.specs.scp_ends.specs.Links.{LinkEnd}
use Rattle.scp_threaded_node.specs.scp_ends.specs.Order.{values}
use Rattle.scp_threaded_node.specs.scp_workers.specs.Carrying.{HasCarried}
use Rattle.scp_threaded_node.specs.scp_gather.specs.Sent.{bytes_among}
use Rattle.scp_threaded_node.specs.scp_gather.specs.Theirs.{AreTheirs}
use Rattle.scp_threaded_node.specs.scp_gather.specs.Kv.{Left, ArePutOut}
use Rattle.scp_threaded_node.specs.scp_gather.specs.Sending.{grounds_gathered}
use Rattle.scp_script.specs.declared.command.Command.{Command}
use Rattle.scp_script.specs.Nodes.{id_of, peers_of, set_at}
use Rattle.scp_script.specs.Script.{node_count}

-- the reasons that the node of this number has for what it may send, from what its threads left
abbrev pub grounds_at : List Command → ℕ → Left → Grounds
grounds_at commands number left = grounds_gathered (id_of number) (set_at number commands) (peers_of (node_count commands) number) left

-- what the stages of the node of this number handed out, and put into the outboxes of its links
abbrev pub PutBy : List Command → ℕ → Left → Type 0
PutBy commands number left = ArePutOut (id_of number) (set_at number commands) (peers_of (node_count commands) number) left

-- What went over the link from one node to another, from what the threads of both left. It is all that an outbox gave, in order, of exactly
-- what the sender's three stages handed out for the link, and exactly what the receiver's reader received.
-- So each message that went over, and each that the receiver's pending stage took, has its reason in what the sender took, wrote, decided and
-- applied. And each statement is newer than those before it of its slot and kind.
pub record Travels (commands : List Command) (from to : ℕ) (sender receiver : Left) (put : PutBy commands from sender) : Type 0 where
  pub gave : List Out
  pub came_out : CameOut (handed_by put.replies (link_of to from)) (handed_by put.said (link_of to from)) (handed_by put.answers (link_of to from)) gave
  pub link : LinkEnd
  pub there : slice_get receiver.links (link_of from to) ≡ Some link
  pub carried : HasCarried gave link
  pub sent : IsSentOut (grounds_at commands from sender) (link_of to from) (bytes_among link.tail.sent)
  pub theirs : AreTheirs (grounds_at commands from sender) (link_of to from) (of_peer (id_of from) (values receiver.pend.input.got))
