-- What holds without a watch.
use Rattle.std.proofs.Common.{ℕ, Bool, List, Option, Some, None}
use Rattle.std.specs.Prelude.{Result, Ok, Err, length}
use Rattle.scp_core.specs.declared.event.Event.{Event}
use Rattle.scp_core.specs.declared.event.Reply.{Reply}
use Rattle.scp_turn.specs.Heard.{Nodes, Heard, Anything, IsOne, With}
use Rattle.scp_turn.specs.Rounds.{RestsAs, Breaks}
use Rattle.scp_turn.specs.Network.{Hear, NetworkView, Offered, Settled}
use Rattle.scp_turn.proofs.Hearing.{hear_as}

alone : (Also Is : Nodes → List Heard → Nodes → Type 0) (a b : Nodes) → Hear a b (With Also Is) → Hear a b (With Anything Is)
alone Also Is a b h = hear_as a b (With Also Is) (With Anything Is) (λ heard p. (p.0, tt)) h

pub offered_alone : (Also : Nodes → List Heard → Nodes → Type 0) (old : NetworkView) (number : ℕ) (event : Event) (reply : Option Reply) (new : NetworkView) → Offered Also old number event reply new → Offered Anything old number event reply new
offered_alone Also old number event (Some reply) new o = (alone Also (IsOne (record { node = number; event = event; reply = reply })) old.nodes new.nodes o.0, o.1)
offered_alone Also old number event None new o = o

pub settled_alone : (Also : Nodes → List Heard → Nodes → Type 0) (driven : List Bool) (old : Nodes) (result : Result Bool ℕ) (new : Nodes) → Settled Also driven old result new → Settled Anything driven old result new
settled_alone Also driven old (Ok calm) new s = (alone Also (RestsAs driven (length old) calm) old new s.0, s.1)
settled_alone Also driven old (Err number) new s = alone Also (Breaks driven (length old) number) old new s
