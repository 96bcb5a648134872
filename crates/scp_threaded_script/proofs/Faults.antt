-- Why something wasn't done on a link, as a line's fault.
use Rattle.std.proofs.Common.{◌≡◌, ◌≢◌, ◌∙◌, ℕ, Bool, true, false, sym, subst, Option, None, Some, nat_eq}
use Rattle.std.specs.Prelude.{if◌then◌else◌}
use Rattle.scp_threaded_node.specs.scp_types.specs.declared.fault.Fault.{Fault}
use Rattle.scp_threaded_node.specs.scp_types.specs.declared.fault.Fault.TheVariants.{AlreadyOpen, LivesSpent, NotOpen, Refused}
use Rattle.scp_threaded_node.specs.scp_types.specs.declared.fault.Stage.{Stage}
use Rattle.scp_threaded_node.specs.scp_ends.specs.Links.{LinkEnd, stands}
use Rattle.scp_threaded_node.specs.declared.acting.Act.{Act}
use Rattle.scp_threaded_node.specs.declared.acting.Act.TheVariants.{Open, Close, Send}
use Rattle.scp_threaded_node.specs.declared.node.Tail.{Tail}
use Rattle.scp_threaded_node.specs.declared.node.Tail.TheVariants.{Host, Courier}
use Rattle.scp_threaded_node.specs.Acting.{cannot, IsActFault, IsRefusedFor}
use Rattle.scp_threaded_script.specs.Reported.{IsLineFault, IsOneOf}

-- what a link can't do is told by no stage
abbrev IsNoStage : Option Fault → Type 0
IsNoStage None = Unit {0}
IsNoStage (Some fault) = (s : Stage) → fault ≢ Refused s

cannot_open_so : (open' spent : Bool) → IsNoStage (if open' then Some AlreadyOpen else (if spent then Some LivesSpent else None))
cannot_open_so true spent = λ s e. cc
cannot_open_so false true = λ s e. cc
cannot_open_so false false = tt

cannot_send_so : (open' : Bool) → IsNoStage (if open' then None else Some NotOpen)
cannot_send_so true = tt
cannot_send_so false = λ s e. cc

no_stage : (act : Act) (k : LinkEnd) → IsNoStage (cannot act k)
no_stage Open k = cannot_open_so (stands k).is_open (nat_eq (stands k).life 65535)
no_stage Close k = cannot_send_so (stands k).is_open
no_stage (Send bytes) k = cannot_send_so (stands k).is_open

by_reader : (count node : ℕ) (o : Option Fault) (fault : Fault) (stage : Stage) → IsNoStage o → fault ≡ Refused stage → IsOneOf count node → IsRefusedFor o fault → IsLineFault count node fault
by_reader count node None fault stage none is one told = subst (IsLineFault count node) (sym told) one
by_reader count node (Some why) fault stage none is one told = absurd (none stage (sym told ∙ is))

-- a stage's fault is that the link's reader is gone
pub reader_gone : (count node : ℕ) (act : Act) (tail : Tail) (fault : Fault) (stage : Stage) → fault ≡ Refused stage → IsOneOf count node → IsActFault act tail fault → IsLineFault count node fault
reader_gone count node act (Host k) fault stage is one told = by_reader count node (cannot act k) fault stage (no_stage act k) is one told
reader_gone count node act (Courier thread) fault stage is one told = absurd told
