use Rattle.scp_kv.proofs.Bytes.{IsWriting}
use Rattle.scp_kv.proofs.state.KvState.encode.Given as goal

-- what is no longer left is written
abbrev pub invariant-loop-key : goal.invariant-loop-key
invariant-loop-key l = IsWriting l.initial.key-iterator l.key-iterator l.writer
