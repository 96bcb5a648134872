-- What holds of a script holds of the script of its run.
use Rattle.std.proofs.Common.{◌≡◌, sym, subst}
use Rattle.std.specs.Prelude.{Result, Ok, Err, IfOk}
use Rattle.scp_script_check.specs.declared.reading.Script.{Script}
use Rattle.scp_notices.specs.declared.playing.Ran.{Ran}
use Rattle.scp_notices.specs.declared.playing.RunFault.{RunFault}
use Rattle.scp_notices.specs.declared.playing.Watched.{Watched}
use Rattle.scp_notices.specs.declared.threads.RanInThreads.{RanInThreads}

-- of a run, and of who watched it
pub run_keeps : {W : Type 0} (P : Script → Type 0) (script : Script) (r : Result (Watched W) RunFault) → IfOk r (λ played. played.ran.script ≡ script) → P script → IfOk r (λ played. P played.ran.script)
run_keeps {W} P script (Ok played) same holds = subst P (sym same) holds
run_keeps {W} P script (Err fault) same holds = tt

-- its nodes
pub run_holds : {W : Type 0} (P : Script → Ran → Type 0) (script : Script) (r : Result (Watched W) RunFault) → IfOk r (λ played. played.ran.script ≡ script) → IfOk r (λ played. P script played.ran) → IfOk r (λ played. P played.ran.script played.ran)
run_holds {W} P script (Ok played) same holds = subst (λ (s : Script). P s played.ran) (sym same) holds
run_holds {W} P script (Err fault) same holds = tt

-- of a run in threads
pub threads_keep : (P : Script → Type 0) (script : Script) (r : Result RanInThreads RunFault) → IfOk r (λ ran. ran.script ≡ script) → P script → IfOk r (λ ran. P ran.script)
threads_keep P script (Ok ran) same holds = subst P (sym same) holds
threads_keep P script (Err fault) same holds = tt
