-- What is answered to a script of which the account is asked for.
use Rattle.std.proofs.Common.{◌≡◌, ◌∙◌, inl, inr, refl, ℕ, true, false, List, [], map, string_bytes}
use Rattle.std.specs.Prelude.{◌≢◌, ◌⊎◌, All, None, Result, Ok, Err, IfErr, IfOk}
use Rattle.scp_script_short.specs.scp_types.specs.declared.fault.Fault.{Fault}
use Rattle.scp_script_short.specs.scp_types.specs.declared.fault.Fault.TheVariants as faults
use Rattle.scp_notices.specs.scp_gather.specs.Kv.{NodeReport}
use Rattle.scp_notices.specs.scp_turn.specs.Network.{NetworkView}
use Rattle.scp_script_hints.specs.scp_script.specs.declared.command.Command.{Command}
use Rattle.scp_notices.specs.scp_line.specs.declared.playing.PlayFault.{PlayFault}
use Rattle.scp_notices.specs.scp_threaded_script.specs.Reported.{AreNodesReported, AreAllKept}
use Rattle.scp_draw.specs.scp_facts.specs.declared.happening.Kept.{Kept}
use Rattle.scp_draw.specs.scp_facts.specs.Keeping.{WatchView}
use Rattle.scp_account.specs.Run.{IsKept, keeping, RunIsKept}
use Rattle.scp_notices.specs.scp_line.specs.declared.watch.Steps.{Steps}
use Rattle.scp_notices.specs.scp_report.specs.Report.{ReportView}
use Rattle.scp_notices.specs.scp_report.specs.Node.{reports_of}
use Rattle.scp_notices.specs.scp_line.specs.Left.{reports_left}
use Rattle.scp_account.specs.declared.node.Mode.TheVariants as ways
use Rattle.scp_account.specs.Account.{account_text}
use Rattle.scp_account.specs.Fits.{FitsNode}
use Rattle.scp_convert.specs.scp_prompt.specs.declared.asked.Mode.{Mode}
use Rattle.scp_convert.specs.scp_prompt.specs.declared.asked.Mode.TheVariants.{Serial, Threads}
use Rattle.scp_convert.specs.scp_prompt.specs.declared.asked.Shape.{Shape}
use Rattle.scp_convert.specs.scp_prompt.specs.declared.asked.Task.TheVariants.{Run, Account}
use Rattle.scp_convert.specs.scp_prompt.specs.declared.failure.Failure.{Failure}
use Rattle.scp_convert.specs.scp_prompt.specs.declared.failure.Failure.TheVariants.{NoMemory}
use Rattle.scp_notices.specs.scp_script_check.specs.declared.reading.Script.{Script}
use Rattle.scp_notices.specs.scp_script_check.specs.Lines.{IsSaid}
use Rattle.scp_notices.specs.declared.notice.Notice.{Notice}
use Rattle.scp_notices.specs.Run.{IsRan, IsWatched, Shows}
use Rattle.scp_notices.specs.Texts.{notices_text}
use Rattle.scp_notices.specs.Threads.{IsRanInThreads}
use Rattle.scp_command.specs.declared.answer.Answer.{Answer}
use Rattle.scp_command.specs.declared.given.Given.{Given}
use Rattle.scp_command.specs.Given.{IsGiven, stop_of}
use Rattle.scp_command.specs.Answers.{placed_notice, IsAccountAnswer, IsThreadsAccount}
use Rattle.scp_command.specs.Causes.{Fails}
use Rattle.scp_command.specs.inside.Runs.{IsUntold}

-- what was kept of a run whose notices are told
pub kept_of : RunIsKept → (commands : List Command) (lines : List ℕ) (network : NetworkView) (notices : List Notice) (shows : Shows commands lines network notices) (old new : Steps WatchView) → old.watch.kept ≡ [] → new.watch.lacks_memory ≡ false → IsWatched keeping commands lines network notices shows old new
    → (is : IsKept commands network new.watch.kept) × (is.played.heard ≡ shows.run.played.heard)
kept_of law commands lines network notices shows old new none calm watched =
    let kept = law commands lines network old new calm none watched.run in
    (kept.0, kept.1 ∙ watched.one)

-- of a script that was played one step after another
pub account_answer : (input : List ℕ) (given : Given) (script : Script) (network : NetworkView) (notices : List Notice) (kept : List Kept) (text : List ℕ) (r : Result Answer Failure) → IsGiven input given → (ran : IsRan given.text.items script network notices) → (is : IsKept script.commands.items network kept) × (is.played.heard ≡ ran.shows.run.played.heard)
    → text ≡ account_text ways.Serial (reports_of network.nodes) kept → IfOk r (λ answer. answer.text.items ≡ text) → IfOk r (λ answer. string_bytes answer.notices ≡ notices_text (map (placed_notice given.expanded.lines) notices)) → IfOk r (IsAccountAnswer input)
account_answer input given script network notices kept text (Ok answer) g ran made is same told = record {
  given = given;
  is_given = g;
  script = script;
  network = network;
  notices = notices;
  ran = ran;
  kept = kept;
  is_kept = made.0;
  one = made.1;
  account = same ∙ is;
  told = told;
}
account_answer input given script network notices kept text (Err failure) g ran made is same told = tt

-- of one whose nodes ran in threads
pub threads_account : (input : List ℕ) (given : Given) (script : Script) (nodes : List NodeReport) (notices : List Notice) (text : List ℕ) (r : Result Answer Failure) → IsGiven input given → IsRanInThreads given.text.items script nodes notices → AreAllKept true nodes → text ≡ account_text ways.Threads (reports_left script.commands.items nodes []) []
    → IfOk r (λ answer. answer.text.items ≡ text) → IfOk r (λ answer. string_bytes answer.notices ≡ notices_text (map (placed_notice given.expanded.lines) notices)) → IfOk r (IsThreadsAccount input)
threads_account input given script nodes notices text (Ok answer) g ran kept is same told = record { given = given; is_given = g; script = script; nodes = nodes; notices = notices; ran = ran; kept = kept; account = same ∙ is; told = told }
threads_account input given script nodes notices text (Err failure) g ran kept is same told = tt

-- ---- why there is none

-- want of memory, or another fault
is_want : (fault : Fault) → (fault ≡ faults.NoMemory) ⊎ (fault ≢ faults.NoMemory)
is_want faults.NoMemory = inl refl
is_want (faults.Malformed a) = inr (λ e. cc)
is_want faults.TooLong = inr (λ e. cc)
is_want faults.Insane = inr (λ e. cc)
is_want faults.Full = inr (λ e. cc)
is_want faults.NotOpen = inr (λ e. cc)
is_want faults.AlreadyOpen = inr (λ e. cc)
is_want faults.LivesSpent = inr (λ e. cc)
is_want faults.BadConfig = inr (λ e. cc)
is_want faults.Failed = inr (λ e. cc)
is_want faults.JournalFull = inr (λ e. cc)
is_want (faults.BadScript a) = inr (λ e. cc)
is_want (faults.Refused a) = inr (λ e. cc)
is_want faults.Device = inr (λ e. cc)

-- the failure of a fault
told_so : {P : Type 0} (fault : PlayFault) (failure : Failure) → (fault.fault ≢ faults.NoMemory → failure ≡ stop_of None fault) → (fault.fault ≡ faults.NoMemory → failure ≡ NoMemory) → (fault.fault ≢ faults.NoMemory → P) → (failure ≡ NoMemory) ⊎ (P × (failure ≡ stop_of None fault))
told_so {P} fault failure stop want holds = elim (is_want fault.fault) [
  | inl e ↦ inl (want e)
  | inr other ↦ inr (holds other, stop other)
]

-- nodes have no account
pub nodes_untold : (reports : List ReportView) (fault : PlayFault) (failure : Failure) → (fault.fault ≢ faults.NoMemory → failure ≡ stop_of None fault) → (fault.fault ≡ faults.NoMemory → failure ≡ NoMemory) → (All FitsNode reports → fault.fault ≡ faults.NoMemory) → IsUntold reports failure
nodes_untold reports fault failure stop want only = elim (told_so {P = ¬ (All FitsNode reports)} fault failure stop want (λ other. λ fits. other (only fits))) [
  | inl e ↦ inl e
  | inr unfit ↦ inr (fault, unfit.0, unfit.1)
]

-- what keeps a script from being played keeps it from being told
pub not_run : (mode : Mode) (shape : Shape) (input : List ℕ) (failure : Failure) → Fails (Run mode shape) input failure → Fails (Account mode) input failure
not_run mode shape input failure (inl bad) = inl bad
not_run mode shape input failure (inr stopped) = inr (inl stopped)

-- so does what follows the play
pub not_told : (input : List ℕ) (given : Given) (commands : List Command) (lines : List ℕ) (network : NetworkView) (kept : List Kept) (failure : Failure) → IsGiven input given → IsSaid given.text.items commands lines → IsKept commands network kept → IsUntold (reports_of network.nodes) failure → Fails (Account Serial) input failure
not_told input given commands lines network kept failure g said is (inl e) = inl (inl e)
not_told input given commands lines network kept failure g said is (inr unfit) = inr (inr (record {
  given = given;
  is_given = g;
  commands = commands;
  lines = lines;
  said = said;
  fault = unfit.0;
  of_stop = unfit.2;
  unfit = inl (network, kept, is, unfit.1);
}))

-- and in threads
pub threads_not_told : (input : List ℕ) (given : Given) (commands : List Command) (lines : List ℕ) (nodes : List NodeReport) (failure : Failure) → IsGiven input given → IsSaid given.text.items commands lines → AreNodesReported commands nodes → IsUntold (reports_left commands nodes []) failure → Fails (Account Threads) input failure
threads_not_told input given commands lines nodes failure g said reported (inl e) = inl (inl e)
threads_not_told input given commands lines nodes failure g said reported (inr unfit) = inr (inr (record {
  given = given;
  is_given = g;
  commands = commands;
  lines = lines;
  said = said;
  fault = unfit.0;
  of_stop = unfit.2;
  unfit = inr (nodes, reported, unfit.1);
}))

-- want of memory is one reason
pub want_fails : (mode : Mode) (input : List ℕ) (r : Result Answer Failure) → IfErr r (λ failure. failure ≡ NoMemory) → IfErr r (Fails (Account mode) input)
want_fails mode input (Ok answer) e = tt
want_fails mode input (Err failure) e = inl (inl e)
