-- What a watch told of a run is what is told of it.
use Rattle.std.proofs.Common.{◌≡◌, ◌∙◌, ◌++◌, [], ℕ, List, false, sym, ap, subst, inl, inr}
use Rattle.std.specs.Prelude.{◌≢◌, Option, None, Some, Result, Ok, Err, IfOk, string_bytes}
use Rattle.scp_line.specs.scp_types.specs.declared.fault.Fault.{Fault}
use Rattle.scp_line.specs.scp_types.specs.declared.fault.Fault.TheVariants.{NoMemory}
use Rattle.scp_line.specs.scp_core.specs.Kv.{TheoremGivesLedger}
use Rattle.scp_line.specs.scp_turn.specs.Network.{NetworkView}
use Rattle.scp_line.specs.scp_script.specs.declared.command.Command.{Command}
use Rattle.scp_line.specs.scp_script.specs.Script.{AreAdmitted}
use Rattle.scp_line.specs.declared.playing.PlayFault.{PlayFault}
use Rattle.scp_line.specs.declared.player.Stopped.{Stopped as StoppedAt}
use Rattle.scp_line.specs.Player.{IsRun as IsRunOf, IsStoppedBy}
use Rattle.scp_line.proofs.Runs.{run_as, cut_as}
use Rattle.scp_script_check.specs.declared.warning.Warning.{Warning}
use Rattle.scp_script_check.specs.Warnings.{AreWarnings}
use Rattle.scp_script_check.specs.Texts.{warnings_text}
use Rattle.scp_stand_node.specs.scp_stand_slot.specs.declared.names.Names.{Names}
use Rattle.scp_stand_node.specs.scp_stand_slot.specs.Names.{AreNames}
use Rattle.scp_trace_text.specs.scp_facts.specs.Watching.{StepIsTold}
use Rattle.scp_trace.specs.declared.depth.Depth.{Depth}
use Rattle.scp_trace.specs.declared.playing.Traced.{Traced}
use Rattle.scp_trace.specs.declared.tracing.TraceWatch.{TraceWatch}
use Rattle.scp_trace.specs.Standing.{IsEnd}
use Rattle.scp_trace.specs.Playing.{moment_at}
use Rattle.scp_trace.specs.Traced.{facts_part, IsTracedTo}
use Rattle.scp_trace.specs.inside.Tracing.{held, lacks, tracing}
use Rattle.scp_trace.proofs.Pieces.{so_far, all_whole, cut_off}
use Rattle.scp_trace.proofs.Telling.{tracer, notes_as}

-- all lines were played: the end and the warnings were added
pub whole_told : TheoremGivesLedger → StepIsTold → (depth : Depth) (names : Names) (commands : List Command) (lines before : List ℕ) (network : NetworkView) (old new : TraceWatch) (traced : Traced) → AreAdmitted [] commands → AreNames commands names → held old ≡ so_far depth names commands [] [] → lacks new ≡ false → (run : IsRunOf tracer commands lines network old new) → before ≡ string_bytes new.text
    → (ending : List ℕ) × (found : List Warning) × IsEnd false names commands (moment_at run.played.heard network) ending × AreWarnings commands lines found × (string_bytes traced.text ≡ before ++ ending ++ warnings_text found) × (traced.fault ≡ None)
    → (names : Names) × AreNames commands names × IsTracedTo depth traced.fault names commands lines (string_bytes traced.text)
whole_told ledger law depth names commands lines before network old new traced admitted named begun calm run same told =
    let settled = run_as tracer lacks tracing held (notes_as law) commands lines network old new run calm in
    let text = told.4 ∙ ap (λ (l : List ℕ). l ++ told.0 ++ warnings_text told.1) same in
    (names, named, subst (λ (f : Option PlayFault). IsTracedTo depth f names commands lines (string_bytes traced.text)) (sym told.5) (all_whole ledger depth names commands lines (string_bytes traced.text) told.0 network (held old) (held new) told.1 admitted begun settled told.2 told.3 text))

-- a line wasn't done: the facts of what its nodes did yet were added
pub cut_told : TheoremGivesLedger → StepIsTold → (depth : Depth) (names : Names) (commands : List Command) (lines text : List ℕ) (network : NetworkView) (old new : TraceWatch) (stopped : StoppedAt) → AreAdmitted [] commands → AreNames commands names → held old ≡ so_far depth names commands [] [] → lacks new ≡ false → stopped.fault.fault ≢ NoMemory → IsStoppedBy tracer commands lines network old new stopped
    → text ≡ string_bytes new.text ++ facts_part new.depth new.names.now stopped.line network.nodes new.facts.tellings → (names : Names) × AreNames commands names × IsTracedTo depth (Some stopped.fault) names commands lines text
cut_told ledger law depth names commands lines text network old new stopped admitted named begun calm other (inl want) is = absurd (other want.0)
cut_told ledger law depth names commands lines text network old new stopped admitted named begun calm other (inr cut) is =
    (names, named, cut_off ledger depth names commands lines text network (held old) (held new) stopped admitted begun (cut_as tracer lacks tracing held (notes_as law) commands lines network old new stopped cut calm) is)

-- ---- the same of a script, whose commands and numbers these are

-- all lines were played
pub whole_of_script : TheoremGivesLedger → StepIsTold → (depth : Depth) (names : Names) (commands cs : List Command) (lines ls before : List ℕ) (network : NetworkView) (old new : TraceWatch) (traced : Traced) → cs ≡ commands → ls ≡ lines → AreAdmitted [] commands → AreNames cs names → held old ≡ so_far depth names cs [] [] → lacks new ≡ false → (run : IsRunOf tracer cs ls network old new) → before ≡ string_bytes new.text
    → (ending : List ℕ) × (found : List Warning) × IsEnd false names cs (moment_at run.played.heard network) ending × AreWarnings commands lines found × (string_bytes traced.text ≡ before ++ ending ++ warnings_text found) × (traced.fault ≡ None)
    → (names : Names) × AreNames commands names × IsTracedTo depth traced.fault names commands lines (string_bytes traced.text)
whole_of_script ledger law depth names commands cs lines ls before network old new traced same each admitted named begun calm run start told =
    let warned = subst (λ (l : List ℕ). AreWarnings cs l told.1) (sym each) (subst (λ (l : List Command). AreWarnings l lines told.1) (sym same) told.3) in
    let whole = whole_told ledger law depth names cs ls before network old new traced (subst (λ (l : List Command). AreAdmitted [] l) (sym same) admitted) named begun calm run start (told.0, told.1, told.2, warned, told.4, told.5) in
    subst (λ (l : List Command). (names : Names) × AreNames l names × IsTracedTo depth traced.fault names l lines (string_bytes traced.text)) same
    (subst (λ (l : List ℕ). (names : Names) × AreNames cs names × IsTracedTo depth traced.fault names cs l (string_bytes traced.text)) each whole)

-- a line wasn't done
pub cut_of_script : TheoremGivesLedger → StepIsTold → (depth : Depth) (names : Names) (commands cs : List Command) (lines ls text : List ℕ) (network : NetworkView) (old new : TraceWatch) (stopped : StoppedAt) → cs ≡ commands → ls ≡ lines → AreAdmitted [] commands → AreNames cs names → held old ≡ so_far depth names cs [] [] → lacks new ≡ false → stopped.fault.fault ≢ NoMemory → IsStoppedBy tracer cs ls network old new stopped
    → text ≡ string_bytes new.text ++ facts_part new.depth new.names.now stopped.line network.nodes new.facts.tellings → (names : Names) × AreNames commands names × IsTracedTo depth (Some stopped.fault) names commands lines text
cut_of_script ledger law depth names commands cs lines ls text network old new stopped same each admitted named begun calm other by is =
    let cut = cut_told ledger law depth names cs ls text network old new stopped (subst (λ (l : List Command). AreAdmitted [] l) (sym same) admitted) named begun calm other by is in
    subst (λ (l : List Command). (names : Names) × AreNames l names × IsTracedTo depth (Some stopped.fault) names l lines text) same
    (subst (λ (l : List ℕ). (names : Names) × AreNames cs names × IsTracedTo depth (Some stopped.fault) names cs l text) each cut)

-- the same of a call that may run out of memory
pub whole_if : TheoremGivesLedger → StepIsTold → (depth : Depth) (names : Names) (commands cs : List Command) (lines ls before : List ℕ) (network : NetworkView) (old new : TraceWatch) (r : Result Traced Fault) → cs ≡ commands → ls ≡ lines → AreAdmitted [] commands → AreNames cs names → held old ≡ so_far depth names cs [] [] → lacks new ≡ false → (run : IsRunOf tracer cs ls network old new) → before ≡ string_bytes new.text
    → IfOk r (λ traced. (ending : List ℕ) × (found : List Warning) × IsEnd false names cs (moment_at run.played.heard network) ending × AreWarnings commands lines found × (string_bytes traced.text ≡ before ++ ending ++ warnings_text found) × (traced.fault ≡ None))
    → IfOk r (λ traced. (names : Names) × AreNames commands names × IsTracedTo depth traced.fault names commands lines (string_bytes traced.text))
whole_if ledger law depth names commands cs lines ls before network old new (Ok traced) same each admitted named begun calm run start told = whole_of_script ledger law depth names commands cs lines ls before network old new traced same each admitted named begun calm run start told
whole_if ledger law depth names commands cs lines ls before network old new (Err fault) same each admitted named begun calm run start told = tt
