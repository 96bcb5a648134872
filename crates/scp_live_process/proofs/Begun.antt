-- A node that was made of settings, and ran.
use Rattle.std.proofs.Common.{◌≡◌, ℕ, List, [], Option, subst}
use Rattle.std.specs.Prelude.{Result, Ok, Err, OnOk}
use Rattle.scp_stand_node.specs.scp_core.specs.Kv.{TheoremGivesLedger, LedgerGivesHeadline}
use Rattle.scp_stand_node.specs.scp_turn.specs.Kv.{Noting, Watched}
use Rattle.scp_batches.specs.scp_live_log.specs.declared.kept.Kept.{Kept}
use Rattle.scp_batches.specs.scp_live_log.specs.declared.kept.LogFault.{LogFault}
use Rattle.scp_batches.specs.scp_live_log.specs.declared.wanted.Wanted.{Wanted}
use Rattle.scp_live.specs.scp_live_config.specs.declared.settings.Settings.{Settings}
use Rattle.scp_live.specs.Live.{LiveView}
use Rattle.scp_live.specs.Beginning.{IsNew, digest_of, header_of}
use Rattle.scp_live_process.specs.Starting.{HasRun, RunsAs}
use Rattle.scp_live_process.proofs.Configs.{steps_keep_the_config}
use Rattle.scp_live_process.proofs.Going.{Seen}

-- what ran from a new node holds its ledger and its headline, and a watch was told of each step
pub runs_as : {L W : Type 0} (wanted : Wanted) (Note : Noting W) (w z : W) (holds may_leave : L → List ℕ → Type 0) (r : Result (Unit {0}) LogFault) (settings : Settings) (left written longer : Option (List ℕ)) (log : L) (u v : LiveView) (empty kept : Kept L) (header : List ℕ) → header ≡ header_of (digest_of settings) → IsNew settings u → empty.log ≡ log → TheoremGivesLedger → LedgerGivesHeadline
    → Seen Note w z u.node v.node (λ heard. OnOk r (HasRun holds may_leave wanted header left written longer empty kept u heard v))
    → OnOk r ((runs : RunsAs holds may_leave wanted settings left written longer log) × Watched Note 1 w runs.begun.node runs.heard runs.node.node z)
runs_as wanted Note w z holds may_leave (Ok x) settings left written longer log u v empty kept header is new on ledger headline g =
    let theorem = g.theorem [] new.theorem in
    let holds_ledger = ledger g.heard v.node theorem in (
      record {
        begun = u;
        is_new = new;
        empty = empty;
        on_log = on;
        kept = kept;
        heard = g.heard;
        node = v;
        ran = subst (λ (h : List ℕ). HasRun holds may_leave wanted h left written longer empty kept u g.heard v) is g.is.1;
        config = steps_keep_the_config g.heard u.node v.node g.does;
        theorem = theorem;
        ledger = holds_ledger;
        headline = headline g.heard v.node holds_ledger;
      },
      g.is.0,
    )
runs_as wanted Note w z holds may_leave (Err f) settings left written longer log u v empty kept header is new on ledger headline g = tt
