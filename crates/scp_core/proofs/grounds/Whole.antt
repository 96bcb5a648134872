-- All that went out of a node, by every list of exchanges.
use Rattle.std.proofs.Common.{◌≡◌, ℕ, false, List, [], ◌∷◌, ◌++◌, refl, sym, ◌∙◌, ap, subst, append_assoc, append-nil, inl, inr}
use Rattle.std.specs.Prelude.{fold, flat_map}
use Rattle.std.proofs.lemmas.List.{append_cancel_right}
use Rattle.scp_theorem.specs.scp_driver.specs.Driver.{Says}
use Rattle.scp_theorem.specs.scp_wire.specs.declared.link.Inbound.{Inbound}
use Rattle.scp_theorem.specs.scp_ledger.specs.By.{JournalsBy}
use Rattle.scp_theorem.specs.scp_ledger.specs.Runs.{things, onwards_of, nothing_taken}
use Rattle.scp_theorem.specs.scp_apply.specs.Applies.{Applies}
use Rattle.scp_theorem.specs.Handed.{ServesEach, nothing_applied, AnswersEach}
use Rattle.scp_theorem.specs.Kept.{KeepsLedger}
use Rattle.scp_theorem.specs.Laws.{AreHandedOut}
use Rattle.scp_theorem.proofs.Basics.{true_isnt}
use Rattle.scp_theorem.proofs.Serving.{driver_kept, journals_each, applies_each}
use Rattle.scp_core.specs.declared.config.Config.{Config}
use Rattle.scp_core.specs.Flow.{Flows}
use Rattle.scp_core.specs.Handed.{WentOut, replies_in, sayings_in, answers_in}
use Rattle.scp_core.specs.History.{Exchange, Past, hears, past_of, nothing_heard}
use Rattle.scp_core.specs.Ledger.{account_of}
use Rattle.scp_core.specs.Node.{NodeView}
use Rattle.scp_core.specs.Sent.{sent_by, sent_to}
use Rattle.scp_core.specs.Theorem.{begun, AreSteps, LedgerTheoremFrom}
use Rattle.scp_core.proofs.Accounting.{kept_at}
use Rattle.scp_core.proofs.StageLaws.{Laws}
use Rattle.scp_core.proofs.Holding.{Began}
use Rattle.scp_core.proofs.grounds.Turning.{Stages, stages_of, Turned, turned_sent, Runs, turned_step}

module _ {D : Type 0} (says : Says D) (first : ℕ) (base : List ℕ) where
  -- ---- the node as it began

  -- what flows in it
  begun_flows : (past : List Exchange) (v : NodeView D) (h : LedgerTheoremFrom says first base past v) → Flows says (past_of v.config past) v → (q : Past) × Flows says q (begun h.driver v.config first base)
  begun_flows [] v h f = (nothing_heard, subst (λ (w : NodeView D). Flows says nothing_heard w) h.replies f)
  begun_flows (x ∷ xs) v h f = elim h.replies.1 [
    | inl w ↦ absurd (true_isnt (sym w.0))
    | inr w ↦ (nothing_heard, w.1.flows)
  ]

  begun_turned : (driver : D) (c : Config) (q : Past) → Flows says q (begun driver c first base) → Turned says driver first base c (λ link. []) [] (stages_of (begun driver c first base))
  begun_turned driver c q f = record {
    given = [];
    pending = record { runs = refl; local_is_sane = f.pending.local_is_sane; settled = refl; left = refl };
    local = refl;
    takes = [];
    ready = refl;
    served = refl;
    applied = [];
    decided = refl;
    turns = [];
    replies_are = refl;
    said_are = refl;
    answered = (refl, refl);
    moved = refl;
    spelt = λ link. tt;
  }

  -- ---- each exchange after it

  -- the same bytes
  runs_same : (driver : D) (p : Past) (sent same : ℕ → List (List ℕ)) (v : NodeView D) → ((link : ℕ) → same link ≡ sent link) → Runs says driver first base p sent v → Runs says driver first base p same v
  runs_same driver p sent same v e t = λ runs. (let at = t runs in (at.0, at.1, turned_sent says driver first base v.config sent same at.0 (stages_of v) e at.2))

  along : Laws says → (driver : D) (c : Config) (xs : List Exchange) (p : Past) (sent : ℕ → List (List ℕ)) (v last : NodeView D) → AreSteps says c p v xs last → Runs says driver first base p sent v → Runs says driver first base (fold (λ q x. hears c q x.0 x.1) p xs) (λ link. sent link ++ sent_to link xs) last
  along law driver c [] p sent v last a t = subst (λ (w : NodeView D). Runs says driver first base p (λ link. sent link ++ []) w) (sym a) (runs_same driver p sent (λ link. sent link ++ []) v (λ link. append-nil (sent link)) t)
  along law driver c (x ∷ xs) p sent v last a t =
      let next : Runs says driver first base (hears c p x.0 x.1) (λ link. sent link ++ sent_by link x.0 x.1) a.0 = turned_step says driver first base law c p sent v x.0 x.1 a.0 a.1 t in
      let all = along law driver c xs (hears c p x.0 x.1) (λ link. sent link ++ sent_by link x.0 x.1) a.0 last a.2 next in
      runs_same driver (fold (λ q y. hears c q y.0 y.1) (hears c p x.0 x.1) xs) (λ link. (sent link ++ sent_by link x.0 x.1) ++ sent_to link xs) (λ link. sent link ++ sent_to link (x ∷ xs)) last (λ link. sym (append_assoc (sent link) (sent_by link x.0 x.1) (sent_to link xs))) all

  -- ---- all that went out

  -- of what the stages handed out by then
  handed_at : Laws says → (driver : D) (past : List Exchange) (v : NodeView D) (f : Flows says (past_of v.config past) v) → Began first base v → (q : Past) → Flows says q (begun driver v.config first base)
      → (sent : ℕ → List (List ℕ)) (t : Turned says driver first base v.config sent f.arrived (stages_of v)) → AreHandedOut says (account_of past v f.arrived) (flat_map replies_in t.turns) (flat_map sayings_in t.turns) (flat_map answers_in t.turns)
  handed_at law driver past v f began q flows sent t =
      let me = v.config.me in
      let set = v.config.set in
      let peers = v.config.peers in
      let none = nothing_taken me set driver peers first in
      let keeps : KeepsLedger says.level says.extracted says.combined says.place (account_of past v f.arrived) = kept_at says law (past_of v.config past) v f in
      let journals : JournalsBy says me set peers (things t.takes) (onwards_of t.takes) v.ledger = journals_each says law.journals me set peers [] [] none t.takes v.ledger t.served (law.journals.begins me set peers none refl flows.journal.known flows.journal.running) in
      let applies : Applies t.applied v.applier = applies_each law.applies [] (nothing_applied first base) t.applied (flat_map answers_in t.turns) v.applier t.answered (law.applies.begins (nothing_applied first base) refl refl refl flows.applier.known flows.applier.running) in
      record {
        ran = record {
          links = keeps.links;
          read = keeps.read;
          local = t.local;
          given = t.given;
          pends = t.pending;
          took = things t.takes;
          ready = t.ready;
          onwards = onwards_of t.takes;
          journals = journals;
          applied = t.applied;
          decided = t.decided;
          applies = applies;
          first = f.first;
        };
        replies_are = t.replies_are;
        takes = t.takes;
        took_are = refl;
        onwards_are = refl;
        served =
            subst (λ (n : ℕ). ServesEach says (nothing_taken me set v.ledger.driver peers n) t.takes v.ledger) (sym (sym f.first ∙ began.0))
            (subst (λ (d : D). ServesEach says (nothing_taken me set d peers first) t.takes v.ledger) (sym (driver_kept says none t.takes v.ledger t.served)) t.served);
        said_are = t.said_are;
        answered =
            subst (λ (n : ℕ). AnswersEach (nothing_applied n v.applier.base) t.applied (flat_map answers_in t.turns) v.applier) (sym (sym f.first ∙ began.0))
            (subst (λ (bytes : List ℕ). AnswersEach (nothing_applied first bytes) t.applied (flat_map answers_in t.turns) v.applier) (sym began.1) t.answered);
      }

  -- by the exchanges and the node that they left, while it runs
  pub went_out : Laws says → (past : List Exchange) (v : NodeView D) → LedgerTheoremFrom says first base past v → (f : Flows says (past_of v.config past) v) → WentOut says (account_of past v f.arrived) (λ link. sent_to link past) v.outboxes
  went_out law past v h f =
      let sent : ℕ → List (List ℕ) = λ link. sent_to link past in
      let flows = begun_flows past v h f in
      let began : Began first base v = subst (λ (w : NodeView D). Began first base w) (sym (h.now f.runs)) h.began in
      let all : Runs says h.driver first base (past_of v.config past) sent v = along law h.driver v.config past nothing_heard (λ link. []) (begun h.driver v.config first base) v h.replies (λ runs. ([], refl, begun_turned h.driver v.config flows.0 flows.1)) in
      let at = all f.runs in
      let same : at.0 ≡ f.arrived = append_cancel_right at.0 f.arrived v.inbox (sym at.1 ∙ f.inbox) in
      let t : Turned says h.driver first base v.config sent f.arrived (stages_of v) = subst (λ (xs : List Inbound). Turned says h.driver first base v.config sent xs (stages_of v)) same at.2 in
      record { moves = t.turns; handed = handed_at law h.driver past v f began flows.0 flows.1 sent t; moved = t.moved; spelt = t.spelt }
