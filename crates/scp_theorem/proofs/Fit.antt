-- What was handed out so far, and one thing more: all of it may be sent, its statements newer and newer, each behind its machine.
use Rattle.std.proofs.Common.{◌≡◌, ℕ, true, false, List, [], ◌∷◌, ◌++◌, refl, sym, ◌∙◌, ap, subst, append_assoc, append-nil, All, get_or, map, inl, inr}
use Rattle.std.specs.Prelude.{Option, Some, None, option_to_list}
use Rattle.std.proofs.lemmas.Grind.{flat_map-append}
use Rattle.std.proofs.lemmas.List.Elements.{All-nil, All-append}
use Rattle.scp_outbox.specs.scp_types.specs.declared.names.Slot.{Slot}
use Rattle.scp_outbox.specs.scp_envelope.specs.declared.statement.Envelope.{Envelope as Enveloped}
use Rattle.scp_outbox.specs.Outbox.{is_nomination}
use Rattle.scp_outbox.specs.scp_wire.specs.declared.link.Command.TheVariants.{Ask}
use Rattle.scp_outbox.specs.scp_wire.specs.declared.message.Message.{Message}
use Rattle.scp_outbox.specs.scp_wire.specs.declared.message.Message.TheVariants.{GetRecord}
use Rattle.scp_outbox.specs.Handing.{to_link}
use Rattle.scp_outbox.specs.Sent.{statement_of, IsStep, AreNewer}
use Rattle.scp_apply.specs.scp_pending.specs.declared.ready.Ready.{Ready}
use Rattle.scp_apply.specs.scp_pending.specs.declared.ready.Ready.TheVariants as ready
use Rattle.scp_apply.specs.scp_ledger.specs.declared.took.Outgoing.{Outgoing}
use Rattle.scp_apply.specs.scp_ledger.specs.declared.took.Outgoing.TheVariants.{ToAll, To}
use Rattle.scp_apply.specs.scp_ledger.specs.declared.took.Took.{Took}
use Rattle.scp_apply.specs.scp_ledger.specs.Seen.{LedgerView}
use Rattle.scp_apply.specs.scp_ledger.specs.Takes.{to_all}
use Rattle.scp_theorem.specs.Grounds.{Grounds, MaySend}
use Rattle.scp_theorem.specs.Handed.{messages_for, handed_by, out_of}
use Rattle.scp_theorem.proofs.Growing.{Grows, may_more}
use Rattle.scp_theorem.proofs.Ledgers.{LedgerStep}
use Rattle.scp_theorem.proofs.Machines.{MayTell}
use Rattle.scp_theorem.proofs.Replies.{MayReply}
use Rattle.scp_theorem.proofs.Telling.{all_one, all_to, none_newer, newer_push, newer_to, IsSaid, nothing_said, told, is_said, step_told, apart}

-- ---- lists of what goes out

-- of each link it holds of all that goes out for it
abbrev pub AllOut : (ℕ → Message → Type 0) → List Outgoing → Type 0
AllOut P out = (link : ℕ) → All (P link) (handed_by out link)

-- of each link the statements are newer and newer
abbrev pub NewerOut : List Outgoing → Type 0
NewerOut out = (link : ℕ) → AreNewer (handed_by out link)

pub handed_append : (a b : List Outgoing) (link : ℕ) → handed_by (a ++ b) link ≡ handed_by a link ++ handed_by b link
handed_append a b link = flat_map-append (messages_for link) a b

pub handed_push : (out : List Outgoing) (one : Outgoing) (link : ℕ) → handed_by (out ++ one ∷ []) link ≡ handed_by out link ++ messages_for link one
handed_push out one link = handed_append out (one ∷ []) link ∙ ap (λ (ms : List Message). handed_by out link ++ ms) (append-nil (messages_for link one))

pub all_more : (P : ℕ → Message → Type 0) (a b : List Outgoing) → AllOut P a → AllOut P b → AllOut P (a ++ b)
all_more P a b x y link = subst (All (P link)) (sym (handed_append a b link)) (All-append (P link) (handed_by a link) (handed_by b link) (x link) (y link))

pub all_none : (P : ℕ → Message → Type 0) → AllOut P []
all_none P link = All-nil (P link)

pub all_for : (P : ℕ → Message → Type 0) (to : ℕ) (m : Message) → P to m → AllOut P (To to m ∷ [])
all_for P to m p link = subst (All (P link)) (sym (append-nil (to_link to m link))) (all_to P to link m p)

all_each : (P : ℕ → Message → Type 0) (e : Enveloped) → ((link : ℕ) → P link (told e)) → AllOut P (ToAll e ∷ [])
all_each P e p link = all_one (P link) (told e) (p link)

newer_for : (out : List Outgoing) (to : ℕ) (m : Message) → statement_of m ≡ None → NewerOut out → NewerOut (out ++ To to m ∷ [])
newer_for out to m none newer link = subst AreNewer (sym (handed_push out (To to m) link)) (newer_to (handed_by out link) to link m none (newer link))

-- a statement is newer than all of its slot and kind that went out
abbrev pub IsAheadOf : List Outgoing → Enveloped → Type 0
IsAheadOf out e = AllOut (λ link n. IsStep (statement_of n) (Some e.statement)) out

newer_each : (out : List Outgoing) (e : Enveloped) → IsAheadOf out e → NewerOut out → NewerOut (out ++ ToAll e ∷ [])
newer_each out e ahead newer link = subst AreNewer (sym (handed_push out (ToAll e) link)) (newer_push (handed_by out link) (told e) (newer link) (ahead link))

-- ---- what was handed out

module _ {D : Type 0} where
  pub record AreFit (g : Grounds) (v : LedgerView D) (out : List Outgoing) : Type 0 where
    pub allowed : AllOut (MaySend g) out
    pub newer : NewerOut out
    pub behind : AllOut (λ link. IsSaid v) out

  pub first_fit : (g : Grounds) (v : LedgerView D) → AreFit g v []
  first_fit g v = record { allowed = all_none (MaySend g); newer = λ link. none_newer; behind = all_none (λ link. IsSaid v) }

  -- with more grounds
  pub fit_more : (g h : Grounds) (v : LedgerView D) (out : List Outgoing) → Grows g h → AreFit g v out → AreFit h v out
  fit_more g h v out k f = record {
    allowed = λ link i d below. may_more g h link (get_or (handed_by out link) i d) k (f.allowed link i d below);
    newer = f.newer;
    behind = f.behind;
  }

  -- a message for one link that may be sent, and is no statement
  fit_for : (g : Grounds) (v : LedgerView D) (out : List Outgoing) (to : ℕ) (m : Message) → MaySend g to m → statement_of m ≡ None → AreFit g v out → AreFit g v (out ++ To to m ∷ [])
  fit_for g v out to m may none f = record {
    allowed = all_more (MaySend g) out (To to m ∷ []) f.allowed (all_for (MaySend g) to m may);
    newer = newer_for out to m none f.newer;
    behind = all_more (λ link. IsSaid v) out (To to m ∷ []) f.behind (all_for (λ link. IsSaid v) to m (nothing_said v m none));
  }

  fit_still : (g : Grounds) (v : LedgerView D) (out : List Outgoing) → AreFit g v out → AreFit g v (out ++ [])
  fit_still g v out f = subst (λ (o : List Outgoing). AreFit g v o) (sym (append-nil out)) f

  -- a stage's answer
  pub fit_answer : (g : Grounds) (v : LedgerView D) (out : List Outgoing) (answer : Option (ℕ × Message)) → MayReply g answer → AreFit g v out → AreFit g v (out ++ out_of answer)
  fit_answer g v out None may f = fit_still g v out f
  fit_answer g v out (Some a) may f = fit_for g v out a.0 a.1 may.0 may.1 f

  -- ---- own statements

  module _ (g : Grounds) (before v : LedgerView D) (same : g.decisions ≡ v.decisions) where
    -- a statement that is said, ahead of all
    fit_told : (out : List Outgoing) (e : Enveloped) → MayTell g.who before v e → IsAheadOf out e → AreFit g v out → AreFit g v (out ++ ToAll e ∷ [])
    fit_told out e t ahead f = record {
      allowed = all_more (MaySend g) out (ToAll e ∷ []) f.allowed (all_each (MaySend g) e (λ link. (t.own, rw same t.decided)));
      newer = newer_each out e ahead f.newer;
      behind = all_more (λ link. IsSaid v) out (ToAll e ∷ []) f.behind (all_each (λ link. IsSaid v) e (λ link. is_said v e t.behind));
    }

    module _ (out : List Outgoing) (was : AllOut (λ link. IsSaid before) out) (f : AreFit g v out) where
      ahead_of : (e : Enveloped) → MayTell g.who before v e → IsAheadOf out e
      ahead_of e t link k d below = step_told g before v link e (get_or (handed_by out link) k d) (f.allowed link k d below) (was link k d below) t

      fit_first : (e : Enveloped) → MayTell g.who before v e → AreFit g v (out ++ ToAll e ∷ [])
      fit_first e t = fit_told out e t (ahead_of e t) f

      -- a nomination, and then a ballot
      fit_both : (d e : Enveloped) → MayTell g.who before v d × (is_nomination d.statement.pledges ≡ true) → MayTell g.who before v e × (is_nomination e.statement.pledges ≡ false) → AreFit g v (out ++ ToAll d ∷ ToAll e ∷ [])
      fit_both d e s t =
          let ahead : IsAheadOf (out ++ ToAll d ∷ []) e = all_more (λ link n. IsStep (statement_of n) (Some e.statement)) out (ToAll d ∷ []) (ahead_of e t.0) (all_each (λ link n. IsStep (statement_of n) (Some e.statement)) d (λ link. apart d e s.1 t.1)) in
          subst (λ (o : List Outgoing). AreFit g v o) (append_assoc out (ToAll d ∷ []) (ToAll e ∷ [])) (fit_told (out ++ ToAll d ∷ []) e t.0 ahead (fit_first d s.0))

      fit_peers : (nomination ballot : Option Enveloped)
          → ((e : Enveloped) → nomination ≡ Some e → MayTell g.who before v e × (is_nomination e.statement.pledges ≡ true))
          → ((e : Enveloped) → ballot ≡ Some e → MayTell g.who before v e × (is_nomination e.statement.pledges ≡ false))
          → AreFit g v (out ++ map to_all (option_to_list nomination ++ option_to_list ballot))
      fit_peers None None s t = fit_still g v out f
      fit_peers (Some d) None s t = fit_first d (s d refl).0
      fit_peers None (Some e) s t = fit_first e (t e refl).0
      fit_peers (Some d) (Some e) s t = fit_both d e (s d refl) (t e refl)

  -- ---- what the slot stage hands out with a thing that it takes

  -- where each command to ask that it takes was taken
  pub fit_step : (g h : Grounds) (old : LedgerView D) (x : Ready) (took : Took) (new : LedgerView D) (out : List Outgoing) → Grows g h → h.decisions ≡ new.decisions → LedgerStep h.who old x took new
      → ((link : ℕ) (slot : Slot) → x ≡ ready.Local (Ask link slot) → MaySend h link (GetRecord slot)) → AreFit g old out → AreFit h new (out ++ took.outgoing)
  fit_step g h old x took new out k same s asked f = elim s.outs [
    | inl none ↦ subst (λ (o : List Outgoing). AreFit h new (out ++ o)) (sym none) (fit_still h new out kept)
    | inr (inl w) ↦ subst (λ (o : List Outgoing). AreFit h new (out ++ o)) (sym w.3) (fit_for h new out w.0 (GetRecord w.1) (asked w.0 w.1 w.2) refl kept)
    | inr (inr w) ↦ subst (λ (o : List Outgoing). AreFit h new (out ++ o)) (sym w.1) (fit_peers h old new same out f.behind kept w.0.emitted.nomination w.0.emitted.ballot w.2.nomination w.2.ballots)
  ]
    where
      kept : AreFit h new out
      kept = record {
        allowed = (fit_more g h old out k f).allowed;
        newer = f.newer;
        behind = λ link i d below t e. s.behind t (f.behind link i d below t e);
      }
