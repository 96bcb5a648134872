-- What an input of a slot's machine does to its board, and what it keeps.
use Rattle.std.proofs.Common.{◌≡◌, ℕ, Bool, true, false, cond, List, refl, sym, ◌∙◌, ap, subst, inl, inr}
use Rattle.std.specs.Prelude.{Option, Some, None, ◌&&◌, IsSome, if◌then◌else◌}
use Rattle.std.specs.Option.{option_map}
use Rattle.std.specs.BTreeMap.{is_at}
use Rattle.scp_slot.specs.scp_types.specs.declared.names.NodeId.{NodeId}
use Rattle.scp_slot.specs.scp_quorum.specs.NodeSet.{node_cmp}
use Rattle.scp_slot.specs.scp_driver.specs.declared.driver.Level.{Level}
use Rattle.scp_slot.specs.scp_envelope.specs.declared.statement.Envelope.{Envelope as Enveloped}
use Rattle.scp_slot.specs.scp_envelope.specs.declared.statement.Statement.{Statement}
use Rattle.scp_slot.specs.scp_vote.specs.Board.{kind_of_pledges, KeepsOwn}
use Rattle.scp_slot.specs.scp_vote.specs.declared.claim.StatementKind.{StatementKind}
use Rattle.scp_slot.specs.scp_vote.specs.declared.claim.StatementKind.TheVariants.{Nomination, Balloting}
use Rattle.scp_slot.specs.scp_ballot.specs.Balloting as ballot
use Rattle.scp_slot.specs.declared.newest.Heard.{Heard as Kept}
use Rattle.scp_slot.specs.declared.output.SlotInput.{SlotInput}
use Rattle.scp_slot.specs.declared.output.SlotInput.TheVariants.{Propose, Round, Timer, Envelope}
use Rattle.scp_slot.specs.declared.output.SlotOutput.{SlotOutput}
use Rattle.scp_slot.specs.Slot.{SlotView}
use Rattle.scp_slot.specs.Newest.{Puts}
use Rattle.scp_slot.specs.Judged.{IsBehind}
use Rattle.scp_slot.specs.scp_quorum.specs.SharedSet.{SharedSet}
use Rattle.scp_slot.specs.Takes as slot
use Rattle.scp_ledger.specs.declared.journal.Verdict.{Verdict}
use Rattle.scp_ledger.specs.declared.journal.Verdict.TheVariants.{Fresh}
use Rattle.scp_slot.specs.declared.output.Verdict.{Verdict as Found}
use Rattle.scp_slot.specs.declared.output.Verdict.TheVariants as found
use Rattle.scp_ledger.specs.Journal.{Heard, is_fresh, is_its, same_kind}
use Rattle.scp_ledger.specs.Ledger.{heard_of, heard_at}
use Rattle.scp_ledger.specs.Takes.{verdict_from}
use Rattle.scp_ledger.specs.Verdicts.{IsHeardAs, IsStale}

-- what an input brings to the board: the statement of a fresh envelope, with its set
abbrev pub brings : SlotInput → Verdict → Option Heard
brings (Propose value) verdict = None
brings Round verdict = None
brings Timer verdict = None
brings (Envelope envelope set) verdict = if is_fresh verdict then Some (record { statement = envelope.statement; set = set.value }) else None

-- it takes the place of the node's last statement of that kind, and all others stay
abbrev pub Boards : SlotView → Option Heard → SlotView → Type 0
Boards old None new = (kind : StatementKind) (v : NodeId) → heard_at kind new v ≡ heard_at kind old v
Boards old (Some h) new = (kind : StatementKind) (v : NodeId) → heard_at kind new v ≡ cond (is_its kind v h) (Some h) (heard_at kind old v)

pub same_board : (old new : SlotView) → new.newest ≡ old.newest → Boards old None new
same_board old new same = λ kind v. ap (λ n. option_map heard_of (n kind v)) same

map_cond : (b : Bool) (h : Kept) (o : Option Kept) → option_map heard_of (cond b (Some h) o) ≡ cond b (Some (heard_of h)) (option_map heard_of o)
map_cond true h o = refl
map_cond false h o = refl

-- one kind of a board where a statement was put
put_kind : (old new : SlotView) (h : Kept) (k kind : StatementKind) (v : NodeId) → kind_of_pledges h.statement.pledges ≡ k → Puts old.newest new.newest h
    → heard_at kind new v ≡ cond (same_kind k kind && is_at (node_cmp h.statement.node) v) (Some (heard_of h)) (heard_at kind old v)
put_kind old new h Nomination Nomination v is puts =
    let its : new.newest Nomination v ≡ cond (is_at (node_cmp h.statement.node) v) (Some h) (old.newest Nomination v) = subst (λ (k : StatementKind). new.newest k v ≡ cond (is_at (node_cmp h.statement.node) v) (Some h) (old.newest k v)) is (puts.its_kind v) in
    ap (option_map heard_of) its ∙ map_cond (is_at (node_cmp h.statement.node) v) h (old.newest Nomination v)
put_kind old new h Balloting Balloting v is puts =
    let its : new.newest Balloting v ≡ cond (is_at (node_cmp h.statement.node) v) (Some h) (old.newest Balloting v) = subst (λ (k : StatementKind). new.newest k v ≡ cond (is_at (node_cmp h.statement.node) v) (Some h) (old.newest k v)) is (puts.its_kind v) in
    ap (option_map heard_of) its ∙ map_cond (is_at (node_cmp h.statement.node) v) h (old.newest Balloting v)
put_kind old new h Nomination Balloting v is puts = ap (option_map heard_of) (puts.other_kind Balloting (λ e. (let t : Balloting ≡ Nomination = e ∙ is in cc)) v)
put_kind old new h Balloting Nomination v is puts = ap (option_map heard_of) (puts.other_kind Nomination (λ e. (let t : Nomination ≡ Balloting = e ∙ is in cc)) v)

heard_is : (h : Kept) (e : Enveloped) (set : SharedSet) → h.statement ≡ e.statement → h.set.value ≡ set.value → heard_of h ≡ record { statement = e.statement; set = set.value }
heard_is h e set a b = rw (a, b) refl

entered : (old new : SlotView) (e : Enveloped) (set : SharedSet) → slot.Enters e set old new → Boards old (Some (record { statement = e.statement; set = set.value })) new
entered old new e set it = λ kind v.
    subst (λ (x : Heard). heard_at kind new v ≡ cond (is_its kind v x) (Some x) (heard_at kind old v)) (heard_is it.heard e set it.statement it.with_set)
    (put_kind old new it.heard (kind_of_pledges it.heard.statement.pledges) kind v refl it.puts)

-- ---- what an input keeps

keeps_same : (old new : SlotView) → new.ballots ≡ old.ballots → ballot.KeepsMaking old.ballots new.ballots
keeps_same old new same = subst (λ (b : ballot.Ballots). ballot.KeepsMaking old.ballots b) (sym same) (record { slot = refl; hash = refl; me = refl; local = refl })

-- where there is a decision, the local set is counted for this node
abbrev pub CountsOwn : SlotOutput → SlotView → Type 0
CountsOwn out new = IsSome out.decided → KeepsOwn new.ballots.board

none_some : {X : Type 0} (o : Option X) → o ≡ None → IsSome o → ⊥
none_some None e h = (let t : false ≡ true = h in cc)
none_some (Some x) e h = absurd cc

-- what any input does before the decision
pub record Stepped (given : SlotInput) (old : SlotView) (out : SlotOutput) (new : SlotView) : Type 0 where
  pub machine : slot.IsSameMachine old new
  pub making : ballot.KeepsMaking old.ballots new.ballots
  pub counts : CountsOwn out new
  pub board : Boards old (brings given (verdict_from out.verdict)) new

passed_on : (o : Option (List ℕ)) (old : SlotView) (out : SlotOutput) (new : SlotView) → slot.PassesOn o old out new → ballot.KeepsMaking old.ballots new.ballots × CountsOwn out new
passed_on None old out new p = (keeps_same old new p.ballots, λ some. absurd (none_some out.decided p.decided some))
passed_on (Some x) old out new p = (p.ballots.advances.making, λ some. p.ballots.advances.counted)

is_same : (old new : SlotView) → new ≡ old → slot.IsSameMachine old new
is_same old new same = subst (λ (v : SlotView). slot.IsSameMachine old v) (sym same) (record { me = refl; slot = refl })

-- nothing changed at an input that brings nothing
rested : (given : SlotInput) (found' : Found) (old : SlotView) (out : SlotOutput) (new : SlotView) → slot.Rests found' old out new → brings given (verdict_from found') ≡ None → Stepped given old out new
rested given found' old out new r none =
    let verdict : out.verdict ≡ found' = ap (λ (o : SlotOutput). o.verdict) r.quiet in
    let brought : brings given (verdict_from out.verdict) ≡ None = ap (λ (x : Found). brings given (verdict_from x)) verdict ∙ none in
    record {
      machine = is_same old new r.same;
      making = keeps_same old new (ap (λ (v : SlotView). v.ballots) r.same);
      counts = λ some. absurd (none_some out.decided (ap (λ (o : SlotOutput). o.decided) r.quiet) some);
      board = subst (λ (h : Option Heard). Boards old h new) (sym brought) (same_board old new (ap (λ (v : SlotView). v.newest) r.same));
    }

heard_fresh : (e : Enveloped) (set : SharedSet) (old : SlotView) (out : SlotOutput) (new : SlotView) → out.verdict ≡ found.Fresh → slot.Enters e set old new → Boards old (brings (Envelope e set) (verdict_from out.verdict)) new
heard_fresh e set old out new fresh enters =
    subst (λ (x : Found). Boards old (brings (Envelope e set) (verdict_from x)) new) (sym fresh) (entered old new e set enters)

heard_kind : (kind : StatementKind) (combined : List (List ℕ) → List ℕ) (e : Enveloped) (set : SharedSet) (old : SlotView) (out : SlotOutput) (new : SlotView) → slot.HearsKind kind combined e set old out new → Stepped (Envelope e set) old out new
heard_kind Nomination combined e set old out new h =
    let kept = passed_on h.nominates.composite old out new h.nominates.passed in
    record { machine = h.machine; making = kept.0; counts = kept.1; board = heard_fresh e set old out new h.nominates.verdict h.enters }
heard_kind Balloting combined e set old out new h =
    record { machine = h.machine; making = h.ballots.advances.making; counts = λ some. h.ballots.advances.counted; board = heard_fresh e set old out new h.verdict h.enters }

stepped_envelope : (level : List ℕ → Level) (combined : List (List ℕ) → List ℕ) (e : Enveloped) (set : SharedSet) (old : SlotView) (out : SlotOutput) (new : SlotView) → slot.TakesEnvelope level combined e set old out new → Stepped (Envelope e set) old out new
stepped_envelope level combined e set old out new takes = elim takes [
  | inl own ↦ rested (Envelope e set) found.Own old out new own.1 refl
  | inr a ↦ elim a.1 [
    | inl bad ↦ rested (Envelope e set) found.BadStatement old out new bad.1 refl
    | inr b ↦ elim b.1 [
      | inl bad ↦ rested (Envelope e set) found.BadValue old out new bad.1 refl
      | inr c ↦ elim c.1 [
        | inl stale ↦ rested (Envelope e set) found.Stale old out new stale.1 refl
        | inr d ↦ heard_kind (kind_of_pledges e.statement.pledges) combined e set old out new d.1
      ]
    ]
  ]
]

stepped_input : (level : List ℕ → Level) (combined : List (List ℕ) → List ℕ) (given : SlotInput) (old : SlotView) (out : SlotOutput) (new : SlotView) → slot.TakesInput level combined given old out new → Stepped given old out new
stepped_input level combined (Propose value) old out new takes = elim takes [
  | inl bad ↦ rested (Propose value) found.BadValue old out new bad.1 refl
  | inr a ↦ elim a.1 [
    | inl idle ↦ rested (Propose value) found.Idle old out new idle.1 refl
    | inr b ↦ (
        let p = b.1 in
        let kept = passed_on p.nominates.composite old out new p.nominates.passed in
        record { machine = p.machine; making = kept.0; counts = kept.1; board = same_board old new p.newest })
  ]
]
stepped_input level combined Round old out new takes = elim takes [
  | inl idle ↦ rested Round found.Idle old out new idle.1 refl
  | inr b ↦ (
      let p = b.1 in
      let kept = passed_on p.nominates.composite old out new p.nominates.passed in
      record { machine = p.machine; making = kept.0; counts = kept.1; board = same_board old new p.newest })
]
stepped_input level combined Timer old out new p = record { machine = p.machine; making = p.ballots.advances.making; counts = λ some. p.ballots.advances.counted; board = same_board old new p.newest }
stepped_input level combined (Envelope e set) old out new takes = stepped_envelope level combined e set old out new takes

-- an undecided machine takes its input in
pub taken_in : (level : List ℕ → Level) (combined : List (List ℕ) → List ℕ) (given : SlotInput) (old : SlotView) (out : SlotOutput) (new : SlotView) → old.decided ≡ false → slot.Takes level combined given old out new → slot.TakesInput level combined given old out new
taken_in level combined given old out new silent takes = elim takes [
  | inl done ↦ absurd (let t : true ≡ false = sym done.0 ∙ silent in cc)
  | inr a ↦ a.1
]

pub stepped : (level : List ℕ → Level) (combined : List (List ℕ) → List ℕ) (given : SlotInput) (old : SlotView) (out : SlotOutput) (new : SlotView) → old.decided ≡ false → slot.Takes level combined given old out new → Stepped given old out new
stepped level combined given old out new silent takes = stepped_input level combined given old out new (taken_in level combined given old out new silent takes)

-- ---- the verdict on an envelope is that of what the board has

stale_mapped : (o : Option Kept) (s : Statement) → IsBehind o s → IsStale (option_map heard_of o) s
stale_mapped None s h = h
stale_mapped (Some x) s h = h

not_stale_mapped : (o : Option Kept) (s : Statement) → IsStale (option_map heard_of o) s → IsBehind o s
not_stale_mapped None s h = h
not_stale_mapped (Some x) s h = h

rests_verdict : (found' : Found) (old : SlotView) (out : SlotOutput) (new : SlotView) → slot.Rests found' old out new → verdict_from out.verdict ≡ verdict_from found'
rests_verdict found' old out new r = ap (λ (o : SlotOutput). verdict_from o.verdict) r.quiet

kind_verdict : (kind : StatementKind) (combined : List (List ℕ) → List ℕ) (e : Enveloped) (set : SharedSet) (old : SlotView) (out : SlotOutput) (new : SlotView) → slot.HearsKind kind combined e set old out new → verdict_from out.verdict ≡ Fresh
kind_verdict Nomination combined e set old out new h = ap verdict_from h.nominates.verdict
kind_verdict Balloting combined e set old out new h = ap verdict_from h.verdict

pub judged : (level : List ℕ → Level) (combined : List (List ℕ) → List ℕ) (e : Enveloped) (set : SharedSet) (old : SlotView) (out : SlotOutput) (new : SlotView) → slot.TakesEnvelope level combined e set old out new
    → IsHeardAs level old.me (heard_at (kind_of_pledges e.statement.pledges) old e.statement.node) e.statement (verdict_from out.verdict)
judged level combined e set old out new takes = elim takes [
  | inl own ↦ inl (own.0, rests_verdict found.Own old out new own.1)
  | inr a ↦ inr (
    a.0,
    elim a.1 [
      | inl bad ↦ inl (bad.0, rests_verdict found.BadStatement old out new bad.1)
      | inr b ↦ inr (
        b.0,
        elim b.1 [
          | inl bad ↦ inl (bad.0, rests_verdict found.BadValue old out new bad.1)
          | inr c ↦ inr (
            c.0,
            elim c.1 [
              | inl stale ↦ inl (stale_mapped (slot.last_of old e.statement) e.statement stale.0, rests_verdict found.Stale old out new stale.1)
              | inr d ↦ inr ((λ h. d.0 (not_stale_mapped (slot.last_of old e.statement) e.statement h)), kind_verdict (kind_of_pledges e.statement.pledges) combined e set old out new d.1)
            ],
          )
        ],
      )
    ],
  )
]
