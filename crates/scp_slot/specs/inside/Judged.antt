-- How an envelope is judged by its values, and compared with the newest one.
-- No public clause reaches these definitions: nothing here need be believed.
use Rattle.std.specs.Prelude.{◌≡◌, ◌⊎◌, ℕ, List, Option}
use Rattle.scp_nominate.specs.scp_envelope.specs.declared.statement.Statement.{Statement}
use Rattle.scp_nominate.specs.scp_driver.specs.declared.driver.Level.{Level}
use Rattle.scp_nominate.specs.scp_types.specs.declared.names.NodeId.{NodeId}
use Rattle.scp_nominate.specs.scp_envelope.specs.Sane.{IsSane}
use Rattle.scp_slot.specs.declared.newest.Heard.{Heard}
use Rattle.scp_slot.specs.declared.output.Verdict.{Verdict}
use Rattle.scp_slot.specs.declared.output.Verdict.TheVariants.{Fresh, Stale, Own, BadStatement, BadValue}
use Rattle.scp_slot.specs.Judged.{HasInvalid, IsBehind}

-- this verdict if it fits, else what the later ones say
abbrev pub FirstOf : Type 0 → Verdict → (Verdict → Type 0) → Verdict → Type 0
FirstOf fits first later verdict = (fits × (verdict ≡ first)) ⊎ ((¬ fits) × later verdict)

-- the verdict on an envelope's statement, by the newest of its node and kind
abbrev pub IsJudged : (List ℕ → Level) → NodeId → Option Heard → Statement → Verdict → Type 0
IsJudged level me newest s =
    FirstOf (s.node ≡ me) Own
    (FirstOf (¬ (IsSane s.pledges)) BadStatement
    (FirstOf (HasInvalid level s.pledges) BadValue
    (FirstOf (IsBehind newest s) Stale
    (λ verdict. verdict ≡ Fresh))))
