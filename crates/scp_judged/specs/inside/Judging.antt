-- What judging one message more changes.
use Rattle.std.specs.Prelude.{◌≡◌, ◌++◌, ℕ, List, [], ◌∷◌, Option, map}
use Rattle.scp_ledger.specs.scp_types.specs.declared.names.Hash.{Hash}
use Rattle.scp_ledger.specs.scp_quorum.specs.QuorumTree.{QuorumTree}
use Rattle.scp_ledger.specs.scp_envelope.specs.declared.statement.Statement.{Statement}
use Rattle.scp_ledger.specs.scp_envelope.specs.declared.statement.Envelope.{Envelope}
use Rattle.scp_ledger.specs.Journal.{Heard}
use Rattle.scp_judged.specs.declared.verdict.Verdict.{Verdict}
use Rattle.scp_judged.specs.declared.messages.Message.{Message}
use Rattle.scp_judged.specs.declared.messages.Judged.{Judged}
use Rattle.scp_judged.specs.Verdicts.{IsVerdict, last_statement, added, heard_with, heard_of}

-- the statement counts too, with its set
abbrev pub CountsToo : List Heard → List Heard → Statement → QuorumTree → Type 0
CountsToo old new s q = new ≡ old ++ heard_with s q ∷ []

-- the envelopes, and the verdicts
abbrev pub envelopes_of : Judged → List Envelope
envelopes_of j = map (λ (m : Message). m.envelope) j.messages.items

abbrev pub verdicts_of : Judged → List Verdict
verdicts_of j = map (λ (m : Message). m.verdict) j.messages.items

-- one message more has its verdict
pub record TakesMessage (sets : Hash → Option QuorumTree) (at : ℕ) (old new : Judged) (e : Envelope) : Type 0 where
  pub verdict : Verdict
  pub fits : IsVerdict sets at (last_statement (map heard_of old.counting.items)) e.statement verdict
  pub messages : envelopes_of new ≡ envelopes_of old ++ e ∷ []
  pub verdicts : verdicts_of new ≡ verdicts_of old ++ verdict ∷ []
  pub counting : map heard_of new.counting.items ≡ map heard_of old.counting.items ++ added sets e.statement verdict
