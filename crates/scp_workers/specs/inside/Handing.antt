-- How what is handed out gets into the links' outboxes.
-- No public clause reaches these definitions: nothing here need be believed.
use Rattle.std.specs.Prelude.{◌≡◌, ◌⊎◌, ℕ, List, [], ◌∷◌, ◌++◌, Some, None, slice_get, slice_set}
use Rattle.scp_theorem.specs.scp_wire.specs.declared.message.Message.{Message}
use Rattle.scp_shared_outbox.specs.Ends.{PutterView}
use Rattle.scp_theorem.specs.scp_ledger.specs.declared.took.Outgoing.{Outgoing}
use Rattle.scp_theorem.specs.Handed.{handed_by}

-- what is handed out for each link was put there, after what was put before
abbrev pub PutsOut : List Outgoing → List PutterView → List PutterView → Type 0
PutsOut out old new = (l : ℕ) (p q : PutterView) → slice_get old l ≡ Some p → slice_get new l ≡ Some q → q.put ≡ p.put ++ handed_by out l

-- a message is put for a link that is there; the other links stay as they were
pub record PutsThere (old : List PutterView) (link : ℕ) (message : Message) (new : List PutterView) : Type 0 where
  pub before : PutterView
  pub there : slice_get old link ≡ Some before
  pub is : new ≡ slice_set old link (record before { put = before.put ++ message ∷ [] })

-- the same; a message for a link that isn't there is dropped
abbrev pub PutsAt : List PutterView → ℕ → Message → List PutterView → Type 0
PutsAt old link message new = ((slice_get old link ≡ None) × (new ≡ old)) ⊎ PutsThere old link message new
