-- What calls add to the text and to the entries of a batch.
use Rattle.std.specs.Prelude.{ℕ, ◌≡◌, List, ◌++◌}
use Rattle.scp_stand_node.specs.scp_core.specs.History.{Exchange}
use Rattle.scp_batches.specs.scp_live_log.specs.Log.{EntryView}
use Rattle.scp_live.specs.scp_live_lines.specs.declared.asked.Asked.{Asked}
use Rattle.scp_live.specs.scp_live_lines.specs.declared.asked.Asked.TheVariants.{Event}
use Rattle.scp_live.specs.Live.{LiveView}

-- The text that was written so far, and the entries that are to be kept.
pub record BatchView : Type 0 where
  pub text : List ℕ
  pub entries : List EntryView

-- Such a text was added, and no entry.
pub record TellsMore (Is : List ℕ → Type 0) (old new : BatchView) : Type 0 where
  pub told : List ℕ
  pub is : Is told
  pub text : new.text ≡ old.text ++ told
  pub entries : new.entries ≡ old.entries

-- Such a text and such entries were added.
pub record Adds (Is : LiveView → List Exchange → LiveView → List EntryView → List ℕ → Type 0) (old : LiveView) (heard : List Exchange) (new : LiveView) (before after' : BatchView) : Type 0 where
  pub kept : List EntryView
  pub told : List ℕ
  pub is : Is old heard new kept told
  pub text : after'.text ≡ before.text ++ told
  pub entries : after'.entries ≡ before.entries ++ kept

-- What is asked for is a question, or nothing.
abbrev pub Asks : Asked → Type 0
Asks (Event event) = ⊥
Asks asked = Unit {0}
