-- What is known while the lines of a script are read.
-- No public clause reaches this: nothing here need be believed.
use Rattle.std.specs.Prelude.{◌≡◌, ℕ, ◌&&◌, List, Option, Some, None, is_none, if◌then◌else◌}
use Rattle.std.specs.List.{list_any}
use Rattle.std.specs.Ordering.{nat_cmp}
use Rattle.std.specs.BTreeSet.{contains}
use Rattle.scp_script.specs.declared.command.Command.{Command}
use Rattle.scp_script_check.specs.Nodes.{sends_on, proposes_for, acts_on, settles_them}
use Rattle.scp_script_check.specs.inside.Sent.{has_sent}
use Rattle.scp_script_check.specs.Warnings.{is_led}
use Rattle.scp_script_check.specs.declared.warned.Before.{Before}
use Rattle.scp_script_check.specs.declared.warned.Whole.{Whole}

-- what is known is right: which links these lines sent on, and which slots they proposed operation lists for
pub record KnowsBefore (b : Before) (done : List Command) : Type 0 where
  pub sent : (from to : ℕ) → has_sent b.sent.items from to ≡ list_any (sends_on from to) done
  pub proposed : (slot : ℕ) → contains nat_cmp b.proposed slot ≡ list_any (proposes_for slot) done

-- what is known of the whole script is right: which slots are led
abbrev pub KnowsWhole : Whole → Type 0
KnowsWhole w = (slot : ℕ) → contains nat_cmp w.led.now slot ≡ is_led w.turns.now w.commands.now slot

-- the place of the first unsettled command after one more command: none if it brings the nodes to rest, else the one so far, else this
-- one if it acts
abbrev pub place_behind : Option ℕ → ℕ → Command → Option ℕ
place_behind found place command = if settles_them command then None else (if is_none found && acts_on command then Some place else found)
