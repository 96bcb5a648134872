-- What was reported at each node, and how much of it belongs to the lines so far.
-- No public clause reaches these definitions: nothing here need be believed.
use Rattle.std.specs.Prelude.{ℕ, ◌+◌, ◌≡◌, List, [], ◌∷◌, Option, Some, None, drop, length, slice_get, slice_set}
use Rattle.scp_line.specs.scp_types.specs.declared.limits.TheConstants.{NODE_LIMIT}
use Rattle.scp_line.specs.scp_ledger.specs.declared.took.CommandFate.{CommandFate}
use Rattle.scp_line.specs.scp_script.specs.declared.command.Command.{Command}
use Rattle.scp_notices.specs.declared.commands.Told.{Told}
use Rattle.scp_notices.specs.declared.commands.Queue.{Queue}
use Rattle.scp_notices.specs.Ignoring.{fates_at, count_at}

-- the part of a queue that belongs to no line yet
abbrev pub left_in : Queue → List CommandFate
left_in queue = drop queue.taken queue.fates.items

-- the first of what is left is taken, if there is any
abbrev pub TakesFrom : Queue → Option CommandFate → Queue → Type 0
TakesFrom old None new = (left_in old ≡ []) × (left_in new ≡ [])
TakesFrom old (Some fate) new = left_in old ≡ fate ∷ left_in new

-- the same for the queue at this place; the others stay the same
abbrev pub TakesAt : List Queue → ℕ → Option CommandFate → List Queue → Type 0
TakesAt old place fate new = (queue next : Queue) × (slice_get old place ≡ Some queue) × TakesFrom queue fate next × (new ≡ slice_set old place next)

-- what is left of a node's reports after those of these commands
abbrev pub left_behind : List Told → List Command → ℕ → List CommandFate
left_behind told before number = drop (count_at number before) (fates_at number told)

-- the same for each queue: there is one for each node that a script can have
pub record AreQueues (told : List Told) (before : List Command) (queues : List Queue) : Type 0 where
  pub count : length queues ≡ NODE_LIMIT
  pub each : (place : ℕ) → (queue : Queue) → slice_get queues place ≡ Some queue → left_in queue ≡ left_behind told before (place + 1)
