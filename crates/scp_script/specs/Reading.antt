-- A script that is being read.
use Rattle.std.specs.Prelude.{◌≡◌, ℕ, ◌*◌, ◌+◌, ◌-◌, Bool, true, false, Result, Ok, Err, All, List, ◌++◌, IfSome, option_to_list, get_or}
use Rattle.scp_wire.specs.scp_types.specs.declared.limits.TheConstants.{NODE_LIMIT}
use Rattle.scp_script.specs.declared.reading.Reading.{Reading}
use Rattle.scp_script.specs.declared.known.Known.{Known}
use Rattle.scp_script.specs.declared.links.Links.{Links}
use Rattle.scp_script.specs.declared.links.Link.{Link}
use Rattle.scp_script.specs.declared.command.Command.{Command}
use Rattle.scp_script.specs.Words.{words_of}
use Rattle.scp_script.specs.Script.{node_count, has_begun, is_open, lives, is_line, Admits, command_in}
use Rattle.scp_script.specs.Nodes.{NamesNodes, IsSmall}

-- the fact holds if the result is `Ok(true)`
abbrev pub OnTrueOk : {E : Type 0} → Result Bool E → Type 0 → Type 0
OnTrueOk (Ok true) fact = fact
OnTrueOk (Ok false) fact = Unit {0}
OnTrueOk (Err e) fact = Unit {0}

-- the fact holds if the result is `Ok(false)`
abbrev pub OnFalseOk : {E : Type 0} → Result Bool E → Type 0 → Type 0
OnFalseOk (Ok false) fact = fact
OnFalseOk (Ok true) fact = Unit {0}
OnFalseOk (Err e) fact = Unit {0}

-- the index of the link in the table, from 0 on
abbrev pub place : ℕ → ℕ → ℕ
place from to = (from - 1) * NODE_LIMIT + (to - 1)

-- a link that was never open
abbrev pub no_link : Link
no_link = record { is_open = false; lives = 0 }

-- the link's entry in the table
abbrev pub at : Links → ℕ → ℕ → Link
at links from to = get_or links.0 (place from to) no_link

-- the table's entry for a link is right: whether the commands left it open, and how often they opened it
pub record KnowsLink (links : Links) (commands : List Command) (from to : ℕ) : Type 0 where
  pub opened : (at links from to).is_open ≡ is_open from to commands
  pub lives : (at links from to).lives ≡ lives from to commands

-- the table's entry is right for each link between nodes 1 to 8
abbrev pub KnowsLinks : Links → List Command → Type 0
KnowsLinks links commands = (from to : ℕ) → IsSmall from → IsSmall to → KnowsLink links commands from to

-- What is known is right after these commands: how many nodes there are, whether the lines that act have begun, and the state of each
-- link.
pub record Knows (k : Known) (commands : List Command) : Type 0 where
  pub count : k.count ≡ node_count commands
  pub begun : k.has_begun ≡ has_begun commands
  pub links : KnowsLinks k.links commands

-- What was read so far is consistent: what is known is right after its commands, and each command names nodes from 1 to 8.
pub record IsReading (r : Reading) : Type 0 where
  pub known : Knows r.known r.commands.items
  pub nodes : All NamesNodes r.commands.items

-- the line may follow these commands: it is a line of a script, and its command, if it has one, is admitted there
abbrev pub Stands : List Command → List ℕ → Type 0
Stands before line = (is_line line ≡ true) × IfSome (command_in (words_of line)) (Admits before)

-- the words were taken in: their command, if they say one, was added, and what was read is consistent
pub record TakesWords (old : Reading) (words : List (List ℕ)) (new : Reading) : Type 0 where
  pub commands : new.commands.items ≡ old.commands.items ++ option_to_list (command_in words)
  pub reading : IsReading new
