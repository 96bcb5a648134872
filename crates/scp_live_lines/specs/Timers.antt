-- The lines of timers that a host starts and stops (this project's profile).
use Rattle.std.specs.Prelude.{ℕ, List, [], Bool, false, ◌++◌, ◌&&◌, codes, flat_map, nat_eq, if◌then◌else◌}
use Rattle.std.specs.Fmt.{decimal}
use Rattle.std.specs.List.{list_any}
use Rattle.scp_core.specs.scp_slot.specs.declared.timers.Timer.{Timer}
use Rattle.scp_core.specs.scp_slot.specs.declared.timers.Timer.TheVariants.{Round, Ballot}

-- Two timers are the same if their kinds, their slots and their numbers are.
abbrev pub same_timer : Timer → Timer → Bool
same_timer (Round slot n) (Round of m) = nat_eq slot.0 of.0 && nat_eq n m
same_timer (Round slot n) (Ballot of m) = false
same_timer (Ballot slot n) (Round of m) = false
same_timer (Ballot slot n) (Ballot of m) = nat_eq slot.0 of.0 && nat_eq n m

-- The timer is one of these.
abbrev pub runs_in : List Timer → Timer → Bool
runs_in timers timer = list_any (same_timer timer) timers

-- A line of a word and a timer: the timer's kind, its slot and its number.
abbrev pub timer_line : List ℕ → Timer → List ℕ
timer_line word (Round slot n) = word ++ codes " round " ++ decimal slot.0 ++ codes " " ++ decimal n ++ codes "\n"
timer_line word (Ballot slot n) = word ++ codes " ballot " ++ decimal slot.0 ++ codes " " ++ decimal n ++ codes "\n"

-- Such a line, if the timer isn't one of these. Otherwise nothing.
abbrev pub missing_line : List ℕ → List Timer → Timer → List ℕ
missing_line word timers timer = if runs_in timers timer then [] else timer_line word timer

-- First the `stop` lines of the timers that ran and no longer run. Then the `start` lines of the timers that run now and didn't before.
abbrev pub changes : List Timer → List Timer → List ℕ
changes old new = flat_map (missing_line (codes "stop") new) old ++ flat_map (missing_line (codes "start") old) new

-- The `start` lines of the timers that run.
abbrev pub running : List Timer → List ℕ
running timers = flat_map (timer_line (codes "start")) timers
