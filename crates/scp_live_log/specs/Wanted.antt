-- Which log a start wants (this project's profile).
use Rattle.std.specs.Prelude.{◌≡◌, ◌≤◌, ℕ}
use Rattle.scp_live_log.specs.declared.wanted.Wanted.{Wanted}
use Rattle.scp_live_log.specs.declared.wanted.Wanted.TheVariants.{AtLeast, New}

-- A log with so many entries is the one that is wanted.
abbrev pub Fits : Wanted → ℕ → Type 0
Fits (AtLeast least) n = least ≤ n
Fits New n = n ≡ 0
