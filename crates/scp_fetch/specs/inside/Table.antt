-- How the wants are kept in memory: each under its hash, in the order in which they began. Contracts of public calls don't
-- speak of it.
-- No public clause reaches these definitions: nothing here need be believed.
use Rattle.std.specs.Prelude.{ℕ, ◌≡◌, List, map}
use Rattle.scp_fetch.specs.declared.want.Want.{Want}

abbrev pub WantEntry : Type 0
WantEntry = List ℕ × Want

abbrev pub want_in : WantEntry → Want
want_in e = e.1

abbrev pub wants_in : List WantEntry → List Want
wants_in es = map want_in es

abbrev pub IsUnderHash : WantEntry → Type 0
IsUnderHash e = e.0 ≡ e.1.hash.0
