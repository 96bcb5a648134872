-- What is wanted and asked, by the calls so far (this project's profile).
use Rattle.std.specs.Prelude.{ℕ, ◌<◌, ◌≡◌, ◌↔◌, Bool, true, not, List, [], ◌∷◌, ◌++◌, nat_eq, fold}
use Rattle.std.specs.List.{AllByRecursion}
use Rattle.scp_quorum.specs.scp_types.specs.declared.names.ConnId.{ConnId}
use Rattle.scp_quorum.specs.scp_types.specs.declared.names.Hash.{Hash}
use Rattle.scp_quorum.specs.scp_types.specs.declared.limits.TheConstants.{LINK_LIMIT}
use Rattle.scp_fetch.specs.declared.want.Want.{Want}
use Rattle.scp_fetch.specs.declared.want.Miss.{Miss}
use Rattle.scp_fetch.specs.Wants.{is_wanted, is_asked, wanted_by, unasked, left_by, missed_by, without}

-- a call that changes what is wanted
pub data Call : Type 0 where
  wants : Hash → ℕ → ConnId → Call  -- the connection, over the link, waits for the hash, so that the link is asked for it
  opens : ℕ → Call  -- the link opened
  ends : ConnId → Call  -- the connection ended
  misses : Miss → Call  -- a hash was missed, or each
  answers : Hash → Call  -- a set of the hash came

-- what is wanted after one call
abbrev pub made : List Want → Call → List Want
made ws (wants hash link c) = wanted_by hash link c ws
made ws (opens link) = unasked link ws
made ws (ends c) = left_by c ws
made ws (misses miss) = missed_by miss ws
made ws (answers hash) = without hash ws

-- what is wanted after these calls
abbrev pub wanted_after : List Call → List Want
wanted_after calls = fold made [] calls

-- the hash is wanted now, and after each of these calls
abbrev pub StaysWanted : Hash → List Want → List Call → Type 0
StaysWanted hash ws [] = is_wanted hash ws ≡ true
StaysWanted hash ws (call ∷ calls) = (is_wanted hash ws ≡ true) × StaysWanted hash (made ws call) calls

-- the call doesn't open the link
abbrev pub opens_not : ℕ → Call → Bool
opens_not link (wants hash l c) = true
opens_not link (opens l) = not (nat_eq l link)
opens_not link (ends c) = true
opens_not link (misses miss) = true
opens_not link (answers hash) = true

-- the link was asked for the hash, and since then the hash stayed wanted and the link didn't open
pub record WasAsked (hash : Hash) (link : ℕ) (ws : List Want) (calls : List Call) : Type 0 where
  pub before : List Call
  pub conn : ConnId
  pub rest : List Call
  pub at : calls ≡ before ++ wants hash link conn ∷ rest
  pub wanted : StaysWanted hash (made (fold made ws before) (wants hash link conn)) rest
  pub shut : AllByRecursion (λ call. opens_not link call ≡ true) rest

-- a link counts as asked exactly where it was asked so
abbrev pub AskedByTheCalls : Type 0
AskedByTheCalls = (calls : List Call) (hash : Hash) (link : ℕ) → link < LINK_LIMIT → (is_asked hash link (wanted_after calls) ≡ true) ↔ WasAsked hash link [] calls
