-- What holds in the stage between two takes, so that the code looks only where something waits. Contracts of public calls don't
-- speak of it.
-- No public clause reaches these definitions: nothing here need be believed.
use Rattle.std.specs.Prelude.{ℕ, ◌≡◌, ◌≤◌, Bool, true, false, List, [], ◌∷◌, ◌++◌, Option}
use Rattle.std.specs.List.{list_any, AllByRecursion}
use Rattle.scp_wire.specs.scp_types.specs.declared.names.ConnId.{ConnId}
use Rattle.scp_wire.specs.scp_types.specs.declared.names.Hash.{Hash}
use Rattle.scp_fetch.specs.declared.want.Want.{Want}
use Rattle.scp_fetch.specs.Wants.{is_wanted, has_conn}
use Rattle.scp_pending.specs.declared.parked.Parked.{Parked}
use Rattle.scp_pending.specs.Queues.{QueueView, is_of, is_held, is_waiting, waited_by}
use Rattle.scp_pending.specs.Causes.{plus}

-- how many queues a connection has
abbrev pub how_many : ConnId → List QueueView → ℕ
how_many c [] = 0
how_many c (q ∷ qs) = plus (how_many c qs) (is_of c q)

abbrev pub AreSingle : List QueueView → Type 0
AreSingle qs = (c : ConnId) → how_many c qs ≤ 1

-- each is held back, after those that stay
abbrev pub AreHeld : List Parked → List Parked → Type 0
AreHeld kept [] = Unit {0}
AreHeld kept (p ∷ ps) = (is_held kept p ≡ true) × AreHeld (kept ++ p ∷ []) ps

-- a want's list has the connections on which something waits for its hash
abbrev pub IsListed : List QueueView → Want → Type 0
IsListed queues want = (c : ConnId) → has_conn c want.waiting ≡ is_waiting c want.hash queues

-- no hash is wanted twice
abbrev pub AreApart : List Want → Type 0
AreApart [] = Unit {0}
AreApart (w ∷ ws) = (is_wanted w.hash ws ≡ false) × AreApart ws

pub record AreListed (queues : List QueueView) (wanted : List Want) : Type 0 where
  pub each : AllByRecursion (IsListed queues) wanted
  pub apart : AreApart wanted

-- nothing waits for a hash that isn't wanted
pub record IsKept (queues : List QueueView) (wanted : List Want) : Type 0 where
  pub single : AreSingle queues
  pub held : AllByRecursion (λ q. AreHeld [] q.parked) queues
  pub listed : AreListed queues wanted
  pub waits : (hash : Hash) (c : ConnId) → is_wanted hash wanted ≡ false → is_waiting c hash queues ≡ false

-- nothing in the queue waits for a hash that the test picks, and nothing in it may leave
pub record IsQuiet (test : Option Hash → Bool) (q : QueueView) : Type 0 where
  pub held : AreHeld [] q.parked
  pub none : list_any (λ p. test (waited_by p)) q.parked ≡ false
