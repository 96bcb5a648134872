-- Which statement stands in the way of a stale one (this project's profile).
use Rattle.std.specs.Prelude.{ℕ, Bool, true, false, not, ◌&&◌, ◌||◌, List, Option, Some, None, nat_eq, if◌then◌else◌}
use Rattle.std.specs.Bool.{Decides}
use Rattle.std.specs.List.{list_any, list_all}
use Rattle.std.specs.Ordering.{is_lt}
use Rattle.std.specs.Cmp.Lexicographic.{pointwise}
use Rattle.scp_turn.specs.scp_types.specs.declared.ballot.Ballot.{Ballot}
use Rattle.scp_turn.specs.scp_types.specs.Same.{same_hash, same_node}
use Rattle.scp_turn.specs.scp_envelope.specs.declared.statement.Prepare.{Prepare}
use Rattle.scp_turn.specs.scp_envelope.specs.declared.statement.Confirm.{Confirm}
use Rattle.scp_turn.specs.scp_envelope.specs.declared.statement.Externalize.{Externalize}
use Rattle.scp_turn.specs.scp_envelope.specs.declared.statement.Nominate.{Nominate}
use Rattle.scp_turn.specs.scp_envelope.specs.declared.statement.Pledges.{Pledges}
use Rattle.scp_turn.specs.scp_envelope.specs.declared.statement.Pledges.TheVariants.{Prepare as Preparing, Confirm as Confirming, Externalize as Externalizing, Nominate as Nominating}
use Rattle.scp_turn.specs.scp_envelope.specs.declared.statement.Statement.{Statement}
use Rattle.scp_turn.specs.scp_envelope.specs.declared.statement.Envelope.{Envelope}
use Rattle.scp_turn.specs.scp_envelope.specs.Newer.{prepare_cmp, confirm_cmp, IsNewer}

-- ---- the same statement

-- two ballots have the same counter and the same value
abbrev pub same_ballot : Ballot → Ballot → Bool
same_ballot a b = nat_eq a.counter b.counter && pointwise nat_eq a.value b.value

-- both are absent, or both are there and the same
abbrev pub same_ballots : Option Ballot → Option Ballot → Bool
same_ballots None None = true
same_ballots None (Some b) = false
same_ballots (Some a) None = false
same_ballots (Some a) (Some b) = same_ballot a b

-- the same values, in the same order
abbrev pub same_values : List (List ℕ) → List (List ℕ) → Bool
same_values a b = pointwise (pointwise nat_eq) a b

-- all parts of a PREPARE are the same
abbrev pub same_prepare : Prepare → Prepare → Bool
same_prepare p q = same_hash p.set_hash q.set_hash && same_ballot p.ballot q.ballot && same_ballots p.prepared q.prepared && same_ballots p.prepared_prime q.prepared_prime && nat_eq p.n_commit q.n_commit && nat_eq p.n_high q.n_high

-- all parts of a CONFIRM are the same
abbrev pub same_confirm : Confirm → Confirm → Bool
same_confirm p q = same_ballot p.ballot q.ballot && nat_eq p.n_prepared q.n_prepared && nat_eq p.n_commit q.n_commit && nat_eq p.n_high q.n_high && same_hash p.set_hash q.set_hash

-- all parts of an EXTERNALIZE are the same
abbrev pub same_externalize : Externalize → Externalize → Bool
same_externalize p q = same_ballot p.commit q.commit && nat_eq p.n_high q.n_high && same_hash p.set_hash q.set_hash

-- all parts of a NOMINATE are the same
abbrev pub same_nominate : Nominate → Nominate → Bool
same_nominate p q = same_hash p.set_hash q.set_hash && same_values p.votes q.votes && same_values p.accepted q.accepted

-- they are of one kind, and say the same
abbrev pub same_pledges : Pledges → Pledges → Bool
same_pledges (Preparing p) (Preparing q) = same_prepare p q
same_pledges (Confirming p) (Confirming q) = same_confirm p q
same_pledges (Externalizing p) (Externalizing q) = same_externalize p q
same_pledges (Nominating p) (Nominating q) = same_nominate p q
same_pledges p q = false

-- one node says the same of one slot
abbrev pub same_statement : Statement → Statement → Bool
same_statement s t = same_node s.node t.node && nat_eq s.slot.0 t.slot.0 && same_pledges s.pledges t.pledges

-- ---- the newer statement

-- the value is among these
abbrev pub has_value : List (List ℕ) → List ℕ → Bool
has_value values value = list_any (λ v. pointwise nat_eq v value) values

-- each of the old values is among the new ones
abbrev pub has_all : List (List ℕ) → List (List ℕ) → Bool
has_all new old = list_all (has_value new) old

-- both lists of a NOMINATE have all the old values, and one of them has more
abbrev pub is_newer_nominate : Nominate → Nominate → Bool
is_newer_nominate old new = (has_all new.votes old.votes && has_all new.accepted old.accepted) && (not (has_all old.votes new.votes) || not (has_all old.accepted new.accepted))

-- a ballot statement of a later kind is newer, within PREPARE and within CONFIRM the greater one, and a NOMINATE that has more
abbrev pub are_pledges_newer : Pledges → Pledges → Bool
are_pledges_newer (Preparing old) (Preparing new) = is_lt (prepare_cmp old new)
are_pledges_newer (Preparing old) (Confirming new) = true
are_pledges_newer (Preparing old) (Externalizing new) = true
are_pledges_newer (Confirming old) (Confirming new) = is_lt (confirm_cmp old new)
are_pledges_newer (Confirming old) (Externalizing new) = true
are_pledges_newer (Nominating old) (Nominating new) = is_newer_nominate old new
are_pledges_newer old new = false

-- the second is newer than the first
abbrev pub is_newer : Statement → Statement → Bool
is_newer old new = (same_node old.node new.node && nat_eq old.slot.0 new.slot.0) && are_pledges_newer old.pledges new.pledges

-- this test passes just the newer statements
abbrev pub NewerIsTold : Type 0
NewerIsTold = (old new : Statement) → Decides (is_newer old new) (IsNewer old new)

-- ---- what stands in the way

-- the statement that stands, where it is neither the same as the one that came nor newer
abbrev pub in_the_way : Envelope → Option Envelope → Option Envelope
in_the_way came None = None
in_the_way came (Some standing) = if same_statement came.statement standing.statement || is_newer came.statement standing.statement then None else Some standing
