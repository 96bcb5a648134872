-- The hashes that are wanted, in the order in which they became so. Each has its misses since then, the links that
-- were asked, and the connections that wait for it, in the order of their first wait (this project's profile).
use Rattle.std.specs.Prelude.{ℕ, ◌+◌, ◌++◌, [], ◌∷◌, List, Bool, true, false, not, ◌&&◌, nat_lt, slice_set, filter, map, if◌then◌else◌, replicate, slice_index_or}
use Rattle.std.specs.List.{list_any}
use Rattle.scp_quorum.specs.scp_types.specs.declared.names.ConnId.{ConnId}
use Rattle.scp_quorum.specs.scp_types.specs.declared.names.Hash.{Hash}
use Rattle.scp_quorum.specs.scp_types.specs.declared.limits.TheConstants.{LINK_LIMIT}
use Rattle.scp_fetch.specs.Hashes.{same_hash, same_conn}
use Rattle.scp_fetch.specs.declared.want.Want.{Want}
use Rattle.scp_fetch.specs.declared.want.Miss.{Miss}
use Rattle.scp_fetch.specs.declared.want.Miss.TheVariants.{One, All}
use Rattle.scp_fetch.specs.declared.answers.Missed.{Missed}
use Rattle.scp_fetch.specs.declared.answers.Missed.TheVariants as missed
use Rattle.scp_fetch.specs.declared.answers.Answer.{Answer}
use Rattle.scp_fetch.specs.declared.answers.Answer.TheVariants as answer

-- the want is for this hash
abbrev pub is_for : Hash → Want → Bool
is_for hash want = same_hash hash want.hash

-- the hash is wanted
abbrev pub is_wanted : Hash → List Want → Bool
is_wanted hash wants = list_any (is_for hash) wants

-- the hash is wanted, and the link was asked since both the hash became wanted and the link last opened
abbrev pub is_asked : Hash → ℕ → List Want → Bool
is_asked hash link wants = list_any (λ want. is_for hash want && slice_index_or want.asked link false) wants

-- ---- wanting and asking

-- whether the connection is in the list
abbrev pub has_conn : ConnId → List ConnId → Bool
has_conn c conns = list_any (same_conn c) conns

-- the connections with this one, each once
abbrev pub joined : ConnId → List ConnId → List ConnId
joined c conns = if has_conn c conns then conns else conns ++ c ∷ []

-- if the want is for the hash, the link counts as asked for it, and the connection waits
abbrev pub ask : Hash → ℕ → ConnId → Want → Want
ask hash link c want = if is_for hash want then record want { asked = slice_set want.asked link true; waiting = joined c want.waiting } else want

-- a new want of a hash: the link counts as asked for it, and the connection waits
abbrev pub new_want : Hash → ℕ → ConnId → Want
new_want hash link c = record { hash = hash; misses = 0; asked = slice_set (replicate LINK_LIMIT false) link true; waiting = c ∷ [] }

-- the hash is wanted, the link counts as asked for it, and the connection waits
abbrev pub wanted_by : Hash → ℕ → ConnId → List Want → List Want
wanted_by hash link c wants = if is_wanted hash wants then map (ask hash link c) wants else wants ++ new_want hash link c ∷ []

-- the link counts as not asked for this want
abbrev pub unask : ℕ → Want → Want
unask link want = record want { asked = slice_set want.asked link false }

-- the link counts as not asked for any of them
abbrev pub unasked : ℕ → List Want → List Want
unasked link wants = map (unask link) wants

-- ---- waiting

-- the connections that wait for the hash
abbrev pub waiting_for : Hash → List Want → List ConnId
waiting_for hash [] = []
waiting_for hash (want ∷ wants) = if is_for hash want then want.waiting else waiting_for hash wants

-- whether another connection waits too
abbrev pub waits_besides : ConnId → Want → Bool
waits_besides c want = list_any (λ d. not (same_conn c d)) want.waiting

-- the connection doesn't wait for it anymore
abbrev pub leave : ConnId → Want → Want
leave c want = record want { waiting = filter (λ d. not (same_conn c d)) want.waiting }

-- the connection waits for nothing anymore, and a want ends if no other one waits for it
abbrev pub left_by : ConnId → List Want → List Want
left_by c wants = map (leave c) (filter (waits_besides c) wants)

-- the hash isn't wanted anymore
abbrev pub without : Hash → List Want → List Want
without hash wants = filter (λ want. not (is_for hash want)) wants

-- ---- misses

-- whether the miss is one of this hash; a miss of all is
abbrev pub is_missed : Miss → Hash → Bool
is_missed (One missed) hash = same_hash missed hash
is_missed All hash = true

-- whether the miss is the twelfth of this want
abbrev pub is_last : Miss → Want → Bool
is_last miss want = is_missed miss want.hash && nat_lt 10 want.misses

-- one more miss, if it is one of this want's hash
abbrev pub count_miss : Miss → Want → Want
count_miss miss want = if is_missed miss want.hash then record want { misses = want.misses + 1 } else want

-- the twelfth miss ends a want, and an earlier one counts
abbrev pub missed_by : Miss → List Want → List Want
missed_by miss wants = map (count_miss miss) (filter (λ want. not (is_last miss want)) wants)

-- the hash is wanted, and this miss is its twelfth
abbrev pub gives_up : Miss → List Want → Hash → Bool
gives_up miss wants hash = list_any (λ want. is_for hash want && is_last miss want) wants

-- the hashes that one more miss of each gives up, in the order in which they became wanted
abbrev pub last_missed : List Want → List Hash
last_missed wants = map (λ want. want.hash) (filter (is_last All) wants)

-- ---- answers

-- what a miss of a hash does: the twelfth ends the want, and an earlier one is counted; for a hash that isn't wanted it does nothing
-- (this project's profile)
abbrev pub miss_of : Hash → List Want → Missed
miss_of hash wants = if gives_up (One hash) wants hash then missed.GaveUp else (if is_wanted hash wants then missed.Waiting else missed.Unwanted)

-- what happens when a set with this hash comes: the hash isn't wanted; or it is, and the set is sane, or insane
abbrev pub answer_of : Hash → Bool → List Want → Answer
answer_of hash sane wants = if is_wanted hash wants then (if sane then answer.Sane else answer.Insane) else answer.Unwanted
