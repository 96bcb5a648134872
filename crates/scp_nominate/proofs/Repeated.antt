-- The steps, one pass after the other.
use Rattle.std.proofs.Common.{◌≡◌, ◌↔◌, ℕ, zero, suc, List, length, Option, Some, cond, refl, ◌∙◌, ap, subst, inl, inr, arith}
use Rattle.std.specs.BTreeMap.{is_at}
use Rattle.std.proofs.Math.Path.{fun_ext}
use Rattle.scp_vote.specs.scp_types.specs.declared.names.NodeId.{NodeId}
use Rattle.scp_vote.specs.scp_types.specs.declared.names.Hash.{Hash}
use Rattle.scp_vote.specs.scp_quorum.specs.NodeSet.{node_cmp}
use Rattle.scp_vote.specs.scp_quorum.specs.QuorumTree.{QuorumTree}
use Rattle.scp_vote.specs.scp_envelope.specs.declared.statement.Pledges.{Pledges}
use Rattle.scp_vote.specs.declared.claim.Claim.TheVariants.{Nominated}
use Rattle.scp_vote.specs.Board.{Seen, Puts, Confirmed}
use Rattle.scp_nominate.specs.declared.values.ValueSet.{ValueSet}
use Rattle.scp_nominate.specs.declared.lists.Lists.{Lists}
use Rattle.scp_nominate.specs.Values.{Has}
use Rattle.scp_nominate.specs.Own.{own_of, IsKnown}
use Rattle.scp_nominate.specs.inside.Own.{size, own_same}
use Rattle.scp_nominate.specs.Owed.{OwnLists}
use Rattle.scp_nominate.specs.inside.Steps.{Confirms}
use Rattle.scp_nominate.specs.Steps.{own_lists}
use Rattle.scp_nominate.specs.InTurn.{InTurn}
use Rattle.scp_nominate.specs.Voting.{VotesOwn, VotesInTurn, VotesFirst}
use Rattle.scp_nominate.specs.Taking.{TakesOne, TakesInTurn, FindsAll}
use Rattle.scp_nominate.specs.Repeating.{Rule, StepsOnce, SaysTheSame, renewed, Repeats, LeadsTo}
use Rattle.scp_nominate.proofs.Growing.{more_has}

-- the candidates after a pass
pub finds_all : (b : Seen) (s : Lists) (new : ValueSet) → Confirms (λ v. Has s.accepted v) b s.candidates new → ((v : List ℕ) → Has s.accepted v → Confirmed b (Nominated v) → Has new v) → FindsAll b (own_lists s) (own_lists (record s { candidates = new }))
finds_all b s new confirms done = record {
  rest = refl;
  ascends = new.ascending;
  holds = λ v. (λ h. confirms.only v h, λ h. elim h [ inl had ↦ more_has s.candidates new v confirms.more had | inr now ↦ done v now.0 now.1 ]);
}

pub takes_all : (full : List ℕ → Type 0) (b : Seen) (known : ValueSet) (s t : Lists) → IsKnown full b known → InTurn (λ v x y. TakesOne b v x y) known.values.items (own_lists s) (own_lists t) → TakesInTurn full b (own_lists s) (own_lists t)
takes_all full b known s t is each = record { values = known.values.items; on_board = record { ascend = known.ascending; all = is.complete; valid = is.sound }; each = each }

-- the board on which the own statement is put is that with it
pub puts_renewed : (b c : Seen) (hash : Hash) (s : Lists) → Puts b c b.me (own_of hash s) b.local → c ≡ renewed hash b (own_lists s)
puts_renewed b c hash s puts =
    ap (λ m. let d : Seen = record { me = m; local = c.local; statement = c.statement; counted = c.counted } in d) puts.me
    ∙ ap (λ l. let d : Seen = record { me = b.me; local = l; statement = c.statement; counted = c.counted } in d) puts.local
    ∙ ap (λ (f : NodeId → Option Pledges). let d : Seen = record { me = b.me; local = b.local; statement = f; counted = c.counted } in d) (fun_ext (λ v. puts.statements v))
    ∙ ap (λ (f : NodeId → Option QuorumTree). let d : Seen = record { me = b.me; local = b.local; statement = λ v. cond (is_at (node_cmp b.me) v) (Some (own_of hash s)) (b.statement v); counted = f } in d) (fun_ext (λ v. puts.sets v))

pub says_same : (s t : Lists) → own_same s t → SaysTheSame (own_lists s) (own_lists t)
says_same s t same = (ap (λ (x : ValueSet). x.values.items) same.0, ap (λ (x : ValueSet). x.values.items) same.1)

pub says_other : (s t : Lists) → (size t ≡ size s → ⊥) → ¬ (SaysTheSame (own_lists s) (own_lists t))
says_other s t differ same =
    let votes : length t.votes.values.items ≡ length s.votes.values.items = ap length same.0 in
    let accepted : length t.accepted.values.items ≡ length s.accepted.values.items = ap length same.1 in
    differ (omega (arith, votes, accepted))

module _ (rule : Rule) (hash : Hash) (first : Seen) (lists : OwnLists) where
  -- what the steps come to from here, they come to from the first
  abbrev pub GoesRound : Seen → OwnLists → Type 0
  GoesRound b s = (n : ℕ) (c : Seen) (t : OwnLists) → Repeats n rule hash b s c t → LeadsTo rule hash first lists c t

  pub round_ends : (b : Seen) (s mid : OwnLists) → GoesRound b s → StepsOnce rule b s mid → SaysTheSame s mid → LeadsTo rule hash first lists b mid
  round_ends b s mid goes steps same = goes 1 b mid (mid, steps, inl (same, refl, refl))

  pub round_more : (b c : Seen) (s mid t : OwnLists) → GoesRound b s → StepsOnce rule b s mid → ¬ (SaysTheSame s mid) → c ≡ renewed hash b mid → t ≡ mid → GoesRound c t
  round_more b c s mid t goes steps differs board is n d u h =
      goes (suc n) d u (mid, steps, inr (differs, subst (λ x. Repeats n rule hash x mid d u) board (subst (λ x. Repeats n rule hash c x d u) is h)))

pub round_first : (rule : Rule) (hash : Hash) (b : Seen) (s : OwnLists) → GoesRound rule hash b s b s
round_first rule hash b s n c t h = (n, h)

-- by the same leaders
module _ (full : List ℕ → Type 0) (extracted : List ℕ → Option (List ℕ)) (proposal : Option (List ℕ)) (L M : NodeId → Type 0) (same : (v : NodeId) → L v ↔ M v) where
  abbrev by : (NodeId → Type 0) → Rule
  by leads = record { full = full; extracted = extracted; leads = leads; proposal = proposal }

  own_led : (v : NodeId) (old new : List (List ℕ)) → VotesOwn (L v) proposal old new → VotesOwn (M v) proposal old new
  own_led v old new (inl h) = inl ((same v).0 h.0, h.1)
  own_led v old new (inr h) = inr ((λ m. h.0 ((same v).1 m)), h.1)

  votes_led : (b : Seen) (old new : List (List ℕ)) → VotesInTurn full extracted L proposal b old new → VotesInTurn full extracted M proposal b old new
  votes_led b old new h = record {
    proposed = h.proposed;
    own = own_led b.me old h.proposed h.own;
    leaders = h.leaders;
    lead = record { ascend = h.lead.ascend; all = λ v. (λ k. (same v).0 ((h.lead.all v).0 k), λ k. (h.lead.all v).1 ((same v).1 k)) };
    others = h.others;
  }

  first_led : (b : Seen) (s t : OwnLists) → VotesFirst full extracted L proposal b s t → VotesFirst full extracted M proposal b s t
  first_led b s t (inl h) = inl (h.0, votes_led b s.votes t.votes h.1, h.2)
  first_led b s t (inr h) = inr h

  steps_led : (b : Seen) (s t : OwnLists) → StepsOnce (by L) b s t → StepsOnce (by M) b s t
  steps_led b s t h = record { voted = h.voted; votes = first_led b s h.voted h.votes; taken = h.taken; takes = h.takes; finds = h.finds }

  repeats_led : (n : ℕ) (hash : Hash) (b : Seen) (s : OwnLists) (c : Seen) (t : OwnLists) → Repeats n (by L) hash b s c t → Repeats n (by M) hash b s c t
  repeats_led zero hash b s c t h = h
  repeats_led (suc n) hash b s c t h = (h.0, steps_led b s h.0 h.1, elim h.2 [ inl ends ↦ inl ends | inr more ↦ inr (more.0, repeats_led n hash (renewed hash b h.0) h.0 c t more.1) ])

  pub leads_to : (hash : Hash) (b : Seen) (s : OwnLists) (c : Seen) (t : OwnLists) → LeadsTo (by L) hash b s c t → LeadsTo (by M) hash b s c t
  leads_to hash b s c t h = (h.0, repeats_led h.0 hash b s c t h.1)
