-- What a call keeps, and what follows for every list of takes.
use Rattle.std.proofs.Common.{◌≡◌, ℕ, true, false, List, [], ◌∷◌, ◌++◌, refl, sym, ◌∙◌, ap, subst, append_assoc}
use Rattle.std.specs.Prelude.{◌↔◌, Option, Some, None, IfNone, option_to_list}
use Rattle.scp_wire.specs.scp_types.specs.declared.names.NodeId.{NodeId}
use Rattle.scp_wire.specs.scp_quorum.specs.QuorumTree.{QuorumTree}
use Rattle.scp_wire.specs.declared.link.Inbound.{Inbound}
use Rattle.scp_pending.specs.declared.ready.Ready.{Ready}
use Rattle.scp_pending.specs.Queues.{QueueView, at_slot}
use Rattle.scp_pending.specs.Rules.{PendingView, Settled, fresh, rules, releases, taken_in, settled_by, released_by}
use Rattle.scp_pending.specs.Causes.{HeadWaits}
use Rattle.scp_pending.specs.Pends.{Pends, IsSettled, start_of}
use Rattle.scp_pending.specs.Laws.{AllHaveCauses, FewAreParked, WaitersWait}
use Rattle.scp_pending.proofs.Basics.{append_nil, all_weaker}
use Rattle.scp_pending.proofs.Later.{settled-push}
use Rattle.scp_pending.proofs.Standing.{Fits, head_waits}
use Rattle.scp_pending.proofs.Listing.{waiting_is}
use Rattle.scp_pending.proofs.Sound.{Sound, nothing_waits, sound_start, sound_along, local_step}
use Rattle.scp_pending.proofs.Exiting.{few_of_conn}

pub released-append : (s : Settled) (xs ys : List Inbound) → released_by s (xs ++ ys) ≡ released_by s xs ++ released_by (settled_by s xs) ys
released-append s [] ys = refl
released-append s (x ∷ xs) ys = ap (λ zs. releases s x ++ zs) (released-append (rules s x) xs ys) ∙ sym (append_assoc (releases s x) (released_by (rules s x) xs) (released_by (settled_by (rules s x) xs) ys))

pub Pends-take : (me : NodeId) (peers : List NodeId) (taken : List Inbound) (given : List Ready) (v : PendingView) (item : Inbound) → Pends me peers taken given v → Pends me peers (taken ++ item ∷ []) (given ++ []) (taken_in v item)
Pends-take me peers taken given v item p =
    let local : (rules v.settled item).store.local ≡ v.settled.store.local = local_step v.settled item in
    let start : start_of me peers (taken_in v item) ≡ start_of me peers v = ap (λ (l : QuorumTree). fresh me peers l) local in
    record {
      runs = p.runs;
      local_is_sane = rw local p.local_is_sane;
      settled = ap (λ (t : Settled). rules t item) p.settled ∙ sym (settled-push (start_of me peers v) taken item) ∙ ap (λ (t : Settled). settled_by t (taken ++ item ∷ [])) (sym start);
      left = ap (λ (zs : List Ready). zs ++ (v.leaving ++ releases v.settled item)) (append_nil given) ∙ sym (append_assoc given v.leaving (releases v.settled item)) ∙ ap (λ (zs : List Ready). zs ++ releases v.settled item) p.left ∙ ap (λ (t : Settled). released_by (start_of me peers v) taken ++ releases t item) p.settled ∙ ap (λ (zs : List Ready). released_by (start_of me peers v) taken ++ zs) (sym (append_nil (releases (settled_by (start_of me peers v) taken) item))) ∙ sym (released-append (start_of me peers v) taken (item ∷ [])) ∙ ap (λ (t : Settled). released_by t (taken ++ item ∷ [])) (sym start);
    }

pub Pends-out : (me : NodeId) (peers : List NodeId) (taken : List Inbound) (given : List Ready) (v : PendingView) (got rest : List Ready) → v.leaving ≡ got ++ rest → Pends me peers taken given v → Pends me peers (taken ++ []) (given ++ got) (record v { leaving = rest })
Pends-out me peers taken given v got rest e p = rw (append_nil taken) (record {
  runs = p.runs;
  local_is_sane = p.local_is_sane;
  settled = p.settled;
  left = append_assoc given got rest ∙ ap (λ (zs : List Ready). given ++ zs) (sym e) ∙ p.left;
})

-- a failed stage holds nothing more
pub Pends-failed : (me : NodeId) (peers : List NodeId) (taken more : List Inbound) (given out : List Ready) (v w : PendingView) → v.failed ≡ true → Pends me peers taken given v → Pends me peers (taken ++ more) (given ++ out) w
Pends-failed me peers taken more given out v w f p = absurd (let e : true ≡ false = sym f ∙ p.runs in cc)

pub sound_of : (me : NodeId) (peers : List NodeId) (taken : List Inbound) (given : List Ready) (v : PendingView) → Pends me peers taken given v → Sound (start_of me peers v) taken v.settled (given ++ v.leaving)
sound_of me peers taken given v p =
    let start = start_of me peers v in
    let all : Sound start taken (settled_by start taken) (released_by start taken) = sound_along start [] taken start [] (sound_start me peers v.settled.store.local p.local_is_sane) in
    subst (λ (t : Settled). Sound start taken t (given ++ v.leaving)) (sym p.settled) (subst (λ (out : List Ready). Sound start taken (settled_by start taken) out) (sym p.left) all)

pub IsSettled-of : (me : NodeId) (peers : List NodeId) (taken : List Inbound) (given : List Ready) (v : PendingView) → v.leaving ≡ [] → Pends me peers taken given v → IsSettled me peers taken v
IsSettled-of me peers taken given v none p =
    let k = sound_of me peers taken given v p in
    record {
      nothing_ready = none;
      heads_wait = all_weaker (Fits (start_of me peers v) taken v.settled.wanted) (λ (q : QueueView). (n : ℕ) → HeadWaits (start_of me peers v) taken q.conn (at_slot n q.parked)) v.settled.queues (λ q f. head_waits (start_of me peers v) taken v.settled.wanted k.wanted q f) k.fits;
    }

pub all_have_causes : AllHaveCauses
all_have_causes me peers taken given v p = (sound_of me peers taken given v p).causes

pub few_are_parked : FewAreParked
few_are_parked me peers taken given v p c = few_of_conn (start_of me peers v) taken v.settled.wanted c v.settled.queues (sound_of me peers taken given v p).fits

pub none_as : (o : Option Ready) (ys xs rest : List Ready) → ys ≡ option_to_list o ++ rest → xs ≡ option_to_list o ++ rest → IfNone o (xs ≡ []) → IfNone o (ys ≡ [])
none_as None ys xs rest e f n = e ∙ sym f ∙ n
none_as (Some ready) ys xs rest e f n = tt

pub settled_just : (me : NodeId) (peers : List NodeId) (taken : List Inbound) (given : List Ready) (v : PendingView) (o : Option Ready) (rest : List Ready) → v.leaving ≡ option_to_list o ++ rest → IfNone o (v.leaving ≡ []) → Pends me peers taken given v → o ≡ None ↔ IsSettled me peers taken v
settled_just me peers taken given v None rest e none p = ((λ k. IsSettled-of me peers taken given v none p), (λ k. refl))
settled_just me peers taken given v (Some ready) rest e none p = ((λ k. absurd cc), (λ k. absurd (let bad : ready ∷ rest ≡ [] = sym e ∙ k.nothing_ready in cc)))

pub still : (v : PendingView) (o : Option Ready) (rest : List Ready) → v.leaving ≡ option_to_list o ++ rest → o ≡ None → record v { leaving = rest } ≡ v
still v None rest e k = rw (← e) refl
still v (Some ready) rest e k = absurd cc

pub waiters_wait : WaitersWait
waiters_wait me peers taken given v p hash c = (let k = sound_of me peers taken given v p in waiting_is hash v.settled.queues v.settled.wanted k.listed.each (λ un d. nothing_waits (start_of me peers v) taken v.settled.wanted hash d v.settled.queues un k.fits) c)
