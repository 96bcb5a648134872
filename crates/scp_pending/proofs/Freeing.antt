-- What a step of the code's loops does.
use Rattle.std.proofs.Common.{◌≡◌, Bool, true, false, cond, not, List, [], ◌∷◌, ◌++◌, refl, sym, ◌∙◌, ap, map, append_assoc}
use Rattle.std.specs.Prelude.{filter}
use Rattle.scp_wire.specs.scp_types.specs.declared.names.ConnId.{ConnId}
use Rattle.scp_wire.specs.scp_types.specs.declared.names.Hash.{Hash}
use Rattle.scp_pending.specs.declared.parked.Parked.{Parked}
use Rattle.scp_pending.specs.Queues.{QueueView, stays_in, leaves_in, leaving_of, is_held, fate, leaves_behind, stays_behind, is_head_waiting, with_first, in_order_of}
use Rattle.scp_pending.proofs.Basics.{append_nil, flat-append}

-- ---- one after another of a queue is looked at

pub stays_more : (kept : List Parked) (p : Parked) (ps : List Parked) → is_held kept p ≡ true → (kept ++ p ∷ []) ++ stays_behind (kept ++ p ∷ []) ps ≡ kept ++ stays_behind kept (p ∷ ps)
stays_more kept p ps e = append_assoc kept (p ∷ []) (stays_behind (kept ++ p ∷ []) ps) ∙ ap (λ zs. kept ++ zs) (sym (ap (λ b. cond b (p ∷ stays_behind (kept ++ p ∷ []) ps) (stays_behind kept ps)) e))

pub leaves_more : (c : ConnId) (kept : List Parked) (p : Parked) (ps : List Parked) → is_held kept p ≡ true → leaves_behind c (kept ++ p ∷ []) ps ≡ leaves_behind c kept (p ∷ ps)
leaves_more c kept p ps e = sym (ap (λ b. cond b (leaves_behind c (kept ++ p ∷ []) ps) (fate c p ++ leaves_behind c kept ps)) e)

pub stays_less : (kept : List Parked) (p : Parked) (ps : List Parked) → is_held kept p ≡ false → stays_behind kept ps ≡ stays_behind kept (p ∷ ps)
stays_less kept p ps e = sym (ap (λ b. cond b (p ∷ stays_behind (kept ++ p ∷ []) ps) (stays_behind kept ps)) e)

pub leaves_less : (c : ConnId) (kept : List Parked) (p : Parked) (ps : List Parked) → is_held kept p ≡ false → fate c p ++ leaves_behind c kept ps ≡ leaves_behind c kept (p ∷ ps)
leaves_less c kept p ps e = sym (ap (λ b. cond b (leaves_behind c (kept ++ p ∷ []) ps) (fate c p ++ leaves_behind c kept ps)) e)

-- ---- one queue after another is served

filter_push : {X : Type 0} (f : X → Bool) (xs : List X) (x : X) → filter f (xs ++ x ∷ []) ≡ filter f xs ++ cond (f x) (x ∷ []) []
filter_push f [] x = refl
filter_push f (y ∷ ys) x = by_test (f y) (filter_push f ys x)
  where
    by_test : (b : Bool) → filter f (ys ++ x ∷ []) ≡ filter f ys ++ cond (f x) (x ∷ []) [] → cond b (y ∷ filter f (ys ++ x ∷ [])) (filter f (ys ++ x ∷ [])) ≡ cond b (y ∷ filter f ys) (filter f ys) ++ cond (f x) (x ∷ []) []
    by_test true e = ap (λ zs. y ∷ zs) e
    by_test false e = e

map_push : {X Y : Type 0} (f : X → Y) (xs : List X) (x : X) → map f (xs ++ x ∷ []) ≡ map f xs ++ f x ∷ []
map_push f [] x = refl
map_push f (y ∷ ys) x = ap (λ zs. f y ∷ zs) (map_push f ys x)

pub served_more : (ys : List QueueView) (q : QueueView) → map stays_in (ys ++ q ∷ []) ≡ map stays_in ys ++ stays_in q ∷ []
served_more ys q = map_push stays_in ys q

pub leaving_goes : (ys : List QueueView) (q : QueueView) → leaving_of (ys ++ q ∷ []) ≡ leaving_of ys ++ leaves_in q
leaving_goes ys q = flat-append leaves_in ys (q ∷ []) ∙ ap (λ zs. leaving_of ys ++ zs) (append_nil (leaves_in q))

-- ---- the queues of one hash first

pub with_waiting : (hash : Hash) (ys : List QueueView) (q : QueueView) → is_head_waiting hash q.parked ≡ true → (filter (λ r. is_head_waiting hash r.parked) (ys ++ q ∷ []) ≡ filter (λ r. is_head_waiting hash r.parked) ys ++ q ∷ []) × (filter (λ r. not (is_head_waiting hash r.parked)) (ys ++ q ∷ []) ≡ filter (λ r. not (is_head_waiting hash r.parked)) ys)
with_waiting hash ys q e = (filter_push (λ r. is_head_waiting hash r.parked) ys q ∙ ap (λ b. filter (λ r. is_head_waiting hash r.parked) ys ++ cond b (q ∷ []) []) e, filter_push (λ r. not (is_head_waiting hash r.parked)) ys q ∙ ap (λ b. filter (λ r. not (is_head_waiting hash r.parked)) ys ++ cond (not b) (q ∷ []) []) e ∙ append_nil (filter (λ r. not (is_head_waiting hash r.parked)) ys))

pub with_other : (hash : Hash) (ys : List QueueView) (q : QueueView) → is_head_waiting hash q.parked ≡ false → (filter (λ r. is_head_waiting hash r.parked) (ys ++ q ∷ []) ≡ filter (λ r. is_head_waiting hash r.parked) ys) × (filter (λ r. not (is_head_waiting hash r.parked)) (ys ++ q ∷ []) ≡ filter (λ r. not (is_head_waiting hash r.parked)) ys ++ q ∷ [])
with_other hash ys q e = (filter_push (λ r. is_head_waiting hash r.parked) ys q ∙ ap (λ b. filter (λ r. is_head_waiting hash r.parked) ys ++ cond b (q ∷ []) []) e ∙ append_nil (filter (λ r. is_head_waiting hash r.parked) ys), filter_push (λ r. not (is_head_waiting hash r.parked)) ys q ∙ ap (λ b. filter (λ r. not (is_head_waiting hash r.parked)) ys ++ cond (not b) (q ∷ []) []) e)

pub order_push : (hashes : List Hash) (hash : Hash) (qs : List QueueView) → in_order_of (hashes ++ hash ∷ []) qs ≡ in_order_of hashes (with_first hash qs)
order_push [] hash qs = refl
order_push (h ∷ hs) hash qs = ap (with_first h) (order_push hs hash qs)
