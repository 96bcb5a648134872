-- What came of a link in its shape has each message with its number.
use Rattle.std.proofs.Common.{◌≡◌, ℕ, ◌+◌, ◌<◌, Bool, true, false, cond, List, [], ◌∷◌, ◌++◌, refl, sym, ◌∙◌, ap, subst, nat_eq, arith, append_assoc, length, length-append}
use Rattle.std.specs.Prelude.{Some, filter, flat_map, slice_get, ◌&&◌}
use Rattle.std.specs.List.{AllByRecursion}
use Rattle.std.proofs.lemmas.Grind.{flat_map-append}
use Rattle.std.proofs.lemmas.List.{append-nil}
use Rattle.std.proofs.lemmas.Cmp.{nat_list_eq_equiv}
use Rattle.std.proofs.lemmas.Bool.{eqb-true, eqb-false}
use Rattle.scp_wire.specs.scp_types.specs.declared.names.ConnId.{ConnId}
use Rattle.scp_wire.specs.scp_types.specs.declared.names.NodeId.{NodeId}
use Rattle.scp_wire.specs.declared.message.Message.{Message}
use Rattle.scp_wire.specs.declared.link.Inbound.{Inbound}
use Rattle.scp_wire.specs.declared.link.Inbound.TheVariants.{Opened, Carried, Side, Closed, Local}
use Rattle.scp_wire.specs.Connections.{conn_at, same_conn, same_node}
use Rattle.scp_wire.specs.Shape.{Come, nothing_came, AreInOrder, is_from, of_peer}
use Rattle.scp_wire.specs.Marks.{one_if, came_message, messages_in}
pub use Rattle.scp_wire.specs.Parts.{IsNumbered}
use Rattle.scp_wire.specs.Lanes.{slot_in, slots_of, HasSlot, HaveSlots}

-- ---- connections

pub same_conn-at : (peer me : NodeId) (a b : ℕ) → same_conn (conn_at peer me a) (conn_at peer me b) ≡ nat_eq a b
same_conn-at peer me a b = rw (nat_list_eq_equiv.refl peer.0, nat_list_eq_equiv.refl me.0) refl

pub same_is : (peer me : NodeId) (d : ConnId) (a life : ℕ) → d ≡ conn_at peer me a → same_conn d (conn_at peer me life) ≡ nat_eq a life
same_is peer me d a life e = ap (λ (k : ConnId). same_conn k (conn_at peer me life)) e ∙ same_conn-at peer me a life

pub messages_in-append : (c : ConnId) (xs ys : List Inbound) → messages_in c (xs ++ ys) ≡ messages_in c xs ++ messages_in c ys
messages_in-append c xs ys = flat_map-append (came_message c) xs ys

one_if_not : {X : Type 0} (b b2 b3 : Bool) (x : X) → b ≡ false → one_if (b && b2 && b3) x ≡ []
one_if_not b b2 b3 x e = rw e refl

other_message : (c : ConnId) (x : Inbound) → is_from c.from x ≡ false → came_message c x ≡ []
other_message c (Opened conn) e = refl
other_message c (Carried x) e = one_if_not (same_node x.conn.from c.from) (same_node x.conn.to c.to) (nat_eq x.conn.life c.life) x.message e
other_message c (Side conn message) e = refl
other_message c (Closed conn cause) e = refl
other_message c (Local command) e = refl

pub kept : {X : Type 0} (f : Inbound → List X) (p : Inbound → Bool) (other : (x : Inbound) → p x ≡ false → f x ≡ []) (xs : List Inbound) → flat_map f (filter p xs) ≡ flat_map f xs
kept f p other [] = refl
kept f p other (x ∷ xs) = by_test (p x) refl (kept f p other xs)
  where
    by_test : (b : Bool) → p x ≡ b → flat_map f (filter p xs) ≡ flat_map f xs → flat_map f (cond b (x ∷ filter p xs) (filter p xs)) ≡ f x ++ flat_map f xs
    by_test true e k = ap (λ ys. f x ++ ys) k
    by_test false e k = k ∙ ap (λ ys. ys ++ flat_map f xs) (sym (other x e))

pub messages_of_peer : (c : ConnId) (xs : List Inbound) → messages_in c (of_peer c.from xs) ≡ messages_in c xs
messages_of_peer c xs = kept (came_message c) (is_from c.from) (other_message c) xs

-- ---- each message under its number

slice_get-at : {X : Type 0} (xs : List X) (x : X) (ys : List X) → slice_get (xs ++ x ∷ ys) (length xs) ≡ Some x
slice_get-at [] x ys = refl
slice_get-at (z ∷ zs) x ys = slice_get-at zs x ys

-- so many messages came already
record Came (life : ℕ) (h : Come) (before : List Message) : Type 0 where
  later : h.life < life → before ≡ []
  now : h.life ≡ life → h.is_open ≡ true → length before ≡ h.next

carried_next : (peer me : NodeId) (life : ℕ) (h : Come) (before : List Message) (m : Message) (b : Bool) → nat_eq h.life life ≡ b → h.is_open ≡ true → Came life h before → Came life (record h { next = h.next + 1 }) (before ++ one_if b m)
carried_next peer me life h before m true is o k = record { later = λ lt. absurd (omega (arith, lt, eqb-true h.life life is)); now = λ l _. length-append before (m ∷ []) ∙ ap (λ n. n + 1) (k.now l o) }
carried_next peer me life h before m false is o k = record { later = λ lt. append-nil before ∙ k.later lt; now = λ l _. absurd (eqb-false h.life life is l) }

its_number : (before rest : List Message) (m : Message) (n seq : ℕ) (b : Bool) → (b ≡ true → length before ≡ n) → seq ≡ n → b ≡ true → slice_get (before ++ (one_if b m ++ rest)) seq ≡ Some m
its_number before rest m n seq true l e is = subst (λ k. slice_get (before ++ m ∷ rest) k ≡ Some m) (l refl ∙ sym e) (slice_get-at before m rest)
its_number before rest m n seq false l e is = absurd cc

opened_next : (life : ℕ) (h : Come) (before : List Message) → Came life h before → Came life (record { life = h.life + 1; is_open = true; next = 0 }) before
opened_next life h before k = record { later = λ lt. k.later (omega (arith, lt)); now = λ l _. ap length (k.later (omega (arith, l))) }

numbered_from : (peer me : NodeId) (life : ℕ) (h : Come) (before : List Message) (all : List Message) (xs : List Inbound) → all ≡ before ++ messages_in (conn_at peer me life) xs → Came life h before → AreInOrder peer me h xs → AllByRecursion (IsNumbered (conn_at peer me life) all) xs
numbered_from peer me life h before all [] e k a = tt
numbered_from peer me life h before all (Opened conn ∷ xs) e k a = (tt, numbered_from peer me life (record { life = h.life + 1; is_open = true; next = 0 }) before all xs e (opened_next life h before k) a.1)
numbered_from peer me life h before all (Carried x ∷ xs) e k a =
    let c = conn_at peer me life in
    let is : same_conn x.conn c ≡ nat_eq h.life life = same_is peer me x.conn h.life life a.0.1 in
    let e2 : all ≡ before ++ (one_if (nat_eq h.life life) x.message ++ messages_in c xs) = e ∙ ap (λ (b : Bool). before ++ (one_if b x.message ++ messages_in c xs)) is in (
      (λ s. rw e2 (its_number before (messages_in c xs) x.message h.next x.seq.0 (nat_eq h.life life) (λ t. k.now (eqb-true h.life life t) a.0.0) a.0.2 (sym is ∙ s))),
      numbered_from peer me life (record h { next = h.next + 1 }) (before ++ one_if (nat_eq h.life life) x.message) all xs (e2 ∙ sym (append_assoc before (one_if (nat_eq h.life life) x.message) (messages_in c xs))) (carried_next peer me life h before x.message (nat_eq h.life life) refl a.0.0 k) a.1,
    )
numbered_from peer me life h before all (Side conn message ∷ xs) e k a = (tt, numbered_from peer me life h before all xs e k a.1)
numbered_from peer me life h before all (Closed conn cause ∷ xs) e k a = (tt, numbered_from peer me life (record h { is_open = false }) before all xs e (record { later = k.later; now = λ l o. absurd (let f : false ≡ true = o in cc) }) a.1)
numbered_from peer me life h before all (Local command ∷ xs) e k a = absurd a.0

pub numbered_right : (peer me : NodeId) (life : ℕ) (xs : List Inbound) → AreInOrder peer me nothing_came xs → AllByRecursion (IsNumbered (conn_at peer me life) (messages_in (conn_at peer me life) xs)) xs
numbered_right peer me life xs a = numbered_from peer me life nothing_came [] (messages_in (conn_at peer me life) xs) xs refl (record { later = λ _. refl; now = λ _ _. refl }) a

not_same : (b b2 b3 : Bool) → b ≡ false → (b && b2 && b3) ≡ true → ⊥
not_same b b2 b3 e h = let f : false ≡ true = rw e at h in cc

other_numbered : (c : ConnId) (messages : List Message) (x : Inbound) → is_from c.from x ≡ false → IsNumbered c messages x
other_numbered c messages (Opened conn) e = tt
other_numbered c messages (Carried x) e = λ s. absurd (not_same (same_node x.conn.from c.from) (same_node x.conn.to c.to) (nat_eq x.conn.life c.life) e s)
other_numbered c messages (Side conn message) e = tt
other_numbered c messages (Closed conn cause) e = tt
other_numbered c messages (Local command) e = tt

pub numbered_all : (c : ConnId) (messages : List Message) (xs : List Inbound) → AllByRecursion (IsNumbered c messages) (of_peer c.from xs) → AllByRecursion (IsNumbered c messages) xs
numbered_all c messages [] a = tt
numbered_all c messages (x ∷ xs) a = by_test (is_from c.from x) refl (numbered_all c messages xs) a
  where
    by_test : (b : Bool) → is_from c.from x ≡ b → (AllByRecursion (IsNumbered c messages) (of_peer c.from xs) → AllByRecursion (IsNumbered c messages) xs) → AllByRecursion (IsNumbered c messages) (cond b (x ∷ of_peer c.from xs) (of_peer c.from xs)) → AllByRecursion (IsNumbered c messages) (x ∷ xs)
    by_test true e k h = (h.0, k h.1)
    by_test false e k h = (other_numbered c messages x e, k h)

-- the slots of the messages that came are those of their numbers
slot_is : (c : ConnId) (messages : List Message) (x : Inbound) → IsNumbered c messages x → HasSlot c (slots_of messages) x
slot_is c messages (Opened conn) k = tt
slot_is c messages (Carried x) k = λ e. ap slot_in (k e)
slot_is c messages (Side conn message) k = tt
slot_is c messages (Closed conn cause) k = tt
slot_is c messages (Local command) k = tt

pub slots_are : (c : ConnId) (messages : List Message) (xs : List Inbound) → AllByRecursion (IsNumbered c messages) xs → HaveSlots c (slots_of messages) xs
slots_are c messages [] a = tt
slots_are c messages (x ∷ xs) a = (slot_is c messages x a.0, slots_are c messages xs a.1)
