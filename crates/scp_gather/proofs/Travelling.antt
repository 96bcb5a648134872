-- What a courier carried of what came out of an outbox.
use Rattle.std.proofs.Common.{arith, ◌≡◌, ◌≢◌, ℕ, zero, suc, List, [], ◌∷◌, ◌++◌, refl, sym, ap, ◌∙◌, subst, append-nil, append_assoc}
use Rattle.std.specs.Prelude.{None, All, Contains}
use Rattle.std.specs.List.{AllZip}
use Rattle.std.proofs.lemmas.Grind.{flat_map-append}
use Rattle.std.proofs.lemmas.List.Elements.{All-nil, All-cons, All-contains, All-weaker, Contains-append_right}
use Rattle.scp_workers.specs.scp_wire.specs.declared.link.LinkItem.{LinkItem}
use Rattle.scp_workers.specs.scp_wire.specs.declared.link.LinkItem.TheVariants as item
use Rattle.scp_workers.specs.scp_wire.specs.declared.message.Message.{Message}
use Rattle.scp_workers.specs.scp_wire.specs.Message.{message_value, SpellsMessage}
use Rattle.scp_workers.specs.scp_outbox.specs.declared.mark.Mark.{Mark}
use Rattle.scp_workers.specs.scp_outbox.specs.declared.mark.Mark.TheVariants.{Opened, Closed, Stop}
use Rattle.scp_workers.specs.scp_outbox.specs.declared.mark.Out.{Out}
use Rattle.scp_workers.specs.scp_outbox.specs.declared.mark.Out.TheVariants as out
use Rattle.scp_workers.specs.scp_outbox.specs.Sent.{statement_of}
use Rattle.scp_workers.specs.scp_shared_outbox.specs.Laws.{messages_of, GivenWasPut, StatementsGoInOrder}
use Rattle.scp_workers.specs.scp_shared_outbox.specs.Table.{by_three}
use Rattle.scp_workers.specs.scp_ends.specs.Links.{LinkEnd, conn_now, conn_next, with_item}
use Rattle.scp_workers.specs.Carrying.{Tells, Carried, unsent}
use Rattle.scp_workers.specs.scp_theorem.specs.Grounds.{Grounds, MaySend}
use Rattle.scp_workers.specs.scp_theorem.specs.Laws.{MayAnswer, MayGo}
use Rattle.scp_gather.specs.Sent.{bytes_on, bytes_among, WhatIsCarriedIsSentOut}

-- ---- what was given

-- what holds of each message among what was given holds of all of them
all_given : (P : Message → Type 0) (gave : List Out) → ((m : Message) → Contains gave (out.Message m) → P m) → All P (messages_of gave)
all_given P [] h = All-nil P
all_given P (out.Mark mark ∷ rest) h = all_given P rest (λ m there. h m (Contains-append_right (out.Mark mark ∷ []) rest (out.Message m) there))
all_given P (out.Message message ∷ rest) h =
    All-cons P message (messages_of rest) (h message (0, omega arith, refl))
    (all_given P rest (λ m there. h m (Contains-append_right (out.Message message ∷ []) rest (out.Message m) there)))
all_given P (out.Nothing ∷ rest) h = all_given P rest (λ m there. h m (Contains-append_right (out.Nothing ∷ []) rest (out.Message m) there))

-- all that a stage put may be sent
may_put : (g : Grounds) (link : ℕ) (replies said answers : List Message) → MayGo g link replies said answers → (p : ℕ) → All (MaySend g link) (by_three replies said answers p)
may_put g link replies said answers may zero = All-weaker (MayAnswer g link) (MaySend g link) (λ m h. h.0) replies may.replies_may
may_put g link replies said answers may (suc zero) = may.said_may
may_put g link replies said answers may (suc (suc zero)) = All-weaker (MayAnswer g link) (MaySend g link) (λ m h. h.0) answers may.answers_may
may_put g link replies said answers may (suc (suc (suc p))) = All-nil (MaySend g link)

-- it is no statement
abbrev IsOther : Message → Type 0
IsOther m = statement_of m ≡ None

-- only the slot stage put statements
others_put : (g : Grounds) (link : ℕ) (replies said answers : List Message) → MayGo g link replies said answers → (p : ℕ) → p ≢ 1 → All IsOther (by_three replies said answers p)
others_put g link replies said answers may zero other = All-weaker (MayAnswer g link) IsOther (λ m h. h.1) replies may.replies_may
others_put g link replies said answers may (suc zero) other = absurd (other refl)
others_put g link replies said answers may (suc (suc zero)) other = All-weaker (MayAnswer g link) IsOther (λ m h. h.1) answers may.answers_may
others_put g link replies said answers may (suc (suc (suc p))) other = All-nil IsOther

-- ---- what was carried

-- one item more adds the bytes that it carries
one_more : (old new : LinkEnd) (x : LinkItem) → new ≡ with_item old x → bytes_among new.tail.sent ≡ bytes_among old.tail.sent ++ bytes_on x
one_more old new x is =
    ap (λ (k : LinkEnd). bytes_among k.tail.sent) is
    ∙ flat_map-append bytes_on old.tail.sent (x ∷ [])
    ∙ ap (λ l. bytes_among old.tail.sent ++ l) (append-nil (bytes_on x))

-- a mark adds none
mark_adds_none : (mark : Mark) (old new : LinkEnd) → Tells mark old new → bytes_among new.tail.sent ≡ bytes_among old.tail.sent
mark_adds_none Opened old new is = one_more old new (item.Opened (conn_next old)) is ∙ append-nil (bytes_among old.tail.sent)
mark_adds_none Closed old new is = one_more old new (item.Closed (conn_now old)) is ∙ append-nil (bytes_among old.tail.sent)
mark_adds_none Stop old new is = ap (λ (k : LinkEnd). bytes_among k.tail.sent) is

-- the bytes that went over the link from then on encode these messages
abbrev HasSpelt : List Message → LinkEnd → LinkEnd → Type 0
HasSpelt messages old new = (bs : List (List ℕ)) × (bytes_among new.tail.sent ≡ bytes_among old.tail.sent ++ bs) × AllZip (λ bytes m. SpellsMessage bytes (message_value m)) bs messages

-- what comes first added none
later : (messages : List Message) (old between new : LinkEnd) → bytes_among between.tail.sent ≡ bytes_among old.tail.sent → HasSpelt messages between new → HasSpelt messages old new
later messages old between new same h = (h.0, h.1 ∙ ap (λ l. l ++ h.0) same, h.2)

pub carried_is_spelt : (gave : List Out) (old new : LinkEnd) → Carried gave old new → HasSpelt (messages_of gave) old new
carried_is_spelt [] old new is = ([], ap (λ (k : LinkEnd). bytes_among k.tail.sent) is ∙ sym (append-nil (bytes_among old.tail.sent)), tt)
carried_is_spelt (out.Mark mark ∷ rest) old new h = later (messages_of rest) old h.0 new (mark_adds_none mark old h.0 h.1) (carried_is_spelt rest h.0 new h.2)
carried_is_spelt (out.Message message ∷ rest) old new h =
    let bytes : List ℕ = h.1.0 in
    let more = carried_is_spelt rest h.0 new h.2 in (
      bytes ∷ more.0,
      more.1 ∙ ap (λ l. l ++ more.0) (one_more old h.0 (item.Bytes (conn_now old) bytes) h.1.2) ∙ append_assoc (bytes_among old.tail.sent) (bytes ∷ []) more.0,
      (h.1.1, more.2),
    )
carried_is_spelt (out.Nothing ∷ rest) old new h = later (messages_of rest) old h.0 new (ap (λ (k : LinkEnd). bytes_among k.tail.sent) h.1) (carried_is_spelt rest h.0 new h.2)

-- ---- the law

pub carried_is_sent_out : GivenWasPut → StatementsGoInOrder → WhatIsCarriedIsSentOut
carried_is_sent_out put order g link replies said answers gave k may came carried =
    let puts : ℕ → List Message = by_three replies said answers in
    let spelt = carried_is_spelt gave (unsent k) k carried.carried in
    let allowed : (m : Message) → Contains gave (out.Message m) → MaySend g link m = λ m there. (
    let by = put puts came.marks gave came.left came.out_of m there in
    All-contains (MaySend g link) (puts by.0) m (may_put g link replies said answers may by.0) by.1
    ) in
    record {
      messages = messages_of gave;
      spelt = subst (λ bs. AllZip (λ bytes m. SpellsMessage bytes (message_value m)) bs (messages_of gave)) (sym spelt.1) spelt.2;
      allowed = all_given (MaySend g link) gave allowed;
      newer = order puts came.marks gave came.left came.out_of 1 may.newer (others_put g link replies said answers may);
    }
