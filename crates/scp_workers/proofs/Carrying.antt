-- What was carried, with one thing more.
use Rattle.std.proofs.Common.{◌≡◌, false, List, [], ◌∷◌, ◌++◌, refl, sym, subst}
use Rattle.scp_theorem.specs.scp_wire.specs.declared.link.LinkItem.{LinkItem}
use Rattle.scp_theorem.specs.scp_outbox.specs.declared.mark.Mark.TheVariants.{Opened, Closed, Stop}
use Rattle.scp_theorem.specs.scp_outbox.specs.declared.mark.Out.{Out}
use Rattle.scp_theorem.specs.scp_outbox.specs.declared.mark.Out.TheVariants as out
use Rattle.scp_ends.specs.Links.{LinkEnd}
use Rattle.scp_shared_outbox.specs.Ends.{TakerView}
use Rattle.scp_workers.specs.Carrying.{IsSpelt, AreSpelt, Carries, Carried, HaveNoStop, IsSameLink, is_stop, unsent}

pub carried_more : (xs : List Out) (x : Out) (first old new : LinkEnd) → Carried xs first old → Carries x old new → Carried (xs ++ x ∷ []) first new
carried_more [] x first old new e c = (new, subst (λ (k : LinkEnd). Carries x k new) e c, refl)
carried_more (y ∷ xs) x first old new e c = (e.0, e.1, carried_more xs x e.0 old new e.2 c)

same_unsent : (k now : LinkEnd) → IsSameLink k now → unsent now ≡ unsent k
same_unsent k now same = rw (same.from, same.to, same.line, same.number) refl

-- so it is from the same link with nothing sent
pub carried_then : (t now : TakerView) (x : Out) (old new : LinkEnd) → now ≡ record t { gave = t.gave ++ x ∷ [] } → IsSameLink old new → Carried t.gave (unsent old) old → Carries x old new → Carried now.gave (unsent new) new
carried_then t now x old new is same e c =
    rw is (subst (λ (k : LinkEnd). Carried (t.gave ++ x ∷ []) k new) (sym (same_unsent old new same)) (carried_more t.gave x (unsent old) old new e c))

pub no_stop_more : (xs : List Out) (x : Out) → HaveNoStop xs → is_stop x ≡ false → HaveNoStop (xs ++ x ∷ [])
no_stop_more [] x h e = (e, tt)
no_stop_more (y ∷ xs) x h e = (h.0, no_stop_more xs x h.1 e)

spelt_more : (xs : List LinkItem) (x : LinkItem) → AreSpelt xs → IsSpelt x → AreSpelt (xs ++ x ∷ [])
spelt_more [] x a s = (s, tt)
spelt_more (y ∷ xs) x a s = (a.0, spelt_more xs x a.1 s)

-- and what was sent encodes messages
pub spelt_then : (x : Out) (old new : LinkEnd) → Carries x old new → AreSpelt old.tail.sent → AreSpelt new.tail.sent
spelt_then (out.Mark Opened) old new c a = rw c (spelt_more old.tail.sent _ a tt)
spelt_then (out.Mark Closed) old new c a = rw c (spelt_more old.tail.sent _ a tt)
spelt_then (out.Mark Stop) old new c a = rw c a
spelt_then (out.Message message) old new c a = rw c.2 (spelt_more old.tail.sent _ a (message, c.1))
spelt_then out.Nothing old new c a = rw c a
