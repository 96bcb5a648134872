-- The last fresh statement of a slot, kind and node, with one entry more.
use Rattle.std.proofs.Common.{◌≡◌, ℕ, Bool, true, false, cond, List, [], ◌∷◌, ◌++◌, refl, sym, ◌∙◌, ap, append_assoc}
use Rattle.std.specs.Prelude.{Option, Some, None, filter, fold, option_to_list}
use Rattle.std.proofs.lemmas.List.Elements.{filter-append}
use Rattle.std.proofs.lemmas.List.{append-nil}
use Rattle.scp_slot.specs.scp_types.specs.declared.names.NodeId.{NodeId}
use Rattle.scp_slot.specs.scp_vote.specs.declared.claim.StatementKind.{StatementKind}
use Rattle.scp_ledger.specs.declared.journal.Fate.{Fate}
use Rattle.scp_ledger.specs.Journal.{Heard, fresh_heard, fresh_in, last_of, newest, is_of}

fold-push : {A B : Type 0} (f : B → A → B) (a : B) (xs : List A) (x : A) → fold f a (xs ++ x ∷ []) ≡ f (fold f a xs) x
fold-push f a [] x = refl
fold-push f a (y ∷ ys) x = fold-push f (f a y) ys x

fresh_in-push : (journal : List Fate) (fate : Fate) → fresh_in (journal ++ fate ∷ []) ≡ fresh_in journal ++ option_to_list (fresh_heard fate)
fresh_in-push [] fate = append-nil (option_to_list (fresh_heard fate))
fresh_in-push (f ∷ fs) fate =
    ap (λ (hs : List Heard). option_to_list (fresh_heard f) ++ hs) (fresh_in-push fs fate) ∙ sym (append_assoc (option_to_list (fresh_heard f)) (fresh_in fs) (option_to_list (fresh_heard fate)))

abbrev last_that : (Heard → Bool) → List Heard → Option Heard
last_that p hs = last_of (filter p hs)

last_that-push : (p : Heard → Bool) (hs : List Heard) (h : Heard) (b : Bool) → p h ≡ b → last_that p (hs ++ h ∷ []) ≡ cond b (Some h) (last_that p hs)
last_that-push p hs h true is =
    ap last_of (filter-append p hs (h ∷ []) ∙ ap (λ b. filter p hs ++ cond b (h ∷ []) []) is) ∙ fold-push (λ (earlier : Option Heard) x. Some x) None (filter p hs) h
last_that-push p hs h false is =
    ap last_of (filter-append p hs (h ∷ []) ∙ ap (λ b. filter p hs ++ cond b (h ∷ []) []) is ∙ append-nil (filter p hs))

-- an entry that isn't fresh changes nothing
pub newest-passed : (slot : ℕ) (kind : StatementKind) (v : NodeId) (journal : List Fate) (fate : Fate) → fresh_heard fate ≡ None → newest slot kind v (journal ++ fate ∷ []) ≡ newest slot kind v journal
newest-passed slot kind v journal fate none =
    ap (last_that (is_of slot kind v)) (fresh_in-push journal fate ∙ ap (λ (o : Option Heard). fresh_in journal ++ option_to_list o) none ∙ append-nil (fresh_in journal))

-- a fresh one is the last of its slot, kind and node
pub newest-pushed : (slot : ℕ) (kind : StatementKind) (v : NodeId) (journal : List Fate) (fate : Fate) (h : Heard) → fresh_heard fate ≡ Some h → newest slot kind v (journal ++ fate ∷ []) ≡ cond (is_of slot kind v h) (Some h) (newest slot kind v journal)
newest-pushed slot kind v journal fate h some =
    ap (last_that (is_of slot kind v)) (fresh_in-push journal fate ∙ ap (λ (o : Option Heard). fresh_in journal ++ option_to_list o) some) ∙ last_that-push (is_of slot kind v) (fresh_in journal) h (is_of slot kind v h) refl
