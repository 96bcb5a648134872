-- One set more in a list.
use Rattle.std.proofs.Common.{◌≡◌, ◌+◌, ◌<◌, ℕ, suc, List, [], ◌∷◌, ◌++◌, length, get_or, drop, map, flat_map, subst, sym, ◌∙◌, ap, append_assoc, arith, drop-cons}
use Rattle.std.proofs.lemmas.List.{map_push}
use Rattle.scp_slot.specs.scp_xdr.specs.Kind.{Fits}
use Rattle.scp_slot.specs.scp_quorum.specs.QuorumTree.{QuorumTree}
use Rattle.scp_slot.specs.scp_quorum.specs.QuorumKind.{set_kind, set_value}
use Rattle.scp_slot.specs.scp_quorum.specs.Sane.{IsSane}
use Rattle.scp_script.specs.declared.command.Command.{Command}
use Rattle.scp_script.specs.Nodes.{numbers, set_at}
use Rattle.scp_stand_slot.specs.Names.{set_sent}

pub sets_more : (commands : List Command) (n : ℕ) (old new : List QuorumTree) (set : QuorumTree) → new ≡ old ++ set ∷ [] → set ≡ set_at (n + 1) commands
    → old ≡ map (λ number. set_at number commands) (numbers n) → new ≡ map (λ number. set_at number commands) (numbers (n + 1))
sets_more commands n old new set e is before =
    let s : n + 1 ≡ suc n = omega arith in
    let f : ℕ → QuorumTree = λ number. set_at number commands in
    e ∙ ap (λ x. old ++ x ∷ []) is ∙ ap (λ l. l ++ f (n + 1) ∷ []) before ∙ ap (λ k. map f (numbers n) ++ f k ∷ []) s ∙ sym (map_push f (numbers n) (suc n)) ∙ ap (λ k. map f (numbers k)) (sym s)

pub sent_more : (commands : List Command) (i : ℕ) (d x : Command) (old new all : List QuorumTree) → i < length commands → x ≡ get_or commands i d → new ≡ old ++ set_sent x
    → old ++ flat_map set_sent (drop i commands) ≡ all → new ++ flat_map set_sent (drop (i + 1) commands) ≡ all
sent_more commands i d x old new all lt is e before =
    let s : i + 1 ≡ suc i = omega arith in
    ap (λ k. new ++ flat_map set_sent (drop k commands)) s
    ∙ ap (λ l. l ++ flat_map set_sent (drop (suc i) commands)) (e ∙ ap (λ c. old ++ set_sent c) is)
    ∙ append_assoc old (set_sent (get_or commands i d)) (flat_map set_sent (drop (suc i) commands))
    ∙ ap (λ l. old ++ flat_map set_sent l) (sym (drop-cons commands i d lt))
    ∙ before

pub fits_as : (s t : QuorumTree) → t ≡ s → IsSane s → Fits set_kind (set_value t)
fits_as s t e sane = subst (λ (q : QuorumTree). Fits set_kind (set_value q)) (sym e) sane.fits

-- one text more of a list
pub text_more : {X : Type 0} (f : X → List ℕ) (xs : List X) (i : ℕ) (d u : X) (old new all : List ℕ) → i < length xs → get_or xs i d ≡ u → new ≡ old ++ f u → old ++ flat_map f (drop i xs) ≡ all → new ++ flat_map f (drop (i + 1) xs) ≡ all
text_more f xs i d u old new all lt is e before =
    let s : i + 1 ≡ suc i = omega arith in
    ap (λ k. new ++ flat_map f (drop k xs)) s
    ∙ ap (λ l. l ++ flat_map f (drop (suc i) xs)) (e ∙ ap (λ x. old ++ f x) (sym is))
    ∙ append_assoc old (f (get_or xs i d)) (flat_map f (drop (suc i) xs))
    ∙ ap (λ l. old ++ flat_map f l) (sym (drop-cons xs i d lt))
    ∙ before
