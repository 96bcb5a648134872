-- One link, one life or one text more.
use Rattle.std.proofs.Common.{◌≡◌, ◌+◌, ℕ, suc, Bool, List, [], ◌∷◌, ◌++◌, flat_map, ap, sym, ◌∙◌, refl, append_assoc, append-nil, arith}
use Rattle.std.specs.Prelude.{if◌then◌else◌}
use Rattle.std.proofs.lemmas.Grind.{flat_map-append}
use Rattle.scp_turn.specs.scp_types.specs.declared.names.NodeId.{NodeId}
use Rattle.scp_turn.specs.scp_core.specs.declared.config.Config.{Config}
use Rattle.scp_turn.specs.scp_core.specs.History.{peer_at}
use Rattle.scp_stand_slot.specs.scp_script.specs.Nodes.{numbers}
use Rattle.scp_stand_slot.specs.Adding.{Adds}
use Rattle.scp_stand_node.specs.Links.{of_links, peers_with}
use Rattle.scp_stand_node.specs.Slots.{AreTexts}

pub one_more : {X : Type 0} (f : ℕ → List X) (n : ℕ) → flat_map f (numbers (n + 1)) ≡ flat_map f (numbers n) ++ f (n + 1)
one_more f n =
    let e : n + 1 ≡ suc n = omega arith in
    rw e (flat_map-append f (numbers n) (suc n ∷ []) ∙ ap (λ l. flat_map f (numbers n) ++ l) (append-nil (f (suc n))))

-- what is told of one more is added
pub text_more : (f : ℕ → List ℕ) (n : ℕ) (first old new : List ℕ) → old ≡ first ++ flat_map f (numbers n) → new ≡ old ++ f (n + 1) → new ≡ first ++ flat_map f (numbers (n + 1))
text_more f n first old new before more =
    more ∙ ap (λ l. l ++ f (n + 1)) before ∙ append_assoc first (flat_map f (numbers n)) (f (n + 1)) ∙ ap (λ l. first ++ l) (sym (one_more f n))

-- ---- links

-- what is told of one link more is added
pub link_more : (f : ℕ → List ℕ) (n : ℕ) (first old new : List ℕ) → old ≡ first ++ of_links f n → new ≡ old ++ f n → new ≡ first ++ of_links f (n + 1)
link_more f n first old new before more =
    let e : n + 1 ≡ suc n = omega arith in
    rw e (more ∙ ap (λ l. l ++ f n) before ∙ append_assoc first (of_links f n) (f n))

-- the node at the other end of one link more, if it passes the test
pub peer_more : (config : Config) (test : ℕ → Bool) (n : ℕ) (meant : Bool) (node : NodeId) (old new : List NodeId)
    → meant ≡ test n → node ≡ peer_at config n → old ≡ peers_with config test n → new ≡ old ++ (if meant then node ∷ [] else []) → new ≡ peers_with config test (n + 1)
peer_more config test n meant node old new is same before more =
    let e : n + 1 ≡ suc n = omega arith in
    rw e (
    more
    ∙ ap (λ (b : Bool). old ++ (if b then node ∷ [] else [])) is
    ∙ ap (λ (v : NodeId). old ++ (if test n then v ∷ [] else [])) same
    ∙ ap (λ (l : List NodeId). l ++ (if test n then peer_at config n ∷ [] else [])) before)

-- ---- texts of which something holds

module _ (P : ℕ → List ℕ → Type 0) where
  pub no_text : (old : List ℕ) → Adds old old (AreTexts P 0)
  unfolding AreTexts
  no_text old = ([], sym (append-nil old), refl)

  pub one_text : (n : ℕ) (first old new : List ℕ) → Adds first old (AreTexts P n) → Adds old new (P n) → Adds first new (AreTexts P (n + 1))
  unfolding AreTexts
  one_text n first old new (before, is, are) (last, more, here) =
      let e : n + 1 ≡ suc n = omega arith in
      rw e (before ++ last, more ∙ ap (λ l. l ++ last) is ∙ append_assoc first before last, (before, last, refl, are, here))
