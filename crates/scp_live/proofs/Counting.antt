-- Counts of entries, as the journal grows.
use Rattle.std.proofs.Common.{◌≡◌, ℕ, ◌+◌, ◌<◌, ◌≤◌, zero, suc, cond, List, [], ◌∷◌, ◌++◌, map, length, get_or, set, take, drop, refl, sym, ◌∙◌, ap, arith}
use Rattle.std.proofs.lemmas.List.Sums.{sum_by-append, count_by-le-length}
use Rattle.std.proofs.lemmas.List.{take-append-drop, map-append}
use Rattle.std.proofs.Math.Seq.{take-suc}
use Rattle.scp_again.specs.scp_types.specs.declared.names.NodeId.{NodeId}
use Rattle.scp_again.specs.scp_ledger.specs.declared.journal.Fate.{Fate}
use Rattle.scp_again.specs.scp_driver.specs.Kv.{kv_says}
use Rattle.scp_again.specs.scp_core.specs.declared.config.Config.{Config}
use Rattle.scp_again.specs.scp_core.specs.History.{Exchange}
use Rattle.scp_again.specs.scp_core.specs.Kv.{NodeView}
use Rattle.scp_turn.specs.Kv.{Does}
use Rattle.scp_live.specs.Idle.{is_idle_of, idle_in, idle_counts}
use Rattle.scp_live.proofs.Journals.{config_stays, front_stays}

-- ---- entries

-- the count of all is that of the first ones and that of the others
pub idle_parts : (journal : List Fate) (before : ℕ) (peer : NodeId) → idle_in journal peer ≡ idle_in (take before journal) peer + idle_in (drop before journal) peer
idle_parts journal before peer =
    ap (λ (fates : List Fate). idle_in fates peer) (sym (take-append-drop before journal))
    ∙ sum_by-append (λ (fate : Fate). cond (is_idle_of peer fate) 1 0) (take before journal) (drop before journal)

pub idle_few : (journal : List Fate) (peer : NodeId) → idle_in journal peer ≤ length journal
idle_few journal peer = count_by-le-length (is_idle_of peer) journal

-- ---- counts of peers

module _ (f g : NodeId → ℕ) where
  -- the first have their new counts, the others their old ones
  abbrev pub mixed : List NodeId → ℕ → List ℕ
  mixed peers place = map f (take place peers) ++ map g (drop place peers)

  pub length-mixed : (peers : List NodeId) (place : ℕ) → length (mixed peers place) ≡ length peers
  length-mixed [] zero = refl
  length-mixed [] (suc place) = refl
  length-mixed (p ∷ ps) zero = ap suc (length-mixed ps 0)
  length-mixed (p ∷ ps) (suc place) = ap suc (length-mixed ps place)

  pub mixed_at : (peers : List NodeId) (place : ℕ) (d : NodeId) (e : ℕ) → place < length peers → get_or (mixed peers place) place e ≡ g (get_or peers place d)
  mixed_at [] place d e lt = absurd (omega arith)
  mixed_at (p ∷ ps) zero d e lt = refl
  mixed_at (p ∷ ps) (suc place) d e lt = mixed_at ps place d e (omega arith)

  mixed_next : (peers : List NodeId) (place : ℕ) (d : NodeId) → place < length peers → set (mixed peers place) place (f (get_or peers place d)) ≡ mixed peers (suc place)
  mixed_next [] place d lt = absurd (omega arith)
  mixed_next (p ∷ ps) zero d lt = refl
  mixed_next (p ∷ ps) (suc place) d lt = ap (λ (l : List ℕ). f p ∷ l) (mixed_next ps place d (omega arith))

  pub mixed_more : (peers : List NodeId) (place : ℕ) (d : NodeId) → place < length peers → set (mixed peers place) place (f (get_or peers place d)) ≡ mixed peers (place + 1)
  mixed_more peers place d lt = let on : suc place ≡ place + 1 = omega arith in mixed_next peers place d lt ∙ ap (mixed peers) on

  mixed_long : (peers : List NodeId) (place : ℕ) → length peers ≤ place → mixed peers place ≡ map f peers
  mixed_long [] zero le = refl
  mixed_long [] (suc place) le = refl
  mixed_long (p ∷ ps) zero le = absurd (omega arith)
  mixed_long (p ∷ ps) (suc place) le = ap (λ (l : List ℕ). f p ∷ l) (mixed_long ps place (omega arith))

  pub mixed_all : (peers : List NodeId) (place : ℕ) → place ≡ length peers → mixed peers place ≡ map f peers
  mixed_all peers place is = mixed_long peers place (omega (arith, is))

-- the counts of the peers so far, and that of one more
pub counts_more : (f : NodeId → ℕ) (peers : List NodeId) (place n : ℕ) (d : NodeId) (old new : List ℕ) → place < length peers → old ≡ map f (take place peers) → n ≡ f (get_or peers place d) → new ≡ old ++ n ∷ [] → new ≡ map f (take (place + 1) peers)
counts_more f peers place n d old new lt is here more =
    let on : place + 1 ≡ suc place = omega arith in
    more ∙ (λ i. is i ++ here i ∷ [])
    ∙ sym (ap (λ (m : ℕ). map f (take m peers)) on ∙ ap (map f) (take-suc peers place d lt) ∙ map-append f (take place peers) (get_or peers place d ∷ []))

-- the count of a peer, and what is new of it
pub added : (journal fresh : List Fate) (before n : ℕ) (peers : List NodeId) (place : ℕ) (d : NodeId) (counts : List ℕ) → place < length peers → counts ≡ mixed (idle_in journal) (idle_in (take before journal)) peers place → fresh ≡ drop before journal → n ≡ idle_in fresh (get_or peers place d) → get_or counts place 0 + n ≡ idle_in journal (get_or peers place d)
added journal fresh before n peers place d counts lt is behind new =
    let peer : NodeId = get_or peers place d in
    let old : get_or counts place 0 ≡ idle_in (take before journal) peer = ap (λ (l : List ℕ). get_or l place 0) is ∙ mixed_at (idle_in journal) (idle_in (take before journal)) peers place d 0 lt in
    let more : n ≡ idle_in (drop before journal) peer = new ∙ ap (λ (fates : List Fate). idle_in fates peer) behind in
    (λ i. old i + more i) ∙ sym (idle_parts journal before peer)

-- which is at most that of all entries
pub added_few : (journal fresh : List Fate) (before n : ℕ) (peers : List NodeId) (place : ℕ) (d : NodeId) (counts : List ℕ) → place < length peers → counts ≡ mixed (idle_in journal) (idle_in (take before journal)) peers place → fresh ≡ drop before journal → n ≡ idle_in fresh (get_or peers place d) → get_or counts place 0 + n ≤ length journal
added_few journal fresh before n peers place d counts lt is behind new =
    let sum = added journal fresh before n peers place d counts lt is behind new in
    let few = idle_few journal (get_or peers place d) in
    omega (arith, sum, few)

-- ---- counts of a node, after steps

-- the counts of before are those of the front of the journal now
pub counted_before : (heard : List Exchange) (old new : NodeView) (counts : List ℕ) (before : ℕ) → Does old heard new → counts ≡ idle_counts old → before ≡ length old.ledger.journal → counts ≡ map (idle_in (take before new.ledger.journal)) new.config.peers
counted_before heard old new counts before does is at =
    let front : take before new.ledger.journal ≡ old.ledger.journal = ap (λ (n : ℕ). take n new.ledger.journal) at ∙ front_stays kv_says heard old new does in
    let peers : new.config.peers ≡ old.config.peers = ap (λ (c : Config). c.peers) (config_stays kv_says heard old new does) in
    is ∙ (λ i. map (idle_in (sym front i)) (sym peers i))
