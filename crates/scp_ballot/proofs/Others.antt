-- The licence speaks only of the others' part of the board.
use Rattle.std.proofs.Common.{◌≡◌, Bool, true, false, cond, List, [], ◌∷◌, Option, Some, refl, sym, ◌∙◌, ap}
use Rattle.std.specs.Option.{option_map}
use Rattle.std.specs.BTreeMap.{is_at}
use Rattle.scp_ballot_rules.specs.scp_quorum.specs.NodeSet.{node_cmp}
use Rattle.scp_ballot_rules.specs.scp_quorum.specs.QuorumTree.{QuorumTree}
use Rattle.scp_ballot_rules.specs.scp_envelope.specs.declared.statement.Pledges.{Pledges}
use Rattle.scp_ballot_rules.specs.scp_vote.specs.Board.{Seen}
use Rattle.scp_ballot_rules.specs.scp_vote.specs.Licence.{with_own, Leads, Licensed}
use Rattle.scp_ballot_rules.specs.scp_vote.proofs.Same.{follows_same}
use Rattle.scp_ballot_rules.specs.scp_vote.specs.inside.Chain.{IsSame, IsChain}
use Rattle.scp_ballot.specs.Balloting.{KeepsOthers}
use Rattle.scp_ballot.proofs.Heard.{apart}

twice : {A : Type 0} (t : Bool) (x y z : A) → cond t x (cond t y z) ≡ cond t x z
twice true x y z = refl
twice false x y z = refl

module _ (others now : Seen) (own : Option Pledges) (same : IsSame (with_own others own) now) where
  with_now : (p : Option Pledges) → IsSame (with_own others p) (with_own now p)
  with_now p = record {
    me = same.me;
    local = same.local;
    statement = λ v.
        ap (λ w. cond (is_at (node_cmp w) v) p (now.statement v)) same.me
        ∙ ap (λ o. cond (is_at (node_cmp others.me) v) p o) (same.statement v)
        ∙ twice (is_at (node_cmp others.me) v) p own (others.statement v);
    counted = λ v.
        ap (λ w. cond (is_at (node_cmp w) v) (option_map (λ _. now.local) p) (now.counted v)) same.me
        ∙ ap (λ (l : QuorumTree). cond (is_at (node_cmp others.me) v) (option_map (λ _. l) p) (now.counted v)) same.local
        ∙ ap (λ o. cond (is_at (node_cmp others.me) v) (option_map (λ _. others.local) p) o) (same.counted v)
        ∙ twice (is_at (node_cmp others.me) v) (option_map (λ _. others.local) p) (option_map (λ _. others.local) own) (others.counted v);
  }

  leads_now : (first : Option Pledges) (qs : List Pledges) (last : Option Pledges) → Leads others first qs last → Leads now first qs last
  leads_now first [] last e = e
  leads_now first (q ∷ qs) last h = (follows_same (with_own others first) (with_own now first) (with_now first) first q h.0, leads_now (Some q) qs last h.1)

  pub keeps_others : KeepsOthers others now
  keeps_others = record {
    statements = λ v differ. same.statement v ∙ ap (λ t. cond t own (others.statement v)) (apart others.me v (λ e. differ (sym e)));
    sets = λ v differ. same.counted v ∙ ap (λ t. cond t (option_map (λ _. others.local) own) (others.counted v)) (apart others.me v (λ e. differ (sym e)));
  }

pub licensed_now : (others : Seen) (first : Option Pledges) (now : Seen) → IsChain others first now → Licensed now first (now.statement now.me)
licensed_now others first now chain = (chain.licensed.0, leads_now others now (now.statement now.me) chain.board first chain.licensed.0 (now.statement now.me) chain.licensed.1)
