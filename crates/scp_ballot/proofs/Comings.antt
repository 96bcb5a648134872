-- Going on with the rules, one after the other.
use Rattle.std.proofs.Common.{◌≡◌, ◌+◌, ◌-◌, ◌<◌, ℕ, zero, suc, true, false, cond, Option, Some, None, refl, sym, ◌∙◌, ap, subst, inl, inr, arith}
use Rattle.std.specs.BTreeMap.{is_at}
use Rattle.std.proofs.Math.Path.{fun_ext}
use Rattle.scp_ballot_rules.specs.scp_types.specs.declared.names.NodeId.{NodeId}
use Rattle.scp_ballot_rules.specs.scp_types.specs.declared.names.Hash.{Hash}
use Rattle.scp_ballot_rules.specs.scp_quorum.specs.NodeSet.{node_cmp}
use Rattle.scp_ballot_rules.specs.scp_quorum.specs.QuorumTree.{QuorumTree}
use Rattle.scp_ballot_rules.specs.scp_envelope.specs.declared.statement.Pledges.{Pledges}
use Rattle.scp_ballot_rules.specs.scp_vote.specs.Board.{Seen, Puts}
use Rattle.scp_ballot_rules.specs.declared.state.State.{State}
use Rattle.scp_ballot_rules.specs.Own.{own_of}
use Rattle.scp_ballot_rules.specs.Steps.{Step, Answers, renewed, Settles}
use Rattle.scp_ballot.specs.declared.machine.Machine.{Machine}
use Rattle.scp_ballot_rules.specs.Told.{ballots_on}
use Rattle.scp_ballot.specs.inside.Machine.{Renews}
use Rattle.scp_ballot.specs.inside.Exactly.{ComesTo, GoesTo}

-- the board on which the own statement is put is that with it
pub puts_renewed : (b c : Seen) (hash : Hash) (s : State) → Puts b c b.me (own_of hash s) b.local → c ≡ renewed hash b s
puts_renewed b c hash s puts =
    ap (λ m. let d : Seen = record { me = m; local = c.local; statement = c.statement; counted = c.counted } in d) puts.me
    ∙ ap (λ l. let d : Seen = record { me = b.me; local = l; statement = c.statement; counted = c.counted } in d) puts.local
    ∙ ap (λ (f : NodeId → Option Pledges). let d : Seen = record { me = b.me; local = b.local; statement = f; counted = c.counted } in d) (fun_ext (λ v. puts.statements v))
    ∙ ap (λ (f : NodeId → Option QuorumTree). let d : Seen = record { me = b.me; local = b.local; statement = λ v. cond (is_at (node_cmp b.me) v) (Some (own_of hash s)) (b.statement v); counted = f } in d) (fun_ext (λ v. puts.sets v))

pub goes_none : (m : Machine) (first : Option State) → first ≡ None → GoesTo m first m 0
goes_none m first none k e c t more h =
    let same : k ≡ 64 = omega (arith, e) in
    subst (λ o. ComesTo m o c t more) (sym none) (subst (λ n. Settles n m.hash (ballots_on m.board) m.state c t more) same h)

pub goes_some : (m new : Machine) (first : Option State) (s : State) → first ≡ Some s → Renews m new s → GoesTo m first new 0
goes_some m new first s some renews k e c t more h =
    let same : k ≡ 64 = omega (arith, e) in
    let at_board : Settles k m.hash (renewed m.hash (ballots_on m.board) s) new.state c t more = subst (λ b. Settles k m.hash b new.state c t more) (puts_renewed (ballots_on m.board) (ballots_on new.board) m.hash s renews.board) h in
    subst (λ o. ComesTo m o c t more) (sym some) (subst (λ n. Settles n m.hash (renewed m.hash (ballots_on m.board) s) s c t more) same
    (subst (λ x. Settles k m.hash (renewed m.hash (ballots_on m.board) s) x c t more) renews.state at_board))

module _ (m now : Machine) (first : Option State) (done : ℕ) (goes : GoesTo m first now done) (hash : now.hash ≡ m.hash) where
  pub goes_more : (new : Machine) (next : State) → Answers (Step (ballots_on now.board)) now.state (Some next) → Renews now new next → GoesTo m first new (done + 1)
  goes_more new next step renews k e c t more h =
      let up : done + suc k ≡ 64 = omega (arith, e) in
      let at_state : Settles k m.hash (ballots_on new.board) next c t more = subst (λ x. Settles k m.hash (ballots_on new.board) x c t more) renews.state h in
      let board : ballots_on new.board ≡ renewed m.hash (ballots_on now.board) next = puts_renewed (ballots_on now.board) (ballots_on new.board) now.hash next renews.board ∙ ap (λ x. renewed x (ballots_on now.board) next) hash in
      goes (suc k) up c t more (inr (next, step.0, step.1, subst (λ b. Settles k m.hash b next c t more) board at_state))

  pub comes_at_rest : done < 64 → Answers (Step (ballots_on now.board)) now.state None → ComesTo m first (ballots_on now.board) now.state false
  comes_at_rest lt rests = from (64 - suc done) (omega (arith, lt))
    where
      from : (k : ℕ) → done + suc k ≡ 64 → ComesTo m first (ballots_on now.board) now.state false
      from k e = goes (suc k) e (ballots_on now.board) now.state false (inl (rests, refl, refl, refl))

  pub comes_at_limit : done ≡ 64 → ComesTo m first (ballots_on now.board) now.state true
  comes_at_limit e = goes zero (omega (arith, e)) (ballots_on now.board) now.state true (refl, refl, refl)
