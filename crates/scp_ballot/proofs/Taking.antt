-- What a balloter promises of another node's statement.
use Rattle.std.proofs.Common.{◌≡◌, ◌↔◌, Bool, ℕ, Some, None, IsSome, IsSomeAnd, cond, refl, sym, ◌∙◌, ap, subst, inl, inr}
use Rattle.std.specs.Option.{option_map, ForSome}
use Rattle.std.specs.BTreeMap.{is_at}
use Rattle.scp_ballot_rules.specs.scp_types.specs.declared.names.Slot.{Slot}
use Rattle.scp_ballot_rules.specs.scp_quorum.specs.NodeSet.{node_cmp}
use Rattle.scp_ballot_rules.specs.scp_quorum.specs.QuorumTree.{QuorumTree}
use Rattle.scp_ballot_rules.specs.scp_envelope.specs.declared.statement.Statement.{Statement}
use Rattle.scp_ballot_rules.specs.scp_envelope.specs.declared.statement.Envelope.{Envelope}
use Rattle.scp_ballot_rules.specs.scp_vote.specs.declared.board.Board.{Board}
use Rattle.scp_ballot_rules.specs.scp_vote.specs.Licence.{Licensed, IsExternalize}
use Rattle.scp_ballot_rules.proofs.Rising.{rises_itself}
use Rattle.scp_ballot.specs.declared.machine.Machine.{Machine}
use Rattle.scp_ballot.specs.declared.balloted.Balloted.{Balloted}
use Rattle.scp_ballot_rules.specs.Told.{ballots_on}
use Rattle.scp_ballot.specs.inside.Machine.{own_at, IsAtRest}
use Rattle.scp_ballot.specs.inside.Inputs.{IsHeardBy, HearsOne, TakesStatement}
use Rattle.scp_ballot.specs.inside.Balloter.{ballots_of}
use Rattle.scp_ballot.specs.Balloting.{Ballots, own, Advances, KeepsValue, GoesOn, IsDecided, IsWorthTelling, last_emitted, KeepsOthers, IsHeard, HearsOnly}
use Rattle.scp_ballot.specs.Outcome.{HearsOn}
use Rattle.scp_ballot.proofs.Heard.{heard_rests, own_heard}
use Rattle.scp_ballot.proofs.Advancing.{advances, gives_rests, decided_phase, phase_decided}
use Rattle.scp_ballot.proofs.Calling.{others_kept}

-- the same own statement, the same last one and the same making
advances_from : (old mid new : Ballots) (given : Balloted) → own mid ≡ own old → mid.emitted ≡ old.emitted → mid.slot ≡ old.slot → mid.hash ≡ old.hash → mid.board.me ≡ old.board.me → mid.board.local ≡ old.board.local
    → Advances mid new given → Advances old new given
advances_from old mid new given same last slot hash me local a = record {
  licensed = subst (λ o. Licensed new.board o (own new)) same a.licensed;
  rises = subst (λ o. ForSome o (λ p. ForSome (own new) (λ q. GoesOn p q))) same a.rises;
  value = λ q e. subst (λ o. KeepsValue o new.composite q) same (a.value q e);
  owed = a.owed;
  emitted = subst (λ o. IsSome given.statement ↔ IsWorthTelling o (own new)) last a.emitted;
  statement = a.statement;
  last = a.last ∙ ap (last_emitted given.statement) last;
  decided = subst (λ o. IsSome given.decided ↔ ((IsSomeAnd o IsExternalize → ⊥) × IsDecided new)) same a.decided;
  stays = λ was. a.stays (subst (λ o. IsSomeAnd o IsExternalize) (sym same) was);
  ended = λ was. a.ended (subst (λ o. IsSomeAnd o IsExternalize) (sym same) was) ∙ same;
  certified = a.certified;
  making = record { slot = a.making.slot ∙ slot; hash = a.making.hash ∙ hash; me = a.making.me ∙ me; local = a.making.local ∙ local };
  counted = a.counted;
}

module _ (old mid : Machine) (e : Envelope) (set : QuorumTree) (h : HearsOne old mid e set) where
  me_heard : (ballots_on mid.board).me ≡ (ballots_on old.board).me
  me_heard = elim h.board [ inl (heard, put) ↦ put.puts.me | inr (unheard, same) ↦ ap (λ (b : Board). (ballots_on b).me) same ]

  local_heard : (ballots_on mid.board).local ≡ (ballots_on old.board).local
  local_heard = elim h.board [ inl (heard, put) ↦ put.puts.local | inr (unheard, same) ↦ ap (λ (b : Board). (ballots_on b).local) same ]

slot_is : (s t : Slot) → s.0 ≡ t.0 → s ≡ t
slot_is s t e = ap (λ (n : ℕ). let x : Slot = record { 0 = n } in x) e

module _ (old new : Machine) (given : Balloted) (e : Envelope) (set : QuorumTree) (f g : Bool) (rest : IsAtRest old) (takes : TakesStatement e set old new given) where
  mid_rests : IsAtRest takes.mid
  mid_rests = heard_rests old takes.mid e set takes.hears rest

  -- what was given after it was heard
  pub take_mid : Advances (ballots_of takes.mid f) (ballots_of new g) given
  take_mid = advances takes.mid new given None f g mid_rests refl (rises_itself takes.mid.state) (λ _. inl refl) takes.gives

  pub take_advances : Advances (ballots_of old f) (ballots_of new g) given
  take_advances =
      advances_from (ballots_of old f) (ballots_of takes.mid f) (ballots_of new g) given (own_heard old takes.mid e set takes.hears) (ap (option_map (λ (s : Statement). s.pledges)) takes.hears.rest.emitted)
      (ap (λ (s : Slot). s.0) takes.hears.rest.slot) takes.hears.rest.hash (me_heard old takes.mid e set takes.hears) (local_heard old takes.mid e set takes.hears)
      take_mid

  pub take_rests : IsAtRest new
  take_rests = gives_rests takes.mid new given None mid_rests takes.gives

  kept : KeepsOthers (ballots_on takes.mid.board) (ballots_on new.board)
  kept = others_kept takes.mid new given None mid_rests takes.gives

  heard_is : IsHeardBy old e → IsHeard (ballots_of old f) e
  heard_is h = (h.0, ap (λ (s : Slot). s.0) h.1, h.2, λ d. h.3 (decided_phase (own_at old) old.hash old.state rest.stands d))

  is_heard : IsHeard (ballots_of old f) e → IsHeardBy old e
  is_heard h = (h.0, slot_is e.statement.slot old.slot h.1, h.2, λ d. h.3 (phase_decided (own_at old) old.hash old.state rest.stands d))

  pub take_heard : HearsOn (ballots_of old f) e set (ballots_on takes.mid.board)
  take_heard = elim takes.hears.board [ inl (heard, put) ↦ inl (heard_is heard, put) | inr (unheard, same) ↦ inr ((λ h. unheard (is_heard h)), ap ballots_on same) ]

  pub take_hears : HearsOnly (ballots_of old f) (ballots_of new g) e set
  take_hears = elim takes.hears.board [
    | inl (heard, put) ↦ inl (
      heard_is heard,
      record {
        statements = λ v differ. kept.statements v (λ x. differ (x ∙ put.puts.me)) ∙ put.puts.statements v;
        sets = λ v differ. kept.sets v (λ x. differ (x ∙ put.puts.me)) ∙ put.puts.sets v ∙ ap (λ t. cond (is_at (node_cmp e.statement.node) v) (Some t) ((ballots_on old.board).counted v)) (put.counted.other heard.0);
      },
    )
    | inr (unheard, same) ↦ inr ((λ h. unheard (is_heard h)), subst (λ (b : Board). KeepsOthers (ballots_on b) (ballots_on new.board)) same kept)
  ]
