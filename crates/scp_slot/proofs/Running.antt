-- What stays true of a machine over its inputs.
use Rattle.std.proofs.Common.{◌≡◌, ◌≢◌, ◌<◌, ◌↔◌, ◌⊎◌, ℕ, Bool, true, false, List, [], ◌∷◌, length, Option, Some, None, cond, refl, sym, ◌∙◌, ap, subst, inl, inr, arith, rules}
use Rattle.std.specs.Prelude.{IsSome, is_some, IsSomeAnd}
use Rattle.std.specs.Option.{option_map, ForSome}
use Rattle.std.specs.BTreeMap.{is_at}
use Rattle.scp_nominate.specs.scp_types.specs.declared.names.NodeId.{NodeId}
use Rattle.scp_nominate.specs.scp_quorum.specs.NodeSet.{node_cmp}
use Rattle.scp_nominate.specs.scp_quorum.specs.QuorumTree.{QuorumTree}
use Rattle.scp_nominate.specs.scp_envelope.specs.declared.statement.Pledges.{Pledges}
use Rattle.scp_nominate.specs.scp_envelope.specs.declared.statement.Envelope.{Envelope as Enveloped}
use Rattle.scp_nominate.specs.scp_vote.specs.declared.claim.StatementKind.{StatementKind}
use Rattle.scp_nominate.specs.scp_vote.specs.declared.claim.StatementKind.TheVariants.{Nomination as Nominating, Balloting}
use Rattle.scp_nominate.specs.scp_vote.specs.Board.{Seen, kind_of_pledges, counted_of_other}
use Rattle.scp_nominate.specs.scp_vote.proofs.Chain.{same_at}
use Rattle.scp_ballot.specs.scp_ballot_rules.specs.Owed.{OwesNothing}
use Rattle.scp_nominate.specs.Nomination as nominate
use Rattle.scp_ballot.specs.Balloting as ballot
use Rattle.scp_ballot.specs.Balloting.{IsDecided, HasBallot}
use Rattle.scp_slot.specs.declared.newest.Heard.{Heard}
use Rattle.scp_slot.specs.declared.output.SlotOutput.{SlotOutput}
use Rattle.scp_slot.specs.Newest.{Puts}
use Rattle.scp_slot.specs.Slot.{SlotView, Shows, IsRunning, Begins}
use Rattle.scp_slot.specs.Takes.{Ballots, BallotsRest, Candidate, PassesOn, Nominates, IsSameMachine, Enters}

some_is : {A : Type 0} (o : Option A) → is_some o ≡ true → IsSome o
some_is (Some x) e = search rules
some_is None e = absurd (let t : false ≡ true = e in cc)

is_then : {A : Type 0} (o : Option A) → IsSome o → is_some o ≡ true
is_then (Some x) h = refl
is_then None h = search rules

pub shows_kept : (old new : Seen) (n : NodeId → Option Heard) → new.me ≡ old.me → ((v : NodeId) → v ≢ old.me → new.statement v ≡ old.statement v) → ((v : NodeId) → v ≢ old.me → new.counted v ≡ old.counted v) → Shows old n → Shows new n
shows_kept old new n me statements sets shows = record {
  statements = λ v ne. let other : v ≢ old.me = λ e. ne (e ∙ sym me) in statements v other ∙ shows.statements v other;
  sets = λ v ne. let other : v ≢ old.me = λ e. ne (e ∙ sym me) in sets v other ∙ shows.sets v other;
}

put_case : {A : Type 0} (f : Heard → A) (b : Bool) (x o : Option A) (n m : Option Heard) (h : Heard) (p : A) → x ≡ cond b (Some p) o → o ≡ option_map f n → m ≡ cond b (Some h) n → (b ≡ true → f h ≡ p) → x ≡ option_map f m
put_case f true x o n m h p ex eo em fp = ex ∙ ap (λ a. Some a) (sym (fp refl)) ∙ ap (λ a. option_map f a) (sym em)
put_case f false x o n m h p ex eo em fp = ex ∙ eo ∙ ap (λ a. option_map f a) (sym em)

pub shows_put : (old new : Seen) (n m : NodeId → Option Heard) (h : Heard) (node : NodeId) (p : Pledges) (q : QuorumTree) → new.me ≡ old.me
    → ((v : NodeId) → v ≢ old.me → new.statement v ≡ cond (is_at (node_cmp node) v) (Some p) (old.statement v))
    → ((v : NodeId) → v ≢ old.me → new.counted v ≡ cond (is_at (node_cmp node) v) (Some (counted_of_other node p q)) (old.counted v))
    → ((v : NodeId) → m v ≡ cond (is_at (node_cmp node) v) (Some h) (n v)) → h.statement.pledges ≡ p → h.set.value ≡ q → Shows old n → Shows new m
shows_put old new n m h node p q me statements sets puts says with_set shows = record {
  statements = λ v ne.
      let other : v ≢ old.me = λ e. ne (e ∙ sym me) in
      put_case (λ (x : Heard). x.statement.pledges) (is_at (node_cmp node) v) (new.statement v) (old.statement v) (n v) (m v) h p (statements v other) (shows.statements v other) (puts v) (λ at. says);
  sets = λ v ne.
      let other : v ≢ old.me = λ e. ne (e ∙ sym me) in
      put_case (λ (x : Heard). counted_of_other v x.statement.pledges x.set.value) (is_at (node_cmp node) v) (new.counted v) (old.counted v) (n v) (m v) h (counted_of_other node p q) (sets v other) (shows.sets v other) (puts v)
      (λ at. ap (λ (w : NodeId). counted_of_other w h.statement.pledges h.set.value) (sym (same_at node v at)) ∙ ap (λ (w : Pledges). counted_of_other node w h.set.value) says ∙ ap (λ (w : QuorumTree). counted_of_other node p w) with_set);
}

-- What is known of the ballots after an input, but for the others' statements.
record Half (old new : SlotView) : Type 0 where
  pub working : new.ballots.failed ≡ false
  pub me : new.ballots.board.me ≡ old.ballots.board.me
  pub slot : new.ballots.slot ≡ old.ballots.slot
  pub local : new.ballots.board.local ≡ old.ballots.board.local
  pub decided : (new.decided ≡ true) ↔ IsDecided new.ballots
  pub owed : new.more ≡ false → OwesNothing new.ballots.hash new.ballots.board

half_rest : (old : SlotView) (out : SlotOutput) (new : SlotView) → IsRunning old → BallotsRest old out new → Half old new
half_rest old out new runs rests = record {
  working = ap (λ (b : ballot.Ballots). b.failed) rests.ballots ∙ runs.balloting;
  me = ap (λ (b : ballot.Ballots). b.board.me) rests.ballots;
  slot = ap (λ (b : ballot.Ballots). b.slot) rests.ballots;
  local = ap (λ (b : ballot.Ballots). b.board.local) rests.ballots;
  decided = (λ e. subst (λ (b : ballot.Ballots). IsDecided b) (sym rests.ballots) (runs.decided.0 (sym rests.settled ∙ e)), λ d. rests.settled ∙ runs.decided.1 (subst (λ (b : ballot.Ballots). IsDecided b) rests.ballots d));
  owed = λ e. subst (λ (b : ballot.Ballots). OwesNothing b.hash b.board) (sym rests.ballots) (runs.owed (sym rests.still ∙ e));
}

half_move : (old : SlotView) (out : SlotOutput) (new : SlotView) → IsRunning old → old.decided ≡ false → Ballots old out new → Half old new
half_move old out new runs undecided moves = record {
  working = moves.working;
  me = moves.advances.making.me;
  slot = moves.advances.making.slot;
  local = moves.advances.making.local;
  decided = (
    λ e. (moves.advances.decided.0 (some_is out.decided (sym moves.settled ∙ e))).1,
    λ d. moves.settled ∙ is_then out.decided (moves.advances.decided.1 (λ was. let t : true ≡ false = sym (runs.decided.1 was) ∙ undecided in cc, d)),
  );
  owed = λ e. moves.advances.owed (sym moves.more ∙ e);
}

half_pass : (composite : Option (List ℕ)) (old : SlotView) (out : SlotOutput) (new : SlotView) → IsRunning old → old.decided ≡ false → PassesOn composite old out new → Half old new
half_pass None old out new runs undecided passes = half_rest old out new runs passes
half_pass (Some v) old out new runs undecided passes = half_move old out new runs undecided passes.ballots

pass_shows : (composite : Option (List ℕ)) (old : SlotView) (out : SlotOutput) (new : SlotView) (n : NodeId → Option Heard) → PassesOn composite old out new → Shows old.ballots.board n → Shows new.ballots.board n
pass_shows None old out new n passes shows = subst (λ (b : ballot.Ballots). Shows b.board n) (sym passes.ballots) shows
pass_shows (Some v) old out new n passes shows = shows_kept old.ballots.board new.ballots.board n passes.ballots.advances.making.me passes.others.statements passes.others.sets shows

had_some : (old new : List (List ℕ)) → ¬ (length old < length new) → new ≢ [] → old ≢ []
had_some old [] not some = absurd (some refl)
had_some old (x ∷ xs) not some = λ e. not (subst (λ (l : List (List ℕ)). length l < length (x ∷ xs)) (sym e) (omega arith))

pub none_not : (A : Type 0) → IsSome {T = A} None → ⊥
none_not A h = let t : false ≡ true = is_then {A = A} None h in absurd cc

pass_ballot : (composite : Option (List ℕ)) (old : SlotView) (out : SlotOutput) (new : SlotView) → IsRunning old → PassesOn composite old out new → IsSome composite ↔ (length old.nomination.lists.candidates < length new.nomination.lists.candidates) → new.nomination.lists.candidates ≢ [] → HasBallot new.ballots
pass_ballot None old out new runs passes grew some = subst (λ (b : ballot.Ballots). HasBallot b) (sym passes.ballots) (runs.ballot (had_some old.nomination.lists.candidates new.nomination.lists.candidates (λ lt. none_not (List ℕ) (grew.1 lt)) some))
pass_ballot (Some v) old out new runs passes grew some = passes.has_ballot

same_newest : (old new : Seen) (n m : NodeId → Option Heard) → ((v : NodeId) → m v ≡ n v) → Shows old n → Shows old m
same_newest old new n m same shows = record {
  statements = λ v ne. shows.statements v ne ∙ ap (λ a. option_map (λ (h : Heard). h.statement.pledges) a) (sym (same v));
  sets = λ v ne. shows.sets v ne ∙ ap (λ a. option_map (λ (h : Heard). counted_of_other v h.statement.pledges h.set.value) a) (sym (same v));
}

-- nomination took an input
pub running_nominated : (combined : List (List ℕ) → List ℕ) (old : SlotView) (out : SlotOutput) (new : SlotView) → IsRunning old → old.decided ≡ false → IsSameMachine old new → Nominates combined old out new
    → Shows new.nomination.board (new.newest Nominating) → ((v : NodeId) → new.newest Balloting v ≡ old.newest Balloting v) → IsRunning new
running_nominated combined old out new runs undecided machine nominates shows others =
    let half : Half old new = half_pass nominates.composite old out new runs undecided nominates.passed in
    record {
      nominating = nominates.working;
      balloting = half.working;
      me = nominates.making.me ∙ runs.me ∙ sym machine.me;
      ballots_me = half.me ∙ runs.ballots_me ∙ sym machine.me;
      slot = nominates.making.slot ∙ runs.slot ∙ sym machine.slot;
      ballots_slot = half.slot ∙ runs.ballots_slot ∙ sym machine.slot;
      local = half.local ∙ runs.local ∙ sym nominates.making.local;
      nominations = shows;
      statements = same_newest new.ballots.board new.ballots.board (old.newest Balloting) (new.newest Balloting) others (pass_shows nominates.composite old out new (old.newest Balloting) nominates.passed runs.statements);
      decided = half.decided;
      ballot = pass_ballot nominates.composite old out new runs nominates.passed nominates.advances.composite.grew;
      owed = half.owed;
    }

-- the ballots took an input, and nomination stayed
pub running_balloted : (old : SlotView) (out : SlotOutput) (new : SlotView) → IsRunning old → old.decided ≡ false → IsSameMachine old new → Ballots old out new → new.nomination ≡ old.nomination
    → Shows new.ballots.board (new.newest Balloting) → ((v : NodeId) → new.newest Nominating v ≡ old.newest Nominating v) → IsRunning new
running_balloted old out new runs undecided machine moves stays shows others =
    let half : Half old new = half_move old out new runs undecided moves in
    record {
      nominating = ap (λ (n : nominate.Nomination). n.failed) stays ∙ runs.nominating;
      balloting = half.working;
      me = ap (λ (n : nominate.Nomination). n.board.me) stays ∙ runs.me ∙ sym machine.me;
      ballots_me = half.me ∙ runs.ballots_me ∙ sym machine.me;
      slot = ap (λ (n : nominate.Nomination). n.slot) stays ∙ runs.slot ∙ sym machine.slot;
      ballots_slot = half.slot ∙ runs.ballots_slot ∙ sym machine.slot;
      local = half.local ∙ runs.local ∙ sym (ap (λ (n : nominate.Nomination). n.board.local) stays);
      nominations = subst (λ (n : nominate.Nomination). Shows n.board (new.newest Nominating)) (sym stays) (same_newest old.nomination.board old.nomination.board (old.newest Nominating) (new.newest Nominating) others runs.nominations);
      statements = shows;
      decided = half.decided;
      ballot = λ some. moves.has_ballot (runs.ballot (subst (λ (n : nominate.Nomination). n.lists.candidates ≢ []) stays some));
      owed = half.owed;
    }
