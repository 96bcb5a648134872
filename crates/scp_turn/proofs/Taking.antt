-- The commands that a slot stage takes in a run are the first of those that its node is given.
use Rattle.std.proofs.Common.{List, [], ◌∷◌, ◌++◌, sym, subst, append_assoc, append-nil}
use Rattle.std.proofs.lemmas.List.{flat_map_more}
use Rattle.scp_core.specs.scp_driver.specs.Driver.{Says}
use Rattle.scp_turn.specs.Commands.{TakenCommand, given_by, given_in, taken_by, AreInTurn}
use Rattle.scp_turn.specs.inside.InTurn.{NoneAreInTurn, StepsTakeInTurn}
use Rattle.scp_core.specs.History.{Exchange}
use Rattle.scp_core.specs.Node.{NodeView}
use Rattle.scp_core.specs.Theorem.{LedgerTheorem, StepsKeep}
use Rattle.scp_turn.specs.Turn.{Does}
use Rattle.scp_turn.specs.Taking.{taken_over, MoreIsTakenInTurn, AllIsTakenInTurn}

module _ {D : Type 0} (says : Says D) where
  over : StepsKeep says → StepsTakeInTurn says → (heard past : List Exchange) (old new : NodeView D) (taken : List TakenCommand) → LedgerTheorem says past old → (does : Does says old heard new) → AreInTurn (given_in past) taken old → AreInTurn (given_in (past ++ heard)) (taken ++ taken_over says old heard new does) new
  over keeps step [] past old new taken h does t =
      subst (λ (p : List Exchange). AreInTurn (given_in p) (taken ++ []) new) (sym (append-nil past))
      (subst (λ (ts : List TakenCommand). AreInTurn (given_in past) ts new) (sym (append-nil taken))
      (subst (λ (v : NodeView D). AreInTurn (given_in past) taken v) (sym does) t))
  over keeps step (x ∷ heard) past old new taken h does t =
      let here = taken_by x.0 x.1 old does.0 in
      let later = taken_over says does.0 heard new does.2 in
      let one : AreInTurn (given_in (past ++ x ∷ [])) (taken ++ here) does.0 =
      subst (λ given. AreInTurn given (taken ++ here) does.0) (flat_map_more (λ (y : Exchange). given_by y.0 y.1) [] past x)
      (step past old does.0 x.0 x.1 (given_in past) taken h does.1 t) in
      let all : AreInTurn (given_in ((past ++ x ∷ []) ++ heard)) ((taken ++ here) ++ later) new =
      over keeps step heard (past ++ x ∷ []) does.0 new (taken ++ here) (keeps past old does.0 x.0 x.1 does.1 h) does.2 one in
      subst (λ (p : List Exchange). AreInTurn (given_in p) (taken ++ (here ++ later)) new) (append_assoc past (x ∷ []) heard)
      (subst (λ (ts : List TakenCommand). AreInTurn (given_in ((past ++ x ∷ []) ++ heard)) ts new) (append_assoc taken here later) all)

  pub more_in_turn : StepsKeep says → StepsTakeInTurn says → MoreIsTakenInTurn says
  more_in_turn keeps step = λ past heard old new taken h does t. over keeps step heard past old new taken h does t

  pub all_in_turn : StepsKeep says → NoneAreInTurn says → StepsTakeInTurn says → AllIsTakenInTurn says
  all_in_turn keeps none step = λ heard old new h does. over keeps step heard [] old new [] h does (none old h)
