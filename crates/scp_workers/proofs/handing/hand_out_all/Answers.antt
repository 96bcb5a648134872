use Rattle.std.proofs.Common.{◌≡◌, List, [], ◌∷◌, ◌++◌, sym, ap, ◌∙◌, append_assoc}
use Rattle.scp_workers.proofs.Outlets.{same_on, puts_on}
use Rattle.scp_workers.proofs.handing.hand_out_all.Goals as goal

-- one item more was yielded of the list
one_more : {X : Type 0} (seen : List X) (x : X) (left later all : List X) → seen ++ left ≡ all → left ≡ x ∷ later → (seen ++ x ∷ []) ++ later ≡ all
one_more seen x left later all e f = append_assoc seen (x ∷ []) later ∙ ap (λ zs. seen ++ zs) (sym f) ∙ e

pub loop-one-preserved : goal.loop-one-preserved
loop-one-preserved g c =
    let at = c.loop-one in
    let old = c.args.outlets.now.items in
    let between = at.outlets.items in
    let new = c.hand_out_one.new.outlets.items in
    record {
      same = same_on old between new at.invariant.same c.hand_out_one.ensures.same;
      puts = puts_on at.yielded (c.in-Some.one ∷ []) old between new at.invariant.same at.invariant.puts c.in_ok-hand_out_one.ensures.puts;
      all = one_more at.yielded c.in-Some.one _ _ _ at.invariant.all c.in-Some.ensures.steps.0;
    }

pub returns-in_err-hand_out_one-clause-same : goal.returns-in_err-hand_out_one-clause-same
returns-in_err-hand_out_one-clause-same g c = same_on c.args.outlets.now.items c.loop-one.outlets.items c.hand_out_one.new.outlets.items c.loop-one.invariant.same c.hand_out_one.ensures.same
