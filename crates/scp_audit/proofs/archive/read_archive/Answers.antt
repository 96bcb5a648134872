use Rattle.std.proofs.Common.{◌≡◌, ◌∙◌, List, [], ◌∷◌, ◌++◌, refl, sym, subst, arith, rules}
use Rattle.std.specs.List.{AllByRecursion}
use Rattle.std.proofs.lemmas.Grind.{common_steps}
use Rattle.scp_judged.specs.Named.{set_in}
use Rattle.scp_audit.specs.Audit.{IsSaneRecord}
use Rattle.scp_audit.specs.inside.Finding.{Finds}
use Rattle.scp_audit.specs.declared.archive.Found.{Found}
use Rattle.scp_audit.specs.declared.archive.Record.{Record}
use Rattle.scp_audit.proofs.Auditing.{IsSoFar, so_far_none, so_far_more, ended_here, cut_here, sane_more}
use Rattle.scp_audit.proofs.archive.read_archive.Goals as goal

pub loop-init : goal.loop-init
loop-init g c =
    let left = g.R.ScriptIn.left c.args.reader.now in
    let none : c.new-records.result.items ≡ [] = first_of (search rules, grind (arith, common_steps)) in
    record {
      fresh = c.new-entries.ensures;
      so_far = subst (λ (l : List Record). IsSoFar left l left (set_in c.new-sets.result)) (sym none) (so_far_none left (set_in c.new-sets.result) c.new-sets.ensures);
      sane = subst (λ (l : List Record). AllByRecursion IsSaneRecord l) (sym none) tt;
      failures = refl;
    }

pub loop-preserved : goal.loop-preserved
loop-preserved g c =
    let left = g.R.ScriptIn.left in
    let xs = c.loop.records.items in
    let x = c.in-Ok-Record.record in
    let found = subst (λ (f : Found). Finds (set_in c.loop.sets) (left c.loop.reader) f (set_in c.find.new.sets) (left c.find.new.reader)) c.in-Ok-Record.field-0-is c.in-Ok-Record.ensures.finds in
    let items : c.push.new.self.items ≡ xs ++ x ∷ [] = c.in_ok-push-in-Ok-Record.ensures.items in
    record {
      fresh = c.in-Ok-Record.ensures.fresh;
      so_far = subst (λ (l : List Record). IsSoFar (left c.args.reader.now) l (left c.find.new.reader) (set_in c.find.new.sets)) (sym items)
          (so_far_more (left c.args.reader.now) (left c.loop.reader) (left c.find.new.reader) xs x (set_in c.loop.sets) (set_in c.find.new.sets) c.loop.invariant.so_far found.0);
      sane = subst (λ (l : List Record). AllByRecursion IsSaneRecord l) (sym items) (sane_more xs x c.loop.invariant.sane found.1);
      failures = c.in-Ok-Record.ensures.kept ∙ c.loop.invariant.failures;
    }

pub returns-in-Ok-End-clause-whole : goal.returns-in-Ok-End-clause-whole
returns-in-Ok-End-clause-whole g c =
    let left = g.R.ScriptIn.left in
    let found = subst (λ (f : Found). Finds (set_in c.loop.sets) (left c.loop.reader) f (set_in c.find.new.sets) (left c.find.new.reader)) c.in-Ok-End.field-0-is c.in-Ok-End.ensures.finds in
    ended_here (left c.args.reader.now) (left c.loop.reader) c.loop.records.items c.archive_of.result (set_in c.loop.sets) c.loop.invariant.so_far found.0 c.archive_of.ensures.records c.archive_of.ensures.cut

pub returns-in-Ok-End-clause-sane : goal.returns-in-Ok-End-clause-sane
returns-in-Ok-End-clause-sane g c = subst (λ (l : List Record). AllByRecursion IsSaneRecord l) (sym c.archive_of.ensures.records) c.loop.invariant.sane

pub returns-in-Ok-Cut-clause-whole : goal.returns-in-Ok-Cut-clause-whole
returns-in-Ok-Cut-clause-whole g c =
    let left = g.R.ScriptIn.left in
    let made = c.archive_of-in-Ok-Cut in
    let found = subst (λ (f : Found). Finds (set_in c.loop.sets) (left c.loop.reader) f (set_in c.find.new.sets) (left c.find.new.reader)) c.in-Ok-Cut.field-0-is c.in-Ok-Cut.ensures.finds in
    cut_here (left c.args.reader.now) (left c.loop.reader) c.loop.records.items made.result (set_in c.loop.sets) c.loop.invariant.so_far found.0 made.ensures.records made.ensures.cut

pub returns-in-Ok-Cut-clause-sane : goal.returns-in-Ok-Cut-clause-sane
returns-in-Ok-Cut-clause-sane g c = subst (λ (l : List Record). AllByRecursion IsSaneRecord l) (sym c.archive_of-in-Ok-Cut.ensures.records) c.loop.invariant.sane

pub returns-in-Err-clause-hidden : goal.returns-in-Err-clause-hidden
returns-in-Err-clause-hidden g c other = c.in-Err.ensures.hidden other ∙ c.loop.invariant.failures
