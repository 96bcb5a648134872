use Rattle.std.proofs.Common.{◌≡◌, ◌+◌, ◌<◌, true, false, List, [], ◌∷◌, ◌++◌, length, refl, sym, ap, ◌∙◌, append_assoc, length-append, arith}
use Rattle.scp_wire.specs.LinkReading.{ReaderView, after_each, records_from, brought_one, after_one}
use Rattle.scp_wire.specs.declared.message.Message.TheVariants.{Record}
use Rattle.scp_wire.proofs.Shapes.{batch_runs, batch_is_over}
use Rattle.scp_wire.proofs.reader.Place.number_all.Goals as goal

-- one item more was yielded of the list
one_more : {X : Type 0} (seen : List X) (x : X) (left later all : List X) → seen ++ left ≡ all → left ≡ x ∷ later → (seen ++ x ∷ []) ++ later ≡ all
one_more seen x left later all e f = append_assoc seen (x ∷ []) later ∙ ap (λ zs. seen ++ zs) (sym f) ∙ e

fewer : {X : Type 0} (seen : List X) (x : X) (left later all : List X) → seen ++ left ≡ all → left ≡ x ∷ later → length seen < length all
fewer seen x left later all e f = (let n : length (seen ++ left) ≡ length all = ap length e in let m : length left ≡ length (x ∷ later) = ap length f in omega (arith, length-append seen left, n, m))

pub overflow_add-slot : goal.overflow_add-slot
overflow_add-slot c =
    let at = c.loop-value in
    let runs : (after_each c.args.self.now (records_from c.args.first.0 at.yielded)).ended ≡ false = ap (λ (r : ReaderView). r.ended) (sym at.invariant.stands ∙ sym c.at.view_is) ∙ c.if-not-at.true in
    let k = batch_runs c.args.conn c.args.self.now c.args.first.0 at.yielded c.in-Some.value runs in
    let short = fewer at.yielded c.in-Some.value _ _ _ at.invariant.all c.in-Some.ensures.steps.0 in
    let given = ap length (c.into_iter-value-iterator.ensures.into_iter_gives.0 ∙ c.into_vec-value-items.ensures) in
    let count = at.invariant.count in
    let so_many = ap length at.invariant.read ∙ k.so_many in
    omega (arith, c.requires.last, c.len.ensures)

pub loop-value-preserved : goal.loop-value-preserved
loop-value-preserved c =
    let at = c.loop-value in
    let over : (after_each c.args.self.now (records_from c.args.first.0 at.yielded)).ended ≡ true = ap (λ (r : ReaderView). r.ended) (sym at.invariant.stands ∙ sym c.at.view_is) ∙ c.if-not-at.false in
    let k = batch_is_over c.args.conn c.args.self.now c.args.first.0 at.yielded c.in-Some.value c.requires.runs over in
    record {
      read = at.invariant.read ∙ sym k.brings;
      stands = at.invariant.stands ∙ sym k.goes_past;
      count = at.invariant.count;
      all = one_more at.yielded c.in-Some.value _ _ _ at.invariant.all c.in-Some.ensures.steps.0;
    }

pub loop-value-preserved-in-Continue-branch-2 : goal.loop-value-preserved-in-Continue-branch-2
loop-value-preserved-in-Continue-branch-2 c =
    let at = c.loop-value in
    let runs : (after_each c.args.self.now (records_from c.args.first.0 at.yielded)).ended ≡ false = ap (λ (r : ReaderView). r.ended) (sym at.invariant.stands ∙ sym c.at.view_is) ∙ c.if-not-at.true in
    let k = batch_runs c.args.conn c.args.self.now c.args.first.0 at.yielded c.in-Some.value runs in
    let place : c.len.result ≡ length at.yielded = c.len.ensures ∙ at.invariant.count ∙ ap length at.invariant.read ∙ k.so_many in
    let one : c.carry.result ≡ brought_one c.args.conn (after_each c.args.self.now (records_from c.args.first.0 at.yielded)).next (Record (record { 0 = c.args.first.0 + length at.yielded }) c.in-Some.value) =
    c.carry.ensures.read ∙ rw (at.invariant.stands, place) refl in
    let items : c.push_back.new.self.items ≡ at.read.items ++ c.carry.result ∷ [] = c.in_ok-push_back.ensures.items in
    record {
      read = items ∙ rw (at.invariant.read, one) refl ∙ sym k.brings;
      stands = c.carry.ensures.after ∙ ap (λ (r : ReaderView). after_one r (Record (record { 0 = c.args.first.0 + length at.yielded }) c.in-Some.value)) at.invariant.stands ∙ sym k.goes_past;
      count = c.in_ok-push_back.ensures.len ∙ ap (λ n. n + 1) at.invariant.count ∙ sym (length-append at.read.items (c.carry.result ∷ [])) ∙ ap length (sym items);
      all = one_more at.yielded c.in-Some.value _ _ _ at.invariant.all c.in-Some.ensures.steps.0;
    }
