use Rattle.std.proofs.Common.{◌≡◌, ◌++◌, ℕ, List, inl, inr, sym, ◌∙◌, ap}
use Rattle.scp_live_head.specs.Head.{HasNoFirst, ended, first_line}
use Rattle.scp_live_head.proofs.reading.take_above.Goals as goal

pub returns-in_default-clause-refused : goal.returns-in_default-clause-refused
returns-in_default-clause-refused c n is =
    let none : HasNoFirst c.args.bytes.now = rw c.in_default.is at c.in_ok-line.ensures.none in
    inl ((let k : n ≡ 1 = cc is in k), none)

pub returns-in_default-2-clause-refused : goal.returns-in_default-2-clause-refused
returns-in_default-2-clause-refused c n is =
    let first = rw c.in-Some.is at c.in_ok-line.ensures.some in
    let none = rw c.in_default-2.is at c.in_ok-base.ensures.none in
    inr (
      (let k : n ≡ 2 = cc is in k),
      record {
        line = c.in-Some.line;
        rest = c.behind-rest.result.now;
        fits = first.0;
        splits = first.2 ∙ ap (λ (l : List ℕ). ended (first_line c.in-Some.line) ++ l) (sym c.behind-rest.ensures);
        unfit = none;
      },
    )
