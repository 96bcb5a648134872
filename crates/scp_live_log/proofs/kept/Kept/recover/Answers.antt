use Rattle.std.proofs.Common.{◌≡◌, inl, inr, ℕ, List, [], length, sym, ◌∙◌, refl, ap, subst, arith, rules}
use Rattle.std.specs.Prelude.{◌-◌, true, false, Err}
use Rattle.scp_device.specs.scp_types.specs.declared.fault.Fault.TheVariants.{NoMemory, Device}
use Rattle.scp_live_log.specs.declared.kept.LogFault.{LogFault}
use Rattle.scp_live_log.specs.declared.kept.LogFault.TheVariants.{Unbegun, Count, Damaged, Moved, Failed}
use Rattle.scp_live_log.specs.declared.wanted.Wanted.{Wanted}
use Rattle.scp_live_log.specs.Wanted.{Fits}
use Rattle.scp_live_log.specs.Kept.{HasEntries, IsDamaged, IsTornBy}
use Rattle.scp_live_log.specs.inside.Front.{IsWantedFault}
use Rattle.scp_live_log.specs.declared.kept.Kept.{Kept}
use Rattle.scp_live_log.specs.Disk.{StartsWith}
use Rattle.scp_live_log.specs.Log.{HasBatch, log_of}
use Rattle.scp_live_log.proofs.Moments.{started, goes_on, joins}
use Rattle.scp_live_log.proofs.Keeping.{untouched_by}
use Rattle.scp_live_log.proofs.Fronts.{no_log_so_short, log_starts, found_all, found_before, cut_off, recovered_by, torn_behind, wanted_failed}
use Rattle.scp_live_log.proofs.kept.Kept.recover.Goals as goal

pub returns-in_err-begin-clause-any_moment : goal.returns-in_err-begin-clause-any_moment
returns-in_err-begin-clause-any_moment g c ms rest are h only =
    absurd (no_log_so_short c.args.header.now c.deref.result.now ms rest c.if-is_beginning.ensures.some.0 (c.deref.ensures.value ∙ c.in_ok-bytes.ensures.bytes _ h))

pub returns-then-is_beginning-clause-all : goal.returns-then-is_beginning-clause-all
returns-then-is_beginning-clause-all g c ms rest are h =
    absurd (no_log_so_short c.args.header.now c.deref.result.now ms rest c.if-is_beginning.ensures.some.0 (c.deref.ensures.value ∙ c.in_ok-bytes.ensures.bytes _ h))

pub returns-then-is_beginning-clause-torn : goal.returns-then-is_beginning-clause-torn
returns-then-is_beginning-clause-torn g c ms tail are h none batch =
    no_log_so_short c.args.header.now c.deref.result.now ms tail c.if-is_beginning.ensures.some.0 (c.deref.ensures.value ∙ c.in_ok-bytes.ensures.bytes _ h)

pub returns-then-is_beginning-clause-any_moment : goal.returns-then-is_beginning-clause-any_moment
returns-then-is_beginning-clause-any_moment g c ms rest are h only =
    absurd (no_log_so_short c.args.header.now c.deref.result.now ms rest c.if-is_beginning.ensures.some.0 (c.deref.ensures.value ∙ c.in_ok-bytes.ensures.bytes _ h))

pub returns-in_err-cut_to-clause-any_moment : goal.returns-in_err-cut_to-clause-any_moment
returns-in_err-cut_to-clause-any_moment g c ms rest are h only =
    let P = StartsWith (log_of c.args.header.now ms) in
    let is = c.deref-2.ensures.value ∙ c.in_ok-bytes.ensures.bytes _ h in
    let few = found_before c.args.header.now c.deref-2.result.now c.in-Ok.front.entries.items c.in-Ok.front.last.0 c.in-Ok.front.size c.in-Ok.ensures.front ms rest are is in
    let at_start = started g.L.EventLog.moment g.L.EventLog.left_since c.args.self.now.log P (λ f left. (rest, only f (g.met.L.EventLog.only_now c.args.self.now.log f left))) in
    let read = goes_on g.L.EventLog.moment g.L.EventLog.left_since c.args.self.now.log c.args.self.now.log c.read.new.self P _ at_start c.read.ensures.time (λ f now. (rest, only f (c.read.ensures.crash f now))) in
    joins g.L.EventLog.moment g.L.EventLog.left_since c.args.self.now.log c.read.new.self c.cut_to.new.log P read (c.cut_to.ensures.any_moment (log_of c.args.header.now ms) few (λ f now. (rest, only f (c.read.ensures.crash f now))))

pub returns-clause-any_moment : goal.returns-clause-any_moment
returns-clause-any_moment g c ms rest are h only =
    let P = StartsWith (log_of c.args.header.now ms) in
    let is = c.deref-2.ensures.value ∙ c.in_ok-bytes.ensures.bytes _ h in
    let few = found_before c.args.header.now c.deref-2.result.now c.in-Ok.front.entries.items c.in-Ok.front.last.0 c.in-Ok.front.size c.in-Ok.ensures.front ms rest are is in
    let at_start = started g.L.EventLog.moment g.L.EventLog.left_since c.args.self.now.log P (λ f left. (rest, only f (g.met.L.EventLog.only_now c.args.self.now.log f left))) in
    let read = goes_on g.L.EventLog.moment g.L.EventLog.left_since c.args.self.now.log c.args.self.now.log c.read.new.self P _ at_start c.read.ensures.time (λ f now. (rest, only f (c.read.ensures.crash f now))) in
    joins g.L.EventLog.moment g.L.EventLog.left_since c.args.self.now.log c.read.new.self c.cut_to.new.log P read (c.cut_to.ensures.any_moment (log_of c.args.header.now ms) few (λ f now. (rest, only f (c.read.ensures.crash f now))))

pub returns-clause-all : goal.returns-clause-all
returns-clause-all g c ms rest are h =
    found_all c.args.header.now c.deref-2.result.now c.in-Ok.front.entries.items c.in-Ok.front.last.0 c.in-Ok.front.size c.in-Ok.ensures.front ms rest are (c.deref-2.ensures.value ∙ c.in_ok-bytes.ensures.bytes _ h)

pub returns-clause-torn : goal.returns-clause-torn
returns-clause-torn g c ms tail are h none batch =
    c.in-Ok.ensures.torn (subst HasBatch (cut_off c.args.header.now c.deref-2.result.now c.in-Ok.front.entries.items c.in-Ok.front.last.0 c.in-Ok.front.size c.in-Ok.ensures.front ms tail are (c.deref-2.ensures.value ∙ c.in_ok-bytes.ensures.bytes _ h) none) batch)

pub returns-clause-settled : goal.returns-clause-settled
returns-clause-settled g c file h =
    let kept : Kept g.row.L.Denot = record { log = c.cut_to.new.log; last = c.in-Ok.front.last } in
    let there = subst (λ (l : List ℕ). g.L.EventLog.holds c.read.new.self l) (sym (c.deref-2.ensures.value ∙ c.in_ok-bytes.ensures.bytes file h)) (c.read.ensures.stays file h) in
    let cut = c.in_ok-cut_to.ensures.cut c.deref-2.result.now there in
    recovered_by c.args.header.now c.deref-2.result.now c.in-Ok.front.entries.items c.in-Ok.front.last.0 c.in-Ok.front.size c.in-Ok.ensures.front g.L.EventLog.holds g.L.EventLog.may_leave kept refl cut.0 cut.1

pub returns-clause-begun : goal.returns-clause-begun
returns-clause-begun g c file h =
    inl (subst (StartsWith c.args.header.now) (c.deref-2.ensures.value ∙ c.in_ok-bytes.ensures.bytes file h)
    (log_starts c.args.header.now c.deref-2.result.now c.in-Ok.front.entries.items c.in-Ok.front.last.0 c.in-Ok.front.size c.in-Ok.ensures.front))

pub returns-clause-cut : goal.returns-clause-cut
returns-clause-cut g c file h =
    let same = c.deref-2.ensures.value ∙ c.in_ok-bytes.ensures.bytes file h in
    let left : c.saturating_sub.result ≡ length c.deref-2.result.now - c.in-Ok.front.size = omega (arith, c.saturating_sub.ensures, c.len-2.ensures, ap length c.deref-2.ensures.value) in
    subst (λ (l : List ℕ). IsTornBy c.args.header.now c.in-Ok.front.entries.items c.saturating_sub.result l) same
    (torn_behind c.args.header.now c.deref-2.result.now c.in-Ok.front.entries.items c.in-Ok.front.last.0 c.in-Ok.front.size c.in-Ok.ensures.front c.saturating_sub.result left)

pub returns-then-is_beginning-clause-cut : goal.returns-then-is_beginning-clause-cut
returns-then-is_beginning-clause-cut g c file h =
    let same = c.deref.ensures.value ∙ c.in_ok-bytes.ensures.bytes file h in
    let short = c.if-is_beginning.ensures.some in
    inr ((omega (arith, short.0, ap length same), subst (λ (l : List ℕ). StartsWith l c.args.header.now) same short.1), search rules, omega (arith, c.len.ensures, ap length (c.in_ok-bytes.ensures.bytes file h)))

pub returns-in-Err-clause-unbegun : goal.returns-in-Err-clause-unbegun
returns-in-Err-clause-unbegun g c is = absurd (subst IsWantedFault (let same : c.in-Err.fault ≡ Unbegun = cc in same) c.in-Err.ensures.others)

pub returns-in-Err-clause-moved : goal.returns-in-Err-clause-moved
returns-in-Err-clause-moved g c is = subst IsWantedFault (let same : c.in-Err.fault ≡ Moved = cc in same) c.in-Err.ensures.others

pub returns-in-Err-clause-count : goal.returns-in-Err-clause-count
returns-in-Err-clause-count g c n w is =
    let same : c.in-Err.fault ≡ Count n w = cc in
    let found = c.in-Err.ensures.count n w (ap (λ (f : LogFault). Err f) same) in (
      found.0,
      found.1,
      λ file h. subst (λ (l : List ℕ). HasEntries c.args.header.now n l) (c.deref-2.ensures.value ∙ c.in_ok-bytes.ensures.bytes file h) found.2,
    )

pub returns-in-Err-clause-damaged : goal.returns-in-Err-clause-damaged
returns-in-Err-clause-damaged g c n why is =
    let same : c.in-Err.fault ≡ Damaged n why = cc in
    let found = c.in-Err.ensures.damaged n why (ap (λ (f : LogFault). Err f) same) in (
      found.0,
      λ file h. subst (λ (l : List ℕ). IsDamaged c.args.header.now n l) (c.deref-2.ensures.value ∙ c.in_ok-bytes.ensures.bytes file h) found.1,
    )

pub returns-in-Err-clause-failed : goal.returns-in-Err-clause-failed
returns-in-Err-clause-failed g c is =
    let no : Device ≡ NoMemory = wanted_failed c.in-Err.fault Device c.in-Err.ensures.others (let same : c.in-Err.fault ≡ Failed Device = cc in same) in
    absurd cc

pub returns-in-Err-clause-only : goal.returns-in-Err-clause-only
returns-in-Err-clause-only g c fault is = inr (wanted_failed c.in-Err.fault fault c.in-Err.ensures.others (let same : c.in-Err.fault ≡ Failed fault = cc in same))

pub returns-in-Err-clause-left : goal.returns-in-Err-clause-left
returns-in-Err-clause-left g c of file h =
    untouched_by g.L.EventLog.holds g.L.EventLog.may_leave g.L.EventLog.moment g.L.EventLog.left_since file c.args.self.now.log c.read.new.self (c.read.ensures.stays file h) (g.met.L.EventLog.only_now c.args.self.now.log) c.read.ensures.crash c.read.ensures.time

pub returns-in_err-bytes-clause-untouched : goal.returns-in_err-bytes-clause-untouched
returns-in_err-bytes-clause-untouched g c file h other =
    untouched_by g.L.EventLog.holds g.L.EventLog.may_leave g.L.EventLog.moment g.L.EventLog.left_since file c.args.self.now.log c.read.new.self (c.read.ensures.stays file h) (g.met.L.EventLog.only_now c.args.self.now.log) c.read.ensures.crash c.read.ensures.time

pub returns-in-Err-clause-untouched : goal.returns-in-Err-clause-untouched
returns-in-Err-clause-untouched g c file h other =
    untouched_by g.L.EventLog.holds g.L.EventLog.may_leave g.L.EventLog.moment g.L.EventLog.left_since file c.args.self.now.log c.read.new.self (c.read.ensures.stays file h) (g.met.L.EventLog.only_now c.args.self.now.log) c.read.ensures.crash c.read.ensures.time

pub returns-in_err-begin-clause-untouched : goal.returns-in_err-begin-clause-untouched
returns-in_err-begin-clause-untouched g c file h other =
    absurd (other.1 (subst (λ (l : List ℕ). StartsWith l c.args.header.now) (c.deref.ensures.value ∙ c.in_ok-bytes.ensures.bytes file h) c.if-is_beginning.ensures.some.1))

pub returns-then-is_beginning-clause-untouched : goal.returns-then-is_beginning-clause-untouched
returns-then-is_beginning-clause-untouched g c file h other =
    absurd (other.1 (subst (λ (l : List ℕ). StartsWith l c.args.header.now) (c.deref.ensures.value ∙ c.in_ok-bytes.ensures.bytes file h) c.if-is_beginning.ensures.some.1))

pub returns-in_err-cut_to-clause-untouched : goal.returns-in_err-cut_to-clause-untouched
returns-in_err-cut_to-clause-untouched g c file h other =
    absurd (other.0 (subst (StartsWith c.args.header.now) (c.deref-2.ensures.value ∙ c.in_ok-bytes.ensures.bytes file h)
    (log_starts c.args.header.now c.deref-2.result.now c.in-Ok.front.entries.items c.in-Ok.front.last.0 c.in-Ok.front.size c.in-Ok.ensures.front)))

pub returns-clause-untouched : goal.returns-clause-untouched
returns-clause-untouched g c file h other =
    absurd (other.0 (subst (StartsWith c.args.header.now) (c.deref-2.ensures.value ∙ c.in_ok-bytes.ensures.bytes file h)
    (log_starts c.args.header.now c.deref-2.result.now c.in-Ok.front.entries.items c.in-Ok.front.last.0 c.in-Ok.front.size c.in-Ok.ensures.front)))

pub returns-then-not-is_new-clause-unbegun : goal.returns-then-not-is_new-clause-unbegun
returns-then-not-is_new-clause-unbegun g c is =
    let short = c.if-is_beginning.ensures.some in (
      λ new. let no : true ≡ false = sym (c.is_new.ensures.1 new) ∙ c.if-not-is_new.true in absurd cc,
      λ file h.
          let same = c.deref.ensures.value ∙ c.in_ok-bytes.ensures.bytes file h in
          (omega (arith, short.0, ap length same), subst (λ (l : List ℕ). StartsWith l c.args.header.now) same short.1),
    )

pub returns-then-not-is_new-clause-untouched : goal.returns-then-not-is_new-clause-untouched
returns-then-not-is_new-clause-untouched g c file h other =
    untouched_by g.L.EventLog.holds g.L.EventLog.may_leave g.L.EventLog.moment g.L.EventLog.left_since file c.args.self.now.log c.read.new.self (c.read.ensures.stays file h) (g.met.L.EventLog.only_now c.args.self.now.log) c.read.ensures.crash c.read.ensures.time

pub returns-then-not-is_new-clause-left : goal.returns-then-not-is_new-clause-left
returns-then-not-is_new-clause-left g c of file h =
    untouched_by g.L.EventLog.holds g.L.EventLog.may_leave g.L.EventLog.moment g.L.EventLog.left_since file c.args.self.now.log c.read.new.self (c.read.ensures.stays file h) (g.met.L.EventLog.only_now c.args.self.now.log) c.read.ensures.crash c.read.ensures.time

pub returns-then-is_beginning-clause-begun : goal.returns-then-is_beginning-clause-begun
returns-then-is_beginning-clause-begun g c file h =
    inr (
      c.is_new.ensures.0 c.if-not-is_new.false,
      subst (λ (l : List ℕ). StartsWith l c.args.header.now) (c.deref.ensures.value ∙ c.in_ok-bytes.ensures.bytes file h) c.if-is_beginning.ensures.some.1,
    )

pub returns-then-is_beginning-clause-wanted : goal.returns-then-is_beginning-clause-wanted
returns-then-is_beginning-clause-wanted g c =
    let none : c.new.result.items ≡ [] = search rules in
    subst (λ (w : Wanted). Fits w (length c.new.result.items)) (sym (c.is_new.ensures.0 c.if-not-is_new.false)) (ap length none)
