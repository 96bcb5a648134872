-- What the links of a node ended with, one more at a time, and what is reported of it.
use Rattle.std.proofs.Common.{◌≡◌, ◌∙◌, ℕ, ◌+◌, Bool, true, false, ap, sym, refl, subst, List, [], ◌∷◌, ◌++◌, length, Option, Some, None, ◌⊎◌, inl, inr, ⊎_elim, Result, Ok, Err, IfErr, IsOkUnless, arith}
use Rattle.std.specs.Prelude.{◌||◌, ◌↔◌, IsErrOf, IfOk, IfSome, MatchResult, slice_get, option_map}
use Rattle.std.specs.List.{list_any}
use Rattle.std.specs.Option.{option_or}
use Rattle.std.specs.Result.{result_err}
use Rattle.std.proofs.lemmas.List.{length-append}
use Rattle.std.proofs.lemmas.Option.{slice_get_within}
use Rattle.scp_gather.specs.scp_types.specs.declared.fault.Fault.{Fault}
use Rattle.scp_gather.specs.scp_types.specs.declared.fault.Fault.TheVariants.{NoMemory, Refused}
use Rattle.scp_gather.specs.scp_types.specs.declared.fault.Stage.{Stage}
use Rattle.scp_gather.specs.scp_types.specs.declared.fault.Stage.TheVariants.{Reader}
use Rattle.scp_gather.specs.scp_ends.specs.Links.{LinkEnd}
use Rattle.scp_gather.specs.scp_workers.specs.Reading.{ReaderEnd}
use Rattle.scp_gather.specs.scp_workers.specs.Working.{Holds}
use Rattle.scp_gather.specs.scp_workers.specs.Pending.{PendEnd}
use Rattle.scp_gather.specs.Left.{Left}
use Rattle.scp_gather.specs.scp_workers.specs.Slot.{SlotEnd}
use Rattle.scp_gather.specs.scp_workers.specs.Apply.{ApplyEnd}
use Rattle.scp_gather.specs.scp_wire.specs.declared.link.Inbound.{Inbound}
use Rattle.scp_gather.specs.scp_ends.specs.Ends.{Sender}
use Rattle.scp_threaded_node.specs.declared.node.Node.{Node}
use Rattle.scp_gather.specs.Report.{has_failed, first_so}
use Rattle.scp_threaded_node.specs.declared.ending.Stood.{Stood}
use Rattle.scp_threaded_node.specs.declared.ending.TailLeft.{TailLeft}
use Rattle.scp_threaded_node.specs.declared.node.Running.{Running}
use Rattle.scp_threaded_node.specs.declared.node.Tail.TheVariants.{Host}
use Rattle.scp_threaded_node.specs.Faults.{driven, LaneEnd, NodeEnd, IsLaneEnd, IsNodeEnd, IsTold, is_unread, tail_fault, links_fault, local_fault, fault_by, fault_of}
use Rattle.scp_threaded_node.specs.inside.Ending.{HasTailFault, HaveEnded, IsLeftOf}
use Rattle.scp_gather.specs.scp_shared_outbox.proofs.ListsOfAll.{push_cases}

-- ---- lists with one more

any_more : {T : Type 0} (test : T → Bool) (xs : List T) (y : T) → list_any test (xs ++ y ∷ []) ≡ (list_any test xs || test y)
any_more test [] y = or_last (test y)
  where
    or_last : (b : Bool) → (b || false) ≡ b
    or_last true = refl
    or_last false = refl
any_more test (x ∷ xs) y = ap (λ (b : Bool). test x || b) (any_more test xs y) ∙ sym (or_assoc (test x) (list_any test xs) (test y))
  where
    or_assoc : (a b c : Bool) → ((a || b) || c) ≡ (a || (b || c))
    or_assoc true b c = refl
    or_assoc false b c = refl

or_none : (o : Option Fault) → option_or o None ≡ o
or_none None = refl
or_none (Some x) = refl

or_assoc : (a b c : Option Fault) → option_or (option_or a b) c ≡ option_or a (option_or b c)
or_assoc None b c = refl
or_assoc (Some x) b c = refl

-- where none of two is there, the first isn't
pub first_none : (a b why : Option Fault) → why ≡ option_or a b → why ≡ None → a ≡ None
first_none None b why is none = refl
first_none (Some x) b why is none = let k : Some x ≡ None = sym is ∙ none in cc

fault_more : (es : List LaneEnd) (e : LaneEnd) → links_fault (es ++ e ∷ []) ≡ option_or (links_fault es) (tail_fault e.tail e.stood)
fault_more [] e = or_none (tail_fault e.tail e.stood)
fault_more (x ∷ es) e =
    ap (λ (o : Option Fault). option_or (tail_fault x.tail x.stood) o) (fault_more es e)
    ∙ sym (or_assoc (tail_fault x.tail x.stood) (links_fault es) (tail_fault e.tail e.stood))

-- ---- one link more

pub readers_more : (readers readers2 : List ReaderEnd) (r : ReaderEnd) (failed failed2 : Bool) → readers2 ≡ readers ++ r ∷ [] → failed2 ≡ (failed || has_failed r) → list_any has_failed readers ≡ failed → list_any has_failed readers2 ≡ failed2
readers_more readers readers2 r failed failed2 is told before =
    ap (λ (rs : List ReaderEnd). list_any has_failed rs) is
    ∙ any_more has_failed readers r
    ∙ ap (λ (b : Bool). b || has_failed r) before
    ∙ sym told

pub ended_more : (lanes front : List Running) (last : Running) (stood : List Stood) (st : Stood) (r : ReaderEnd) (failed failed2 : Bool) (why why2 link : Option Fault)
    → lanes ≡ front ++ last ∷ [] → slice_get stood (length front) ≡ Some st → Holds last.reader.promise.0.value r → HasTailFault last.tail st link
    → failed2 ≡ (failed || has_failed r) → why2 ≡ option_or why link → HaveEnded front stood failed why → HaveEnded lanes stood failed2 why2
ended_more lanes front last stood st r failed failed2 why why2 link is at holds tail told_failed told_why have = record {
  ends = have.ends ++ e ∷ [];
  are = record {
    count = omega (arith, length-append have.ends (e ∷ []), have.are.count, whole);
    each = λ i x hx y hy. by i x (push_cases front last x i (ap (λ (l : List Running). slice_get l i) (sym is) ∙ hx)) y (push_cases have.ends e y i hy);
  };
  failed_is = told_failed ∙ ap (λ (b : Bool). b || has_failed r) have.failed_is ∙ sym (any_more is_unread have.ends e);
  why_is = told_why
      ∙ ap (λ (o : Option Fault). option_or o link) have.why_is
      ∙ ap (λ (o : Option Fault). option_or (links_fault have.ends) o) tail.2
      ∙ sym (fault_more have.ends e);
}
  where
    e : LaneEnd
    e = record { reader = r; tail = tail.0; stood = st }

    whole : length lanes ≡ length front + 1
    whole = omega (arith, ap (λ (l : List Running). length l) is, length-append front (last ∷ []))

    here : IsLaneEnd (slice_get stood (length front)) last e
    here = record { reader = holds; tail = tail.1; stood_is = at }

    by : (i : ℕ) (x : Running) → (slice_get front i ≡ Some x) ⊎ ((i ≡ length front) × (x ≡ last)) → (y : LaneEnd) → (slice_get have.ends i ≡ Some y) ⊎ ((i ≡ length have.ends) × (y ≡ e)) → IsLaneEnd (slice_get stood i) x y
    by i x (inl a) y (inl b) = have.are.each i x a y b
    by i x (inl a) y (inr b) = absurd (omega (arith, slice_get_within front i x a, b.0, have.are.count))
    by i x (inr a) y (inl b) = absurd (omega (arith, slice_get_within have.ends i y b, a.0, have.are.count))
    by i x (inr a) y (inr b) = rw (a.0, a.1, b.1) here

pub none_ended : (stood : List Stood) → HaveEnded [] stood false None
none_ended stood = record {
  ends = [];
  are = record { count = refl; each = λ i x hx y hy. let k : None ≡ Some x = hx in cc };
  failed_is = refl;
  why_is = refl;
}

-- ---- what is reported

-- of what was gathered: the first stage that failed, or out of memory
pub gathered_told : {T : Type 0} (r : Result T Fault) (stage : Option Stage) (later : Option Fault) → later ≡ None
    → ((s : Stage) → IsErrOf r (Refused s) ↔ (stage ≡ Some s)) → IfErr r (λ f. (f ≡ NoMemory) ⊎ ((s : Stage) × (f ≡ Refused s)))
    → MatchResult r (λ _. option_or (option_map Refused stage) later ≡ None) (IsTold (option_or (option_map Refused stage) later))
gathered_told (Ok x) None later none refused only = none
gathered_told (Ok x) (Some s) later none refused only = let k : Ok x ≡ Err (Refused s) = (refused s).1 refl in cc
gathered_told (Err f) None later none refused only = ⊎_elim
    (λ m. subst (λ (o : Option Fault). IsTold o f) (sym none) m)
    (λ s. let k : None ≡ Some s.0 = (refused s.0).0 (ap Err s.1) in cc)
    only
gathered_told (Err f) (Some s) later none refused only = let k : Err f ≡ Err (Refused s) = (refused s).1 refl in cc

-- ---- how one link ended

-- a link that the host drives
pub driven_end : (k : LinkEnd) (stood : Stood) (r : Result TailLeft Fault) → IfOk r (λ d. (d.link ≡ k) × (d.taker ≡ None)) → IsOkUnless r (Refused Reader) → HasTailFault (Host k) stood (result_err r)
driven_end k stood (Ok d) same gone = (driven (Some d.link), same.0, refl)
driven_end k stood (Err f) same gone = (driven None, tt, ap Some gone)

-- ---- all of a node

same_first : (a a2 b b2 c c2 d d2 : Bool) → a ≡ a2 → b ≡ b2 → c ≡ c2 → d ≡ d2 → first_so a b c d ≡ first_so a2 b2 c2 d2
same_first a a2 b b2 c c2 d d2 p q r s = ap (λ (x : Bool). first_so x b c d) p ∙ ap (λ (x : Bool). first_so a2 x c d) q ∙ ap (λ (x : Bool). first_so a2 b2 x d) r ∙ ap (λ (x : Bool). first_so a2 b2 c2 x) s

-- what is left of a node that was stopped, and what is reported of it
pub stopped_told : {A S T : Type 0} (node : Node A S) (stood : List Stood) (failed lost : Bool) (why : Option Fault) (readers : List ReaderEnd) (links : List LinkEnd) (own : Option (Sender Inbound)) (pend : PendEnd) (slot : SlotEnd A) (apply : ApplyEnd) (r : Result (Left A × T) Fault)
    → HaveEnded node.lanes.items stood failed why → IfSome own (λ s. s ≡ node.local) → Holds node.pend.promise.0.value pend → Holds node.slot.promise.0.value slot → Holds node.apply.promise.0.value apply
    → (lost ≡ false → why ≡ None → list_any has_failed readers ≡ failed)
    → IfOk r (λ e. (lost ≡ false) × (own ≡ Some e.0.local) × (e.0.readers ≡ readers) × (e.0.links ≡ links) × (e.0.pend ≡ pend) × (e.0.slot ≡ slot) × (e.0.apply ≡ apply))
    → MatchResult r (λ _. why ≡ None) (IsTold (fault_by (first_so failed (has_failed pend) (has_failed slot) (has_failed apply)) why (local_fault own)))
    → (x : NodeEnd A) × IsNodeEnd node stood x × MatchResult r (λ e. IsLeftOf x e.0) (IsTold (fault_of x))
stopped_told {A} {S} {T} node stood failed lost why readers links own pend slot apply r have local_is pend_is slot_is apply_is same all told =
    (x, record { lanes = have.are; local = local_is; pend = pend_is; slot = slot_is; apply = apply_is }, by r all told)
  where
    x : NodeEnd A
    x = record { lanes = have.ends; local = own; pend = pend; slot = slot; apply = apply }

    by : (r : Result (Left A × T) Fault) → IfOk r (λ e. (lost ≡ false) × (own ≡ Some e.0.local) × (e.0.readers ≡ readers) × (e.0.links ≡ links) × (e.0.pend ≡ pend) × (e.0.slot ≡ slot) × (e.0.apply ≡ apply))
        → MatchResult r (λ _. why ≡ None) (IsTold (fault_by (first_so failed (has_failed pend) (has_failed slot) (has_failed apply)) why (local_fault own)))
        → MatchResult r (λ e. IsLeftOf x e.0) (IsTold (fault_of x))
    by (Ok e) kept none = (
      same_first (list_any has_failed e.0.readers) (list_any is_unread have.ends) (has_failed e.0.pend) (has_failed pend) (has_failed e.0.slot) (has_failed slot) (has_failed e.0.apply) (has_failed apply)
          (ap (λ (rs : List ReaderEnd). list_any has_failed rs) kept.2 ∙ same kept.0 none ∙ have.failed_is)
          (ap (λ (p : PendEnd). has_failed p) kept.4)
          (ap (λ (s : SlotEnd A). has_failed s) kept.5)
          (ap (λ (a : ApplyEnd). has_failed a) kept.6),
      ap (λ (o : Option Fault). fault_by None o (local_fault own)) (sym have.why_is ∙ none) ∙ ap (λ (l : Option (Sender Inbound)). fault_by None None (local_fault l)) kept.1,
    )
    by (Err f) kept told2 =
        subst (λ (b : Bool). IsTold (fault_by (first_so b (has_failed pend) (has_failed slot) (has_failed apply)) (links_fault have.ends) (local_fault own)) f) have.failed_is
        (subst (λ (o : Option Fault). IsTold (fault_by (first_so failed (has_failed pend) (has_failed slot) (has_failed apply)) o (local_fault own)) f) have.why_is told2)
