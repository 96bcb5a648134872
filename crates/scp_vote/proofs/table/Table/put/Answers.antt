use Rattle.std.proofs.Common.{◌≡◌, List, length, refl, sym, ◌∙◌, subst}
use Rattle.scp_quorum.specs.declared.quorum.places.Seat.{Seat}
use Rattle.scp_vote.specs.inside.Seats.{AreSeated, KeepsSets, IsPlaceFor}
use Rattle.scp_vote.proofs.Seating.{seated_kept, seated_again, seated_more, seated_same, place_within}
use Rattle.scp_vote.proofs.table.Table.put.Goals as goal

pub invariant_of-self : goal.invariant_of-self
invariant_of-self c =
    let t = c.args.self.now in
    let K : List Seat → Type 0 = λ seats. KeepsSets seats t.sets.items c.group_of.new.sets.items in
    record { seated = seated_kept t.entries t.seats.items t.sets.items t.seated c.group_of.new.sets.items (subst K c.deref.ensures.value c.group_of.ensures.kept) }

pub put_at-requires : goal.put_at-requires
put_at-requires c =
    let t = c.args.self.now in
    place_within t.entries t.seats.items t.sets.items c.len.result c.args.envelope.statement.node c.place_for-place.result t.seated (c.len.ensures ∙ t.seats.ok.0) (rw c.get.ensures at c.place_for-place.ensures)

pub invariant_of-self-in-Break-branch-2 : goal.invariant_of-self-in-Break-branch-2
invariant_of-self-in-Break-branch-2 c =
    let t = c.args.self.now in
    let K : List Seat → Type 0 = λ seats. KeepsSets seats t.sets.items c.group_of.new.sets.items in
    let S : List Seat → Type 0 = λ seats. AreSeated t.entries seats c.group_of.new.sets.items in
    record { seated = subst S (sym c.in_err-put_at.ensures.refused) (seated_kept t.entries t.seats.items t.sets.items t.seated c.group_of.new.sets.items (subst K c.deref.ensures.value c.group_of.ensures.kept)) }

pub invariant_of-self-in-Err : goal.invariant_of-self-in-Err
invariant_of-self-in-Err c =
    let t = c.args.self.now in
    let K : List Seat → Type 0 = λ seats. KeepsSets seats t.sets.items c.group_of.new.sets.items in
    let S : List Seat → Type 0 = λ seats. AreSeated c.insert.new.self seats c.group_of.new.sets.items in
    let kept = seated_kept t.entries t.seats.items t.sets.items t.seated c.group_of.new.sets.items (subst K c.deref.ensures.value c.group_of.ensures.kept) in
    let at = rw c.get.ensures at c.place_for-place.ensures in
    let absent = rw c.get.ensures at c.in-Err.ensures.absent in
    let behind : c.place_for-place.result ≡ length t.seats.items = at.behind absent ∙ c.len.ensures ∙ t.seats.ok.0 in
    record {
      seated =
          subst S (sym c.truncate.ensures.items)
          (seated_same t.entries c.insert.new.self _ c.group_of.new.sets.items c.in-Err.ensures.err
          (seated_again t.entries t.seats.items c.group_of.new.sets.items kept c.put_at.new.items.items c.place_for-place.result (record { node = c.args.envelope.statement.node; group = c.in_ok-group.group }) behind (rw c.get.ensures at c.in_ok-put_at.ensures.put)));
    }

pub invariant_of-self-in_default : goal.invariant_of-self-in_default
invariant_of-self-in_default c =
    let t = c.args.self.now in
    let K : List Seat → Type 0 = λ seats. KeepsSets seats t.sets.items c.group_of.new.sets.items in
    let kept = seated_kept t.entries t.seats.items t.sets.items t.seated c.group_of.new.sets.items (subst K c.deref.ensures.value c.group_of.ensures.kept) in
    let at = rw c.get.ensures at c.place_for-place.ensures in
    let for : IsPlaceFor t.entries (length t.seats.items) c.args.envelope.statement.node c.place_for-place.result = record {
      own = at.own;
      behind = λ none. at.behind none ∙ c.len.ensures ∙ t.seats.ok.0;
    } in
    record {
      seated =
          seated_more t.entries t.seats.items c.group_of.new.sets.items kept c.insert.new.self c.put_at.new.items.items
          (record { envelope = c.args.envelope; counted = c.args.counted; place = c.place_for-place.result }) c.args.envelope.statement.node c.in_ok-group.group
          (rw c.get.ensures at c.in_default.ensures.updates.0) refl for (rw c.get.ensures at c.in_ok-put_at.ensures.put) c.in_ok-group.ensures.group;
    }

pub returns-clause-entered : goal.returns-clause-entered
returns-clause-entered c = (c.place_for-place.result, rw c.get.ensures at c.in_default.ensures.updates.0)
