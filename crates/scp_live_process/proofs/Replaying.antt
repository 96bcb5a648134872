-- That what is kept of lines that were answered is what was played.
use Rattle.std.proofs.Common.{ℕ, Bool, true, false, List, [], ◌∷◌, ◌++◌, sym, subst, ⊎_elim}
use Rattle.std.specs.Prelude.{◌≤◌, ◌⊎◌, length}
use Rattle.scp_stand_node.specs.scp_core.specs.declared.event.Event.{Event as Happening}
use Rattle.scp_stand_node.specs.scp_core.specs.History.{Exchange}
use Rattle.scp_batches.specs.scp_live_log.specs.Log.{EntryView}
use Rattle.scp_batches.specs.declared.line.TheConstants.{LINE_LIMIT}
use Rattle.scp_live.specs.scp_live_lines.specs.declared.asked.Asked.{Asked}
use Rattle.scp_live.specs.scp_live_lines.specs.declared.asked.Asked.TheVariants.{Event, Again, State, Report, Stand, Applied, Nothing}
use Rattle.scp_live.specs.scp_live_lines.specs.Says.{Says}
use Rattle.scp_live.specs.Live.{LiveView}
use Rattle.scp_live.specs.Replays.{AreReplayed}
use Rattle.scp_live.proofs.Replaying.{replayed_one, replayed_on}
use Rattle.scp_live_process.specs.Answers.{IsQuiet, IsPlayed, IsTakenBy, IsDone, IsServed, IsRefused, IsTooLong, IsAnswered, next_number}
use Rattle.scp_live.specs.Full.{is_turned_away}
use Rattle.scp_live_process.specs.Laws.{KeptIsPlayed}

quiet : (old new : LiveView) (heard : List Exchange) (kept : List EntryView) → IsQuiet old heard new kept → AreReplayed kept old heard new
quiet old new heard kept q = subst (λ (k : List EntryView). AreReplayed k old heard new) (sym q.none) (q.silent, q.same)

pub played : (event : Happening) (line : List ℕ) (old new : LiveView) (heard : List Exchange) (kept : List EntryView) (told : List ℕ) → Says old.names line (Event event) → IsPlayed event line old heard new kept told → AreReplayed kept old heard new
played event line old new heard kept told says p =
    let entry : EntryView = record { line = line; sent = p.digest } in
    subst (λ (k : List EntryView). AreReplayed k old heard new) (sym p.entry)
    (replayed_one entry old new heard (record { event = event; says = says; told = told; tells = p.tells; names = p.names; nodes = p.nodes }))

taken : (away : Bool) (event : Happening) (line : List ℕ) (old new : LiveView) (heard : List Exchange) (kept : List EntryView) (told : List ℕ) → Says old.names line (Event event) → IsTakenBy away event line old heard new kept told → AreReplayed kept old heard new
taken true event line old new heard kept told says p = quiet old new heard kept p.0
taken false event line old new heard kept told says p = played event line old new heard kept told says p

done : (asked : Asked) (line : List ℕ) (old new : LiveView) (heard : List Exchange) (kept : List EntryView) (told : List ℕ) → Says old.names line asked → IsDone asked line old heard new kept told → AreReplayed kept old heard new
done (Event event) line old new heard kept told says p = taken (is_turned_away event old.node) event line old new heard kept told says p
done (Again link) line old new heard kept told says p = quiet old new heard kept p.0
done State line old new heard kept told says p = quiet old new heard kept p.0
done Report line old new heard kept told says p = quiet old new heard kept p.0
done Stand line old new heard kept told says p = quiet old new heard kept p.0
done (Applied slot) line old new heard kept told says p = quiet old new heard kept p.0
done Nothing line old new heard kept told says p = quiet old new heard kept p.0

answered : (number : ℕ) (line : List ℕ) (old new : LiveView) (heard : List Exchange) (kept : List EntryView) (text : List ℕ) → IsAnswered number line old heard new kept text → AreReplayed kept old heard new
answered number line old new heard kept text p =
    ⊎_elim
    (λ (l : IsTooLong number line old heard new kept text). quiet old new heard kept l.quiet)
    (λ (s : (length line ≤ LINE_LIMIT) × (IsServed number line old heard new kept text ⊎ IsRefused number line old heard new kept text)).
    ⊎_elim
    (λ (d : IsServed number line old heard new kept text). done d.asked line old new heard kept d.told d.says d.done)
    (λ (r : IsRefused number line old heard new kept text). quiet old new heard kept r.quiet)
    s.1)
    p

pub kept_is_played : KeptIsPlayed
kept_is_played number [] old heard new kept text p = quiet old new heard kept p.0
kept_is_played number (line ∷ lines) old heard new kept text p =
    let rest = kept_is_played (next_number number) lines p.mid p.heard_next new p.kept_next p.text_next p.next in
    let all = replayed_on p.kept_first p.kept_next old p.mid new p.heard_first p.heard_next (answered number line old p.mid p.heard_first p.kept_first p.text_first p.first) rest in
    subst (λ (k : List EntryView). AreReplayed k old heard new) (sym p.kept_is)
    (subst (λ (h : List Exchange). AreReplayed (p.kept_first ++ p.kept_next) old h new) (sym p.heard_is) all)
