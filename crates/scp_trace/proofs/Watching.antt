-- What the watch does before and after a line.
use Rattle.std.proofs.Common.{◌≡◌, ◌∙◌, ◌+◌, ◌-◌, ◌<◌, ◌++◌, [], ℕ, Bool, true, false, List, Option, None, Some, inl, inr, length, take, refl, sym, ap, subst, append_assoc, append-nil}
use Rattle.std.specs.Prelude.{◌||◌, Result, Ok, Err, OnOk, slice_get, string_bytes}
use Rattle.std.proofs.lemmas.Option.{slice_get_within, get_or_from_slice_get}
use Rattle.scp_line.specs.scp_types.specs.declared.fault.Fault.{Fault}
use Rattle.scp_line.specs.scp_core.specs.Kv.{NodeView, LedgerTheorem}
use Rattle.scp_line.specs.scp_driver.specs.Kv.{kv_says}
use Rattle.scp_line.specs.scp_ledger.specs.By.{RunsBy}
use Rattle.scp_line.specs.scp_turn.specs.Heard.{Nodes as NodeList, past_at}
use Rattle.scp_line.specs.scp_script.specs.declared.command.Command.{Command}
use Rattle.scp_line.specs.scp_script.specs.declared.command.Command.TheVariants as script
use Rattle.scp_line.specs.Player.{ArePlaying}
use Rattle.scp_stand_node.specs.scp_stand_slot.specs.declared.names.Names.{Names}
use Rattle.scp_stand_node.specs.scp_stand_slot.specs.Adding.{Adds}
use Rattle.scp_stand_node.specs.Stand.{IsSeen}
use Rattle.scp_trace_text.specs.scp_facts.specs.declared.fact.Telling.{Telling}
use Rattle.scp_trace_text.specs.scp_facts.specs.declared.watch.Awaited.TheVariants.{Nothing}
use Rattle.scp_trace_text.specs.scp_facts.specs.Watching.{WatchView}
use Rattle.scp_trace_text.specs.Facts.{facts_text}
use Rattle.scp_trace.specs.declared.depth.Depth.{Depth}
use Rattle.scp_trace.specs.declared.depth.Depth.TheVariants.{Stands, Whole}
use Rattle.scp_trace.specs.declared.tracing.TraceWatch.{TraceWatch}
use Rattle.scp_trace.specs.Standing.{IsStandIn}
use Rattle.scp_trace.specs.Traced.{line_part, facts_part}
use Rattle.scp_trace.specs.inside.Tracing.{Told, held, lacks, StandsIf, StandsBy, LineBegins, LineEnds}

-- ---- the facts of a line

-- they were written
pub facts_written : (depth : Depth) (names : Names) (line : ℕ) (nodes : NodeList) (tellings shown : List Telling) (old new : List ℕ) (r : Result (Unit {0}) Fault) → depth ≡ Whole → shown ≡ tellings → OnOk r (new ≡ old ++ facts_text names line nodes shown) → OnOk r (new ≡ old ++ facts_part depth names line nodes tellings)
facts_written depth names line nodes tellings shown old new r whole same is =
    subst (λ (d : Depth). OnOk r (new ≡ old ++ facts_part d names line nodes tellings)) (sym whole)
    (subst (λ (l : List Telling). OnOk r (new ≡ old ++ facts_text names line nodes l)) same is)

-- or they aren't asked for
pub facts_left : (depth : Depth) (names : Names) (line : ℕ) (nodes : NodeList) (tellings : List Telling) (text : List ℕ) → depth ≡ Stands → text ≡ text ++ facts_part depth names line nodes tellings
facts_left depth names line nodes tellings text stands = subst (λ (d : Depth). text ≡ text ++ facts_part d names line nodes tellings) (sym stands) (sym (append-nil text))

-- ---- where a node stands

-- the node of a report
pub seen_among : (nodes : NodeList) (i : ℕ) (v : NodeView) → ArePlaying nodes → slice_get nodes i ≡ Some v → IsSeen v
seen_among nodes i v playing at =
    let runs = playing.run i v at in
    let theorem = subst (λ (u : NodeView). LedgerTheorem (past_at (i + 1) playing.heard) u) (get_or_from_slice_get nodes i v v at) (playing.have i v (slice_get_within nodes i v at)) in
    record { runs = runs; ledger = subst (λ (u : NodeView). RunsBy kv_says u.ledger) (sym (theorem.now runs)) theorem.flows.journal.running }

stand_added : (names : Names) (all before : List Command) (found : Option NodeView) (v : NodeView) (old new : List ℕ) → found ≡ Some v → Adds old new (IsStandIn names all before v) → Adds old new (StandsIf names all before found)
stand_added names all before found v old new at a = (a.0, a.1, subst (λ (o : Option NodeView). StandsIf names all before o a.0) (sym at) a.2)

-- it was written
pub stand_written : (names : Names) (nodes : NodeList) (number : ℕ) (all before played : List Command) (v : NodeView) (old new : List ℕ) (r : Result (Unit {0}) Fault) → played ≡ before → slice_get nodes (number - 1) ≡ Some v → OnOk r (Adds old new (IsStandIn names all played v)) → OnOk r (Adds old new (StandsIf names all before (slice_get nodes (number - 1))))
stand_written names nodes number all before played v old new (Ok done) same at a =
    stand_added names all before (slice_get nodes (number - 1)) v old new at (subst (λ (l : List Command). Adds old new (IsStandIn names all l v)) same a)
stand_written names nodes number all before played v old new (Err fault) same at a = tt

-- there is no such node
pub stand_left : (names : Names) (all before : List Command) (found : Option NodeView) (text : List ℕ) → found ≡ None → Adds text text (StandsIf names all before found)
stand_left names all before found text none = ([], sym (append-nil text), subst (λ (o : Option NodeView). StandsIf names all before o []) (sym none) refl)

-- the line asks for it
pub stand_asked : (names : Names) (number : ℕ) (all before : List Command) (nodes : NodeList) (command : Command) (old new : List ℕ) (r : Result (Unit {0}) Fault) → command ≡ script.Report number → OnOk r (Adds old new (StandsIf names all before (slice_get nodes (number - 1)))) → OnOk r (Adds old new (StandsBy names all before nodes command))
stand_asked names number all before nodes command old new r is a = subst (λ (c : Command). OnOk r (Adds old new (StandsBy names all before nodes c))) (sym is) a

-- ---- after a line

-- both were added
pub both_written : (old mid : TraceWatch) (line : ℕ) (command : Command) (nodes : NodeList) (new : List ℕ) (r : Result (Unit {0}) Fault) → mid ≡ record old { text = mid.text; facts = mid.facts } → string_bytes mid.text ≡ string_bytes old.text ++ facts_part old.depth old.names.now line nodes old.facts.tellings
    → OnOk r (Adds (string_bytes mid.text) new (StandsBy mid.names.now mid.commands.now (take mid.done mid.commands.now) nodes command))
    → OnOk r (Adds (string_bytes old.text ++ facts_part old.depth old.names.now line nodes old.facts.tellings) new (StandsBy old.names.now old.commands.now (take old.done old.commands.now) nodes command))
both_written old mid line command nodes new r same text a =
    let told = string_bytes old.text ++ facts_part old.depth old.names.now line nodes old.facts.tellings in
    subst (λ (w : TraceWatch). OnOk r (Adds told new (StandsBy w.names.now w.commands.now (take w.done w.commands.now) nodes command))) same
    (subst (λ (t : List ℕ). OnOk r (Adds t new (StandsBy mid.names.now mid.commands.now (take mid.done mid.commands.now) nodes command))) text a)

-- what changed since the line began
pub same_both : (old mid new : TraceWatch) → mid ≡ record old { text = mid.text; facts = mid.facts } → new ≡ record mid { text = new.text } → new ≡ record old { text = new.text; facts = new.facts }
same_both old mid new first second =
    second
    ∙ ap (λ (w : TraceWatch). let t : TraceWatch = record w { text = new.text } in t) first
    ∙ ap (λ (f : WatchView). let t : TraceWatch = record old { text = new.text; facts = f } in t) (sym (ap (λ (w : TraceWatch). w.facts) second))

-- what the watch holds, by its parts
abbrev told_by : Depth → Names → List Command → ℕ → List ℕ → List Telling → Told
told_by depth names all done text tellings = record { depth = depth; names = names; all = all; done = done; text = text; tellings = tellings }

-- the line is done
ended_calm : (old mid new : TraceWatch) (line : ℕ) (command : Command) (calm : Bool) (nodes : NodeList) → old.lacks_memory ≡ false → mid ≡ record old { text = mid.text; facts = mid.facts } → mid.facts ≡ record { tellings = []; awaited = Nothing; lacks_memory = false } → old.facts.lacks_memory ≡ false
    → Adds (string_bytes old.text ++ facts_part old.depth old.names.now line nodes old.facts.tellings) (string_bytes mid.text) (StandsBy old.names.now old.commands.now (take old.done old.commands.now) nodes command)
    → new ≡ record mid { done = new.done } → (mid.done < length mid.commands.now → new.done ≡ mid.done + 1) → LineEnds old line command calm nodes new
ended_calm old mid new line command calm nodes own same fresh none a counted one =
    let told = facts_part old.depth old.names.now line nodes old.facts.tellings in
    let text : string_bytes mid.text ≡ string_bytes old.text ++ (told ++ a.0) = a.1 ∙ append_assoc (string_bytes old.text) told a.0 in
    let again : (mid.done ≡ old.done) × (mid.commands.now ≡ old.commands.now) = (ap (λ (w : TraceWatch). w.done) same, ap (λ (w : TraceWatch). w.commands.now) same) in
    inr (
      rw own none,
      (
        a.0,
        a.2,
        λ within.
            let more : new.done ≡ old.done + 1 = one (subst (λ (n : ℕ). n < length mid.commands.now) (sym again.0) (subst (λ (l : List Command). old.done < length l) (sym again.1) within)) ∙ ap (λ (n : ℕ). n + 1) again.0 in
            ap (λ (w : TraceWatch). held w) counted
            ∙ ap (λ (w : TraceWatch). told_by w.depth w.names.now w.commands.now new.done (string_bytes mid.text) mid.facts.tellings) same
            ∙ ap (λ (n : ℕ). told_by old.depth old.names.now old.commands.now n (string_bytes mid.text) mid.facts.tellings) more
            ∙ ap (λ (t : List ℕ). told_by old.depth old.names.now old.commands.now (old.done + 1) t mid.facts.tellings) text
            ∙ ap (λ (f : WatchView). told_by old.depth old.names.now old.commands.now (old.done + 1) (string_bytes old.text ++ (told ++ a.0)) f.tellings) fresh,
      ),
    )

ended_by : (own : Bool) (old mid new : TraceWatch) (line : ℕ) (command : Command) (calm : Bool) (nodes : NodeList) → old.lacks_memory ≡ own → mid ≡ record old { text = mid.text; facts = mid.facts } → mid.facts ≡ record { tellings = []; awaited = Nothing; lacks_memory = false } → old.facts.lacks_memory ≡ false
    → Adds (string_bytes old.text ++ facts_part old.depth old.names.now line nodes old.facts.tellings) (string_bytes mid.text) (StandsBy old.names.now old.commands.now (take old.done old.commands.now) nodes command)
    → new ≡ record mid { done = new.done } → (mid.done < length mid.commands.now → new.done ≡ mid.done + 1) → LineEnds old line command calm nodes new
ended_by true old mid new line command calm nodes own same fresh none a counted one =
    let lost : new.lacks_memory ≡ true = ap (λ (w : TraceWatch). w.lacks_memory) counted ∙ ap (λ (w : TraceWatch). w.lacks_memory) same ∙ own in
    inl (ap (λ (b : Bool). b || new.facts.lacks_memory) lost)
ended_by false old mid new line command calm nodes own same fresh none a counted one = ended_calm old mid new line command calm nodes own same fresh none a counted one

pub line_ended : (old mid new : TraceWatch) (line : ℕ) (command : Command) (calm : Bool) (nodes : NodeList) → mid ≡ record old { text = mid.text; facts = mid.facts } → mid.facts ≡ record { tellings = []; awaited = Nothing; lacks_memory = false } → old.facts.lacks_memory ≡ false
    → Adds (string_bytes old.text ++ facts_part old.depth old.names.now line nodes old.facts.tellings) (string_bytes mid.text) (StandsBy old.names.now old.commands.now (take old.done old.commands.now) nodes command)
    → new ≡ record mid { done = new.done } → (mid.done < length mid.commands.now → new.done ≡ mid.done + 1) → LineEnds old line command calm nodes new
line_ended old mid new line command calm nodes same fresh none a counted one = ended_by old.lacks_memory old mid new line command calm nodes refl same fresh none a counted one

-- ---- before a line

pub line_begun : (old new : TraceWatch) (line : ℕ) (command : Command) (nodes : NodeList) → new ≡ record old { text = new.text } → string_bytes new.text ≡ string_bytes old.text ++ line_part old.depth old.names.now line command → LineBegins old line command nodes new
line_begun old new line command nodes same text =
    inr (
      ap (λ (w : TraceWatch). lacks w) same,
      ap (λ (w : TraceWatch). held w) same ∙ ap (λ (t : List ℕ). told_by old.depth old.names.now old.commands.now old.done t old.facts.tellings) text,
    )
