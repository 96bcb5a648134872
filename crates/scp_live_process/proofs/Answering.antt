-- What lines are answered, one behind the other.
use Rattle.std.proofs.Common.{◌≡◌, ℕ, Bool, true, false, List, [], ◌∷◌, ◌++◌, refl, sym, ◌∙◌, ap, subst, append_assoc, append-nil, arith, inl, inr}
use Rattle.std.specs.Prelude.{◌≤◌, ◌<◌, ◌↔◌, IsTrue, length}
use Rattle.scp_stand_node.specs.scp_core.specs.declared.event.Event.{Event as Happening}
use Rattle.scp_stand_node.specs.scp_core.specs.declared.event.Event.TheVariants as happening
use Rattle.scp_stand_node.specs.scp_core.specs.declared.event.Reply.TheVariants as reply
use Rattle.scp_stand_node.specs.scp_core.specs.History.{Exchange}
use Rattle.scp_batches.specs.scp_live_log.specs.Log.{EntryView}
use Rattle.scp_batches.specs.declared.line.TheConstants.{LINE_LIMIT}
use Rattle.scp_stand_node.specs.scp_turn.specs.Episode.{IsOfHost}
use Rattle.scp_live.specs.scp_live_lines.specs.declared.asked.Asked.{Asked}
use Rattle.scp_live.specs.scp_live_lines.specs.declared.asked.Asked.TheVariants.{Event, Again, State, Report, Stand, Applied, Nothing}
use Rattle.scp_stand_node.specs.scp_device.specs.Expected.{words_of}
use Rattle.scp_stand_node.specs.scp_device.specs.declared.bad.BadWord.{BadWord}
use Rattle.scp_stand_node.specs.scp_script.specs.Words.{is_skipped}
use Rattle.scp_stand_node.specs.scp_script.specs.Reasons.{parts_of}
use Rattle.scp_live.specs.scp_live_lines.specs.Says.{Says, SaysBy, SaysEvent}
use Rattle.scp_live.specs.scp_live_lines.specs.Bad.{IsFirstBad}
use Rattle.scp_live.specs.scp_live_lines.specs.Replies.{refused_line, ok_line}
use Rattle.scp_live.specs.Live.{LiveView}
use Rattle.scp_live.specs.Full.{is_turned_away}
use Rattle.scp_live_process.specs.Answers.{IsQuiet, Replies, IsPlayed, IsTaken, IsTakenBy, IsDone, IsAnswered, AreAnswered, next_number, bad_line, long_line}
use Rattle.scp_live_process.specs.Adding.{BatchView, TellsMore, Adds, Asks}
use Rattle.scp_live_process.specs.inside.Batches.{number_behind}

pub still : (v : LiveView) → IsQuiet v [] v []
still v = record { silent = refl; same = refl; none = refl }

-- ---- lines, one behind the other

pub answered_one : (number : ℕ) (line : List ℕ) (a b : LiveView) (x : List Exchange) (k : List EntryView) (s : List ℕ) → IsAnswered number line a x b k s → AreAnswered number (line ∷ []) a x b k s
answered_one number line a b x k s is = record {
  mid = b;
  heard_first = x;
  heard_next = [];
  heard_is = sym (append-nil x);
  kept_first = k;
  kept_next = [];
  kept_is = sym (append-nil k);
  text_first = s;
  text_next = [];
  text_is = sym (append-nil s);
  first = is;
  next = (still b, refl);
}

pub answered_on : (lines : List (List ℕ)) (more : List (List ℕ)) (number : ℕ) (a b c : LiveView) (x y : List Exchange) (k j : List EntryView) (s t : List ℕ) → AreAnswered number lines a x b k s → AreAnswered (number_behind number lines) more b y c j t → AreAnswered number (lines ++ more) a (x ++ y) c (k ++ j) (s ++ t)
answered_on [] more number a b c x y k j s t p q =
    let r : AreAnswered number more a y c j t = subst (λ (v : LiveView). AreAnswered number more v y c j t) p.0.same q in
    subst (λ (h : List Exchange). AreAnswered number more a (h ++ y) c (k ++ j) (s ++ t)) (sym p.0.silent)
    (subst (λ (e : List EntryView). AreAnswered number more a y c (e ++ j) (s ++ t)) (sym p.0.none)
    (subst (λ (u : List ℕ). AreAnswered number more a y c j (u ++ t)) (sym p.1) r))
answered_on (line ∷ lines) more number a b c x y k j s t p q = record {
  mid = p.mid;
  heard_first = p.heard_first;
  heard_next = p.heard_next ++ y;
  heard_is = ap (λ (h : List Exchange). h ++ y) p.heard_is ∙ append_assoc p.heard_first p.heard_next y;
  kept_first = p.kept_first;
  kept_next = p.kept_next ++ j;
  kept_is = ap (λ (e : List EntryView). e ++ j) p.kept_is ∙ append_assoc p.kept_first p.kept_next j;
  text_first = p.text_first;
  text_next = p.text_next ++ t;
  text_is = ap (λ (u : List ℕ). u ++ t) p.text_is ∙ append_assoc p.text_first p.text_next t;
  first = p.first;
  next = answered_on lines more (next_number number) p.mid b c p.heard_next y p.kept_next j p.text_next t p.next q;
}

pub number_on : (lines more : List (List ℕ)) (number : ℕ) → number_behind number (lines ++ more) ≡ number_behind (number_behind number lines) more
number_on [] more number = refl
number_on (line ∷ lines) more number = number_on lines more (next_number number)

-- ---- one line

-- a line says no step of a stage
pub of_host : (names : List (List ℕ)) (words : List (List ℕ)) (event : Happening) → SaysEvent names words event → IsOfHost event
of_host names words (happening.Open l) says = tt
of_host names words (happening.Send l bytes) says = tt
of_host names words (happening.Close l) says = tt
of_host names words (happening.Local command) says = tt
of_host names words (happening.ReaderTake l) says = absurd says
of_host names words (happening.ReaderPut l) says = absurd says
of_host names words happening.PendTake says = absurd says
of_host names words happening.PendPut says = absurd says
of_host names words happening.SlotTake says = absurd says
of_host names words happening.SlotPut says = absurd says
of_host names words happening.ApplyTake says = absurd says
of_host names words (happening.Drain l) says = absurd says

not_nothing : (event : Happening) (P : Type 0) → Event event ≡ Nothing → P
not_nothing event P e = absurd cc

says_by : (skips : Bool) (names : List (List ℕ)) (line : List ℕ) (event : Happening) → SaysBy skips names line (Event event) → IsOfHost event
says_by true names line event says = not_nothing event (IsOfHost event) says
says_by false names line event says = of_host names (parts_of line) event says

pub says_of_host : (names : List (List ℕ)) (line : List ℕ) (event : Happening) → Says names line (Event event) → IsOfHost event
says_of_host names line event says = says_by (is_skipped line) names line event says.1

-- an event that is turned away, and one that is played
pub turned : (event : Happening) (line : List ℕ) (v : LiveView) (before after' : BatchView) → is_turned_away event v.node ≡ true → TellsMore (λ told. told ≡ refused_line reply.JournalFull) before after' → Adds (IsTaken event line) v [] v before after'
turned event line v before after' away t = record {
  kept = [];
  told = t.told;
  is = subst (λ (b : Bool). IsTakenBy b event line v [] v [] t.told) (sym away) (still v, t.is);
  text = t.text;
  entries = t.entries ∙ sym (append-nil before.entries);
}

pub played_so : (event : Happening) (line : List ℕ) (u v : LiveView) (x : List Exchange) (before after' : BatchView) → is_turned_away event u.node ≡ false → Adds (IsPlayed event line) u x v before after' → Adds (IsTaken event line) u x v before after'
played_so event line u v x before after' stays a = record {
  kept = a.kept;
  told = a.told;
  is = subst (λ (b : Bool). IsTakenBy b event line u x v a.kept a.told) (sym stays) a.is;
  text = a.text;
  entries = a.entries;
}

pub replied : (asked : Asked) (line : List ℕ) (v : LiveView) (before after' : BatchView) → Asks asked → TellsMore (Replies asked v) before after' → Adds (IsDone asked line) v [] v before after'
replied (Event event) line v before after' asks t = absurd asks
replied (Again link) line v before after' asks t = record { kept = []; told = t.told; is = (still v, t.is); text = t.text; entries = t.entries ∙ sym (append-nil before.entries) }
replied State line v before after' asks t = record { kept = []; told = t.told; is = (still v, t.is); text = t.text; entries = t.entries ∙ sym (append-nil before.entries) }
replied Report line v before after' asks t = record { kept = []; told = t.told; is = (still v, t.is); text = t.text; entries = t.entries ∙ sym (append-nil before.entries) }
replied Stand line v before after' asks t = record { kept = []; told = t.told; is = (still v, t.is); text = t.text; entries = t.entries ∙ sym (append-nil before.entries) }
replied (Applied slot) line v before after' asks t = record { kept = []; told = t.told; is = (still v, t.is); text = t.text; entries = t.entries ∙ sym (append-nil before.entries) }
replied Nothing line v before after' asks t = record { kept = []; told = t.told; is = (still v, t.is); text = t.text; entries = t.entries ∙ sym (append-nil before.entries) }

pub served : (number : ℕ) (line : List ℕ) (asked : Asked) (old new : LiveView) (heard : List Exchange) (a b c : BatchView) → length line ≤ LINE_LIMIT → Says old.names line asked → Adds (IsDone asked line) old heard new a b → TellsMore (λ told. told ≡ ok_line number) b c → Adds (IsAnswered number line) old heard new a c
served number line asked old new heard a b c le says d t = record {
  kept = d.kept;
  told = d.told ++ t.told;
  is = inr (le, inl (record { asked = asked; says = says; told = d.told; done = d.is; is = ap (λ (u : List ℕ). d.told ++ u) t.is }));
  text = t.text ∙ ap (λ (u : List ℕ). u ++ t.told) d.text ∙ append_assoc a.text d.told t.told;
  entries = t.entries ∙ d.entries;
}

pub refused : (number : ℕ) (line : List ℕ) (refusal : BadWord) (v : LiveView) (a b : BatchView) → length line ≤ LINE_LIMIT → IsFirstBad v.names line refusal → ((asked : Asked) → ¬ (Says v.names line asked)) → TellsMore (λ told. told ≡ bad_line number refusal.word (words_of refusal.expected)) a b → Adds (IsAnswered number line) v [] v a b
refused number line refusal v a b le first nothing t = record {
  kept = [];
  told = t.told;
  is = inr (le, inr (record { refusal = refusal; first = first; nothing = nothing; quiet = still v; is = t.is }));
  text = t.text;
  entries = t.entries ∙ sym (append-nil a.entries);
}

pub too_long : (number : ℕ) (line : List ℕ) (v : LiveView) (a b : BatchView) → LINE_LIMIT < length line → TellsMore (λ told. told ≡ long_line number) a b → Adds (IsAnswered number line) v [] v a b
too_long number line v a b lt t = record {
  kept = [];
  told = t.told;
  is = inl (record { long = lt; quiet = still v; is = t.is });
  text = t.text;
  entries = t.entries ∙ sym (append-nil a.entries);
}

-- ---- one line more

pub none_added : (number : ℕ) (v : LiveView) (b : BatchView) → Adds (AreAnswered number []) v [] v b b
none_added number v b = record { kept = []; told = []; is = (still v, refl); text = sym (append-nil b.text); entries = sym (append-nil b.entries) }

pub one_added : (number : ℕ) (lines : List (List ℕ)) (line : List ℕ) (u v w : LiveView) (x y : List Exchange) (a b c : BatchView) → Adds (AreAnswered number lines) u x v a b → Adds (IsAnswered (number_behind number lines) line) v y w b c → Adds (AreAnswered number (lines ++ line ∷ [])) u (x ++ y) w a c
one_added number lines line u v w x y a b c p q = record {
  kept = p.kept ++ q.kept;
  told = p.told ++ q.told;
  is = answered_on lines (line ∷ []) number u v w x y p.kept q.kept p.told q.told p.is (answered_one (number_behind number lines) line v w y q.kept q.told q.is);
  text = q.text ∙ ap (λ (l : List ℕ). l ++ q.told) p.text ∙ append_assoc a.text p.told q.told;
  entries = q.entries ∙ ap (λ (l : List EntryView). l ++ q.kept) p.entries ∙ append_assoc a.entries p.kept q.kept;
}

-- ---- whether a line is too long

pub not_long : (b : Bool) (n : ℕ) → b ≡ false → (IsTrue b ↔ LINE_LIMIT < n) → n ≤ LINE_LIMIT
not_long true n e same = absurd cc
not_long false n e same = let short : ¬ (LINE_LIMIT < n) = λ lt. let e : false ≡ true = same.1 lt in absurd cc in omega (arith, short)

pub long : (b : Bool) (n : ℕ) → b ≡ true → (IsTrue b ↔ LINE_LIMIT < n) → LINE_LIMIT < n
long true n e same = same.0 refl
long false n e same = absurd cc

-- the same of what was read of a line, and of what was made of it
pub served_as : (number : ℕ) (line : List ℕ) (asked : Asked) (old new : LiveView) (heard : List Exchange) (a b c : BatchView) (names : List (List ℕ)) (bytes items : List ℕ) → names ≡ old.names → bytes ≡ line → items ≡ line → length line ≤ LINE_LIMIT → Says names bytes asked → Adds (IsDone asked items) old heard new a b → TellsMore (λ told. told ≡ ok_line number) b c → Adds (IsAnswered number line) old heard new a c
served_as number line asked old new heard a b c names bytes items ns bs is le says d t =
    served number line asked old new heard a b c le (subst (λ (n : List (List ℕ)). Says n line asked) ns (subst (λ (l : List ℕ). Says names l asked) bs says))
    (subst (λ (l : List ℕ). Adds (IsDone asked l) old heard new a b) is d) t

pub refused_as : (number : ℕ) (line : List ℕ) (refusal : BadWord) (v : LiveView) (a b : BatchView) (names : List (List ℕ)) (bytes words : List ℕ) → names ≡ v.names → bytes ≡ line → words ≡ words_of refusal.expected → length line ≤ LINE_LIMIT → IsFirstBad names bytes refusal → ((asked : Asked) → ¬ (Says names bytes asked)) → TellsMore (λ told. told ≡ bad_line number refusal.word words) a b → Adds (IsAnswered number line) v [] v a b
refused_as number line refusal v a b names bytes words ns bs ws le first nothing t =
    refused number line refusal v a b le
    (subst (λ (n : List (List ℕ)). IsFirstBad n line refusal) ns (subst (λ (l : List ℕ). IsFirstBad names l refusal) bs first))
    (subst (λ (n : List (List ℕ)). (asked : Asked) → ¬ (Says n line asked)) ns (subst (λ (l : List ℕ). (asked : Asked) → ¬ (Says names l asked)) bs nothing))
    (subst (λ (w : List ℕ). TellsMore (λ told. told ≡ bad_line number refusal.word w) a b) ws t)
