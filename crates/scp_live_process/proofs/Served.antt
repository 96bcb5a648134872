-- What was served of an input, batch by batch.
use Rattle.std.proofs.Common.{◌≡◌, ℕ, List, [], ◌∷◌, ◌++◌, Option, None, Some, refl, sym, ◌∙◌, ap, subst, append_assoc, append-nil, arith, inl, inr}
use Rattle.std.specs.Prelude.{◌≤◌, ◌<◌, ◌≢◌, ◌⊎◌, length, Result, Err, IsErrOf}
use Rattle.std.proofs.lemmas.Grind.{flat_map-append}
use Rattle.scp_stand_node.specs.scp_types.specs.declared.fault.Fault.{Fault}
use Rattle.scp_stand_node.specs.scp_types.specs.declared.fault.Fault.TheVariants.{NoMemory, TooLong, Device}
use Rattle.scp_stand_node.specs.scp_device.specs.Device.{Loses, HasEnded, Gains, GainsPart}
use Rattle.scp_stand_node.specs.scp_core.specs.History.{Exchange}
use Rattle.scp_batches.specs.scp_live_log.specs.declared.kept.Kept.{Kept}
use Rattle.scp_batches.specs.scp_live_log.specs.Disk.{StartsWith, LeavesOnly}
use Rattle.scp_batches.specs.scp_live_log.specs.Kept.{IsSettled}
use Rattle.scp_batches.specs.scp_live_log.specs.Log.{EntryView, Marked, batch_of, log_of}
use Rattle.scp_batches.specs.Lines.{Gives, IsRead}
use Rattle.scp_live.specs.Live.{LiveView}
use Rattle.scp_live_process.specs.Answers.{AreAnswered}
use Rattle.scp_live_process.specs.Serving.{entries_in, marked_in, IsAnswer, HasServed, HasServedPart}
use Rattle.scp_live_process.specs.Adding.{BatchView, Adds}
use Rattle.scp_live_process.specs.inside.Batches.{number_behind, IsBatch, StaysDurable}
use Rattle.scp_live_process.proofs.Answering.{still, answered_on, number_on}

-- ---- readers, writers and logs

loses_none : (left : Option (List ℕ)) → Loses left [] left
loses_none None = tt
loses_none (Some all) = (all, refl, refl)

loses_rest : (x y r : List ℕ) (all : List ℕ) (rest : Option (List ℕ)) → all ≡ x ++ r → (s : List ℕ) × (r ≡ y ++ s) × (rest ≡ Some s) → Loses (Some all) (x ++ y) rest
loses_rest x y r all rest is q = (q.0, is ∙ ap (λ (l : List ℕ). x ++ l) q.1 ∙ sym (append_assoc x y q.0), q.2)

loses_on : (left mid rest : Option (List ℕ)) (x y : List ℕ) → Loses left x mid → Loses mid y rest → Loses left (x ++ y) rest
loses_on None mid rest x y p q = tt
loses_on (Some all) mid rest x y p q =
    let r : Loses (Some p.0) y rest = subst (λ (m : Option (List ℕ)). Loses m y rest) p.2 q in
    loses_rest x y p.0 all rest p.1 r

gains_none : (w : Option (List ℕ)) → Gains w [] w
gains_none None = tt
gains_none (Some w) = ap (λ (l : List ℕ). Some l) (sym (append-nil w))

gains_on : (a b c : Option (List ℕ)) (s t : List ℕ) → Gains a s b → Gains b t c → Gains a (s ++ t) c
gains_on None b c s t p q = tt
gains_on (Some w) b c s t p q =
    let r : Gains (Some (w ++ s)) t c = subst (λ (m : Option (List ℕ)). Gains m t c) p q in
    r ∙ ap (λ (l : List ℕ). Some l) (append_assoc w s t)

part_on : (a b c : Option (List ℕ)) (s t : List ℕ) → Gains a s b → GainsPart b t c → GainsPart a (s ++ t) c
part_on a b c s t p q = record {
  part = s ++ q.part;
  rest = q.rest;
  splits = ap (λ (l : List ℕ). s ++ l) q.splits ∙ sym (append_assoc s q.part q.rest);
  gained = gains_on a b c s q.part p q.gained;
}

all_part : (a b : Option (List ℕ)) (s : List ℕ) → Gains a s b → GainsPart a s b
all_part a b s p = record { part = s; rest = []; splits = sym (append-nil s); gained = p }

-- what settled logs keep
pub settled_stays : {L : Type 0} (holds may_leave : L → List ℕ → Type 0) (header : List ℕ) (ms : List Marked) (log : Kept L) → IsSettled holds may_leave header ms log → (c : List ℕ) → may_leave log.log c → StartsWith (log_of header ms) c
settled_stays holds may_leave header ms log s c may = ([], s.durable c may ∙ sym (append-nil (log_of header ms)))

pub stays : {L : Type 0} (holds may_leave : L → List ℕ → Type 0) (log : Kept L) → StaysDurable holds may_leave log log
stays holds may_leave log header ms s = settled_stays holds may_leave header ms log s

-- a crash after a call is one at some moment since it began
pub stays_by : {L : Type 0} (holds may_leave : L → List ℕ → Type 0) (moment : L → ℕ) (left_since : L → ℕ → List ℕ → Type 0) (log log' : Kept L)
    → ((file : L) (t : ℕ) (c : List ℕ) → t ≤ moment file → may_leave file c → left_since file t c)
    → ((header : List ℕ) (ms : List Marked) → IsSettled holds may_leave header ms log → LeavesOnly moment left_since log.log log'.log (StartsWith (log_of header ms)))
    → StaysDurable holds may_leave log log'
stays_by holds may_leave moment left_since log log' counts each header ms s c may =
    let leaves = each header ms s in
    leaves.each c (counts log'.log (moment log.log) c leaves.later may)

-- ---- batches, one behind the other

entries_more : (batches : List (List EntryView)) (entries : List EntryView) → entries_in (batches ++ entries ∷ []) ≡ entries_in batches ++ entries
entries_more batches entries = flat_map-append (λ (batch : List EntryView). batch) batches (entries ∷ []) ∙ ap (λ (l : List EntryView). entries_in batches ++ l) (append-nil entries)

marked_more : (ms : List Marked) (batches : List (List EntryView)) (entries : List EntryView) → (ms ++ marked_in batches) ++ batch_of entries ≡ ms ++ marked_in (batches ++ entries ∷ [])
marked_more ms batches entries =
    append_assoc ms (marked_in batches) (batch_of entries)
    ∙ ap (λ (l : List Marked). ms ++ l) (ap (λ (l : List Marked). marked_in batches ++ l) (sym (append-nil (batch_of entries))) ∙ sym (flat_map-append batch_of batches (entries ∷ [])))

-- what was served so far: each batch that was read is answered, kept and written
pub record Serving {L : Type 0} (holds may_leave : L → List ℕ → Type 0) (left now written longer : Option (List ℕ)) (log log' : Kept L) (held : List ℕ) (number : ℕ) (old : LiveView) (heard : List Exchange) (new : LiveView) : Type 0 where
  pub batches : List (List EntryView)
  pub text : List ℕ
  pub bytes : List ℕ
  pub lines : List (List ℕ)
  pub read : Loses left bytes now
  pub gives : Gives bytes lines held
  pub answered : AreAnswered 1 lines old heard new (entries_in batches) text
  pub wrote : Gains written text longer
  pub settled : (header : List ℕ) (ms : List Marked) → IsSettled holds may_leave header ms log → IsSettled holds may_leave header (ms ++ marked_in batches) log'
  pub next : number ≡ number_behind 1 lines

pub nothing_served : {L : Type 0} (holds may_leave : L → List ℕ → Type 0) (left written : Option (List ℕ)) (log : Kept L) (held : List ℕ) (v : LiveView) → Gives [] [] held → Serving holds may_leave left left written written log log held 1 v [] v
nothing_served holds may_leave left written log held v gives = record {
  batches = [];
  text = [];
  bytes = [];
  lines = [];
  read = loses_none left;
  gives = gives;
  answered = (still v, refl);
  wrote = gains_none written;
  settled = λ header ms s. subst (λ (l : List Marked). IsSettled holds may_leave header l log) (sym (append-nil ms)) s;
  next = refl;
}

-- the lines of one read more, what they were answered, and what is kept of them
more_answered : {L : Type 0} (holds may_leave : L → List ℕ → Type 0) (left now rest written longer : Option (List ℕ)) (log log' log2 : Kept L) (W : List ℕ → Type 0) (held held' : List ℕ) (number : ℕ) (more : List (List ℕ)) (u v w : LiveView) (x y : List Exchange) (s : Serving holds may_leave left now written longer log log' held number u x v) → IsRead now held more held' rest → (b : IsBatch holds may_leave W number more log' log2 v y w) → IsAnswer left rest u (x ++ y) w (s.batches ++ b.entries ∷ []) (s.text ++ b.text)
more_answered holds may_leave left now rest written longer log log' log2 W held held' number more u v w x y s r b = record {
  bytes = s.bytes ++ r.bytes;
  lines = s.lines ++ more;
  held = held';
  read = loses_on left now rest s.bytes r.bytes s.read r.read;
  gives = r.gives s.bytes s.lines s.gives;
  answered = subst (λ (l : List EntryView). AreAnswered 1 (s.lines ++ more) u (x ++ y) w l (s.text ++ b.text)) (sym (entries_more s.batches b.entries))
      (answered_on s.lines more 1 u v w x y (entries_in s.batches) b.entries s.text b.text s.answered (subst (λ (n : ℕ). AreAnswered n more v y w b.entries b.text) s.next b.answered));
}

more_settled : {L : Type 0} (holds may_leave : L → List ℕ → Type 0) (log log' log2 : Kept L) (batches : List (List EntryView)) (entries : List EntryView) → ((header : List ℕ) (ms : List Marked) → IsSettled holds may_leave header ms log → IsSettled holds may_leave header (ms ++ marked_in batches) log') → ((header : List ℕ) (ms : List Marked) → IsSettled holds may_leave header ms log' → IsSettled holds may_leave header (ms ++ batch_of entries) log2) → (header : List ℕ) (ms : List Marked) → IsSettled holds may_leave header ms log → IsSettled holds may_leave header (ms ++ marked_in (batches ++ entries ∷ [])) log2
more_settled holds may_leave log log' log2 batches entries p q header ms s =
    subst (λ (l : List Marked). IsSettled holds may_leave header l log2) (marked_more ms batches entries) (q header (ms ++ marked_in batches) (p header ms s))

pub served_more : {L : Type 0} (holds may_leave : L → List ℕ → Type 0) (left now rest written longer longest : Option (List ℕ)) (log log' log2 : Kept L) (held held' : List ℕ) (number next : ℕ) (more : List (List ℕ)) (u v w : LiveView) (x y : List Exchange) → Serving holds may_leave left now written longer log log' held number u x v → IsRead now held more held' rest → IsBatch holds may_leave (λ text. Gains longer text longest) number more log' log2 v y w → next ≡ number_behind number more → Serving holds may_leave left rest written longest log log2 held' next u (x ++ y) w
unfolding more_answered
served_more holds may_leave left now rest written longer longest log log' log2 held held' number next more u v w x y s r b is =
    let a = more_answered holds may_leave left now rest written longer log log' log2 (λ text. Gains longer text longest) held held' number more u v w x y s r b in
    record {
      batches = s.batches ++ b.entries ∷ [];
      text = s.text ++ b.text;
      bytes = a.bytes;
      lines = s.lines ++ more;
      read = a.read;
      gives = r.gives s.bytes s.lines s.gives;
      answered = a.answered;
      wrote = gains_on written longer longest s.text b.text s.wrote b.wrote;
      settled = more_settled holds may_leave log log' log2 s.batches b.entries s.settled b.settled;
      next = is ∙ ap (λ (n : ℕ). number_behind n more) s.next ∙ sym (number_on s.lines more 1);
    }

answer_of : {L : Type 0} (holds may_leave : L → List ℕ → Type 0) (left now written longer : Option (List ℕ)) (log log' : Kept L) (held : List ℕ) (number : ℕ) (u v : LiveView) (x : List Exchange) (s : Serving holds may_leave left now written longer log log' held number u x v) → IsAnswer left now u x v s.batches s.text
answer_of holds may_leave left now written longer log log' held number u v x s = record { bytes = s.bytes; lines = s.lines; held = held; read = s.read; gives = s.gives; answered = s.answered }

pub served_all : {L : Type 0} (holds may_leave : L → List ℕ → Type 0) (left now written longer : Option (List ℕ)) (log log' : Kept L) (held : List ℕ) (number : ℕ) (u v : LiveView) (x : List Exchange) → Serving holds may_leave left now written longer log log' held number u x v → HasEnded now → HasServed holds may_leave left written longer log log' u x v
served_all holds may_leave left now written longer log log' held number u v x s ended = record {
  batches = s.batches;
  text = s.text;
  rest = now;
  answer = answer_of holds may_leave left now written longer log log' held number u v x s;
  ended = ended;
  wrote = s.wrote;
  settled = s.settled;
}

-- ---- what wasn't served to its end

-- where something was read, something was left
was_left : (left rest : Option (List ℕ)) (bytes : List ℕ) → 0 < length bytes → Loses left bytes rest → left ≡ Some [] → ⊥
was_left None rest bytes some read is = absurd (let e : None ≡ Some [] = is in cc)
was_left (Some all) rest [] some read is = absurd (let h : 0 < 0 = some in omega arith)
was_left (Some all) rest (byte ∷ bytes) some read is =
    let same : all ≡ [] = cc in
    let none : byte ∷ (bytes ++ read.0) ≡ [] = sym read.1 ∙ same in
    cc

more_left : (now rest : Option (List ℕ)) (held held' : List ℕ) (more : List (List ℕ)) → IsRead now held more held' rest → now ≢ Some []
more_left now rest held held' more r = was_left now rest r.bytes r.some r.read

-- too many reads aren't reported as out of memory
pub too_many : (left : Option (List ℕ)) → IsErrOf {T = Unit {0}} (Err TooLong) NoMemory → left ≢ Some []
too_many left e = absurd cc

-- nothing more was kept or written
pub part_before : {L : Type 0} (holds may_leave : L → List ℕ → Type 0) (result : Result (Unit {0}) Fault) (left now written longer : Option (List ℕ)) (log log' log2 : Kept L) (held : List ℕ) (number : ℕ) (u v : LiveView) (x y : List Exchange) → Serving holds may_leave left now written longer log log' held number u x v → StaysDurable holds may_leave log' log2 → (IsErrOf result NoMemory → now ≢ Some []) → HasServedPart may_leave holds result left written longer log log2 u (x ++ y)
part_before holds may_leave result left now written longer log log' log2 held number u v x y s still more = record {
  batches = s.batches;
  text = s.text;
  rest = now;
  mid = v;
  so_far = x;
  later = y;
  heard_is = refl;
  answer = answer_of holds may_leave left now written longer log log' held number u v x s;
  wrote = all_part written longer s.text s.wrote;
  whole = λ other. s.wrote;
  more = more;
  durable = λ header ms is. still header (ms ++ marked_in s.batches) (s.settled header ms is);
}

-- no batch more was read
pub part_here : {L : Type 0} (holds may_leave : L → List ℕ → Type 0) (result : Result (Unit {0}) Fault) (left now written longer : Option (List ℕ)) (log log' : Kept L) (held : List ℕ) (number : ℕ) (u v : LiveView) (x : List Exchange) → Serving holds may_leave left now written longer log log' held number u x v → (IsErrOf result NoMemory → now ≢ Some []) → HasServedPart may_leave holds result left written longer log log' u x
part_here holds may_leave result left now written longer log log' held number u v x s more =
    subst (λ (h : List Exchange). HasServedPart may_leave holds result left written longer log log' u h) (append-nil x)
    (part_before holds may_leave result left now written longer log log' log' held number u v x [] s (stays holds may_leave log') more)

device_not_memory : (result : Result (Unit {0}) Fault) → IsErrOf result Device → IsErrOf result NoMemory → ⊥
device_not_memory result device memory = cc

-- a batch more was kept, and a part of what it was answered is written
pub part_behind : {L : Type 0} (holds may_leave : L → List ℕ → Type 0) (result : Result (Unit {0}) Fault) (left now rest written longer longest : Option (List ℕ)) (log log' log2 : Kept L) (held held' : List ℕ) (number : ℕ) (more : List (List ℕ)) (u v w : LiveView) (x y : List Exchange) → Serving holds may_leave left now written longer log log' held number u x v → IsRead now held more held' rest → IsErrOf result Device → IsBatch holds may_leave (λ text. GainsPart longer text longest) number more log' log2 v y w → HasServedPart may_leave holds result left written longest log log2 u (x ++ y)
part_behind holds may_leave result left now rest written longer longest log log' log2 held held' number more u v w x y s r is b = record {
  batches = s.batches ++ b.entries ∷ [];
  text = s.text ++ b.text;
  rest = rest;
  mid = w;
  so_far = x ++ y;
  later = [];
  heard_is = sym (append-nil (x ++ y));
  answer = more_answered holds may_leave left now rest written longer log log' log2 (λ text. GainsPart longer text longest) held held' number more u v w x y s r b;
  wrote = part_on written longer longest s.text b.text s.wrote b.wrote;
  whole = λ other. absurd (other is);
  more = λ memory. absurd (device_not_memory result is memory);
  durable = λ header ms q. settled_stays holds may_leave header (ms ++ marked_in (s.batches ++ b.entries ∷ [])) log2 (more_settled holds may_leave log log' log2 s.batches b.entries s.settled b.settled header ms q);
}

pub part_of : {L : Type 0} (holds may_leave : L → List ℕ → Type 0) (result : Result (Unit {0}) Fault) (left now rest written longer longest : Option (List ℕ)) (log log' log2 : Kept L) (held held' : List ℕ) (number : ℕ) (more : List (List ℕ)) (u v w : LiveView) (x y : List Exchange) → Serving holds may_leave left now written longer log log' held number u x v → IsRead now held more held' rest
    → ((longest ≡ longer) × StaysDurable holds may_leave log' log2) ⊎ (IsErrOf result Device × IsBatch holds may_leave (λ text. GainsPart longer text longest) number more log' log2 v y w)
    → HasServedPart may_leave holds result left written longest log log2 u (x ++ y)
part_of holds may_leave result left now rest written longer longest log log' log2 held held' number more u v w x y s r (inl same) =
    subst (λ (l : Option (List ℕ)). HasServedPart may_leave holds result left written l log log2 u (x ++ y)) (sym same.0)
    (part_before holds may_leave result left now written longer log log' log2 held number u v x y s same.1 (λ memory. more_left now rest held held' more r))
part_of holds may_leave result left now rest written longer longest log log' log2 held held' number more u v w x y s r (inr part) =
    part_behind holds may_leave result left now rest written longer longest log log' log2 held held' number more u v w x y s r part.0 part.1

-- ---- one batch

pub batch_is : {L : Type 0} (holds may_leave : L → List ℕ → Type 0) (W : List ℕ → Type 0) (number : ℕ) (lines : List (List ℕ)) (log log' : Kept L) (u v : LiveView) (x : List Exchange) (empty after' : BatchView) (entries : List EntryView) (text : List ℕ) → empty ≡ record { text = []; entries = [] } → Adds (AreAnswered number lines) u x v empty after' → entries ≡ after'.entries → text ≡ after'.text → W text → ((header : List ℕ) (ms : List Marked) → IsSettled holds may_leave header ms log → IsSettled holds may_leave header (ms ++ batch_of entries) log') → IsBatch holds may_leave W number lines log log' u x v
batch_is holds may_leave W number lines log log' u v x empty after' entries text none a es ts wrote settled =
    let kept : entries ≡ a.kept = es ∙ a.entries ∙ ap (λ (b : BatchView). b.entries ++ a.kept) none in
    let told : text ≡ a.told = ts ∙ a.text ∙ ap (λ (b : BatchView). b.text ++ a.told) none in
    record {
      entries = a.kept;
      text = a.told;
      answered = a.is;
      wrote = subst W told wrote;
      settled = λ header ms s. subst (λ (l : List EntryView). IsSettled holds may_leave header (ms ++ batch_of l) log') kept (settled header ms s);
    }
