-- What was told at each node, and how much of it belongs to the lines so far.
use Rattle.std.proofs.Common.{◌≡◌, ◌≢◌, ◌<◌, ◌≤◌, ◌+◌, ◌-◌, ◌∙◌, ℕ, suc, true, false, Bool, List, [], ◌∷◌, ◌++◌, length, drop, take, refl, sym, ap, subst, arith, inl, inr, length-append, length-drop, drop-cons, add-one, append-nil, append_assoc, get_or}
use Rattle.std.specs.Prelude.{◌⊎◌, Option, Some, None, filter, nat_eq, slice_get, slice_set}
use Rattle.std.proofs.lemmas.List.Elements.{filter-append}
use Rattle.std.proofs.lemmas.Option.{slice_get-get_or, slice_get_past, slice_get_within, get_or_from_slice_get}
use Rattle.std.proofs.lemmas.List.{get_or-set_same, get_or-set_other, length-set, take_more}
use Rattle.std.proofs.lemmas.Bool.{eq-eqb}
use Rattle.std.proofs.lemmas.Bool.Decides.{eqb_tells}
use Rattle.std.proofs.lemmas.Grind.{common_steps}
use Rattle.scp_line.specs.scp_ledger.specs.declared.took.CommandFate.{CommandFate}
use Rattle.scp_line.specs.scp_script.specs.declared.command.Command.{Command}
use Rattle.scp_line.specs.scp_script.specs.Nodes.{NamesNodes, IsSmall}
use Rattle.scp_line.specs.scp_script.specs.declared.command.Command.TheVariants as script
use Rattle.scp_notices.specs.declared.commands.Told.{Told}
use Rattle.scp_notices.specs.declared.commands.Queue.{Queue}
use Rattle.scp_notices.specs.declared.notice.Notice.{Notice}
use Rattle.scp_notices.specs.Ignoring.{fates_at, teller, is_told_by, count_at, fate_by, fate_behind, ignored_by, ignored_behind}
use Rattle.scp_notices.specs.inside.Queues.{left_in, left_behind, TakesFrom, TakesAt, AreQueues}

-- ---- lists

head_same : {X : Type 0} (x y : X) (xs ys : List X) → x ∷ xs ≡ y ∷ ys → x ≡ y
head_same x y xs ys e = cc

tail_same : {X : Type 0} (x y : X) (xs ys : List X) → x ∷ xs ≡ y ∷ ys → xs ≡ ys
tail_same x y xs ys e = cc

some_same : {X : Type 0} (x y : X) → Some x ≡ Some y → x ≡ y
some_same x y e = cc

drop_past : {X : Type 0} (xs : List X) (k : ℕ) → length xs ≤ k → drop k xs ≡ []
drop_past xs k past = grind (arith, common_steps)

-- the first of what is left is at its place, and the others are left behind it
drop_some : {X : Type 0} (k : ℕ) (xs : List X) (x : X) (rest : List X) → drop k xs ≡ x ∷ rest → (slice_get xs k ≡ Some x) × (drop (k + 1) xs ≡ rest)
drop_some {X} k xs x rest e =
    let within : k < length xs = omega (arith, length-drop k xs, ap (λ (l : List X). length l) e) in
    let here : get_or xs k x ∷ drop (k + 1) xs ≡ x ∷ rest = ap (λ (n : ℕ). get_or xs k x ∷ drop n xs) (add-one k) ∙ sym (drop-cons xs k x within) ∙ e in
    (slice_get-get_or xs k x within ∙ ap (λ (y : X). Some y) (head_same _ _ _ _ here), tail_same _ _ _ _ here)

-- nothing is left
drop_none : {X : Type 0} (k : ℕ) (xs : List X) → drop k xs ≡ [] → (slice_get xs k ≡ None) × (drop (k + 1) xs ≡ [])
drop_none {X} k xs e =
    let past : length xs ≤ k = omega (arith, length-drop k xs, ap (λ (l : List X). length l) e) in
    (slice_get_past xs k past, drop_past xs (k + 1) (omega (arith, past)))

-- ---- counts

one_passes : {X : Type 0} (p : X → Bool) (x : X) → p x ≡ true → length (filter p (x ∷ [])) ≡ 1
one_passes p x e = rw e refl

none_passes : {X : Type 0} (p : X → Bool) (x : X) → p x ≡ false → length (filter p (x ∷ [])) ≡ 0
none_passes p x e = rw e refl

count_one : (n : ℕ) (before : List Command) (c : Command) → is_told_by n (teller c) ≡ true → count_at n (before ++ c ∷ []) ≡ count_at n before + 1
count_one n before c e =
    let p = λ (command : Command). is_told_by n (teller command) in
    omega (arith, ap (λ (l : List Command). length l) (filter-append p before (c ∷ [])), length-append (filter p before) (filter p (c ∷ [])), one_passes p c e)

count_same : (n : ℕ) (before : List Command) (c : Command) → is_told_by n (teller c) ≡ false → count_at n (before ++ c ∷ []) ≡ count_at n before
count_same n before c e =
    let p = λ (command : Command). is_told_by n (teller command) in
    omega (arith, ap (λ (l : List Command). length l) (filter-append p before (c ∷ [])), length-append (filter p before) (filter p (c ∷ [])), none_passes p c e)

-- ---- what is left

left_same : (told : List Told) (before : List Command) (c : Command) (n : ℕ) → is_told_by n (teller c) ≡ false → left_behind told (before ++ c ∷ []) n ≡ left_behind told before n
left_same told before c n e = ap (λ (k : ℕ). drop k (fates_at n told)) (count_same n before c e)

-- a command of no node's: nothing changes
pub none_taken : (queues : List Queue) (command : Command) (told : List Told) (before : List Command) → teller command ≡ None → AreQueues told before queues → (None ≡ fate_behind told before command) × AreQueues told (before ++ command ∷ []) queues
none_taken queues command told before e are = (
  ap (λ (t : Option ℕ). fate_by told before t) (sym e),
  record {
    count = are.count;
    each = λ place queue at. are.each place queue at ∙ sym (left_same told before command (place + 1) (ap (λ (t : Option ℕ). is_told_by (place + 1) t) e));
  },
)

-- what the node tells next
told_next : (told : List Told) (before : List Command) (c : Command) (n : ℕ) (queue next : Queue) (fate : Option CommandFate) → is_told_by n (teller c) ≡ true → left_in queue ≡ left_behind told before n → TakesFrom queue fate next → (fate ≡ slice_get (fates_at n told) (count_at n before)) × (left_in next ≡ left_behind told (before ++ c ∷ []) n)
told_next told before c n queue next None e left takes =
    let gone = drop_none (count_at n before) (fates_at n told) (sym left ∙ takes.0) in
    (sym gone.0, takes.1 ∙ sym gone.1 ∙ ap (λ (k : ℕ). drop k (fates_at n told)) (sym (count_one n before c e)))
told_next told before c n queue next (Some fate) e left takes =
    let there = drop_some (count_at n before) (fates_at n told) fate (left_in next) (sym left ∙ takes) in
    (sym there.0, sym there.1 ∙ ap (λ (k : ℕ). drop k (fates_at n told)) (sym (count_one n before c e)))

-- a queue behind a write at its own place
written_here : (queues : List Queue) (place : ℕ) (next found : Queue) → place < length queues → slice_get (slice_set queues place next) place ≡ Some found → found ≡ next
written_here queues place next found within at = sym (get_or_from_slice_get (slice_set queues place next) place found found at) ∙ get_or-set_same queues place next found within

-- and at another
written_there : (queues : List Queue) (place other : ℕ) (next found : Queue) → other ≢ place → slice_get (slice_set queues place next) other ≡ Some found → slice_get queues other ≡ Some found
written_there queues place other next found apart at =
    let within : other < length queues = omega (arith, slice_get_within (slice_set queues place next) other found at, length-set queues place next) in
    slice_get-get_or queues other found within ∙ ap (λ (q : Queue). Some q) (sym (get_or-set_other queues place other next found apart) ∙ get_or_from_slice_get (slice_set queues place next) other found found at)

not_same : (a b : ℕ) → ((nat_eq a b ≡ true) × (a ≡ b)) ⊎ ((nat_eq a b ≡ false) × (a ≢ b)) → a ≢ b → nat_eq a b ≡ false
not_same a b (inl h) apart = absurd (apart h.1)
not_same a b (inr h) apart = h.0

told_by_it : (command : Command) (number n : ℕ) → teller command ≡ Some number → number ≡ n → is_told_by n (teller command) ≡ true
told_by_it command number n e same = ap (λ (t : Option ℕ). is_told_by n t) e ∙ eq-eqb number n same

told_by_other : (command : Command) (number n : ℕ) → teller command ≡ Some number → number ≢ n → is_told_by n (teller command) ≡ false
told_by_other command number n e apart = ap (λ (t : Option ℕ). is_told_by n t) e ∙ not_same number n (eqb_tells number n) apart

-- one of the queues behind it
queue_behind : (queues : List Queue) (command : Command) (number place : ℕ) (queue next : Queue) (fate : Option CommandFate) (told : List Told) (before : List Command) → teller command ≡ Some number → number ≡ place + 1 → slice_get queues place ≡ Some queue → left_in next ≡ left_behind told (before ++ command ∷ []) number → AreQueues told before queues
    → (other : ℕ) (found : Queue) → ((nat_eq other place ≡ true) × (other ≡ place)) ⊎ ((nat_eq other place ≡ false) × (other ≢ place)) → slice_get (slice_set queues place next) other ≡ Some found → left_in found ≡ left_behind told (before ++ command ∷ []) (other + 1)
queue_behind queues command number place queue next fate told before e is at left are other found (inl h) got =
    let here : found ≡ next = written_here queues place next found (slice_get_within queues place queue at) (subst (λ (n : ℕ). slice_get (slice_set queues place next) n ≡ Some found) h.1 got) in
    ap (λ (q : Queue). left_in q) here ∙ left ∙ ap (λ (n : ℕ). left_behind told (before ++ command ∷ []) n) (omega (arith, is, h.1))
queue_behind queues command number place queue next fate told before e is at left are other found (inr h) got =
    are.each other found (written_there queues place other next found h.1 got)
    ∙ sym (left_same told before command (other + 1) (told_by_other command number (other + 1) e (λ same. h.1 (omega (arith, same, is)))))

-- the next of the node whose command it is
pub one_taken : (queues new : List Queue) (command : Command) (number : ℕ) (fate : Option CommandFate) (told : List Told) (before : List Command) → teller command ≡ Some number → 1 ≤ number → TakesAt queues (number - 1) fate new → AreQueues told before queues → (fate ≡ fate_behind told before command) × AreQueues told (before ++ command ∷ []) new
one_taken queues new command number fate told before e from takes are =
    let place = number - 1 in
    let is : number ≡ place + 1 = omega (arith, from) in
    let stood = are.each place takes.0 takes.2 ∙ ap (λ (n : ℕ). left_behind told before n) (sym is) in
    let on = told_next told before command number takes.0 takes.1 fate (told_by_it command number number e refl) stood takes.3 in (
      on.0 ∙ ap (λ (t : Option ℕ). fate_by told before t) (sym e),
      subst (λ (l : List Queue). AreQueues told (before ++ command ∷ []) l) (sym takes.4) (record {
        count = length-set queues place takes.1 ∙ are.count;
        each = λ other found got. queue_behind queues command number place takes.0 takes.1 fate told before e is takes.2 on.1 are other found (eqb_tells other place) got;
      }),
    )

-- ---- all lines

-- a line's notice, and then those of the lines behind it
pub ignored_more : (told : List Told) (lines : List ℕ) (commands : List Command) (i line : ℕ) (command : Command) → i < length commands → length lines ≡ length commands → command ≡ get_or commands i command → line ≡ get_or lines i line
    → ignored_behind told (take i commands) (drop i lines) (drop i commands) ≡ ignored_by line (fate_behind told (take i commands) command) ++ ignored_behind told (take i commands ++ command ∷ []) (drop (i + 1) lines) (drop (i + 1) commands)
ignored_more told lines commands i line command within count is at =
    let cs : drop i commands ≡ command ∷ drop (i + 1) commands = drop-cons commands i command within ∙ ap (λ (c : Command). c ∷ drop (suc i) commands) (sym is) ∙ ap (λ (n : ℕ). command ∷ drop n commands) (sym (add-one i)) in
    let ls : drop i lines ≡ line ∷ drop (i + 1) lines = drop-cons lines i line (omega (arith, within, count)) ∙ ap (λ (n : ℕ). n ∷ drop (suc i) lines) (sym at) ∙ ap (λ (n : ℕ). line ∷ drop n lines) (sym (add-one i)) in
    ap (λ (l : List ℕ). ignored_behind told (take i commands) l (drop i commands)) ls ∙ ap (λ (l : List Command). ignored_behind told (take i commands) (line ∷ drop (i + 1) lines) l) cs

pub next_taken : (commands : List Command) (i : ℕ) (command : Command) → i < length commands → command ≡ get_or commands i command → take i commands ++ command ∷ [] ≡ take (i + 1) commands
next_taken commands i command within is = sym (take_more commands i command within ∙ ap (λ (c : Command). take i commands ++ c ∷ []) (sym is))

none_left : (told : List Told) (before : List Command) (lines : List ℕ) → ignored_behind told before lines [] ≡ []
none_left told before [] = refl
none_left told before (line ∷ lines) = refl

-- behind the last line there is nothing
pub none_behind : (told : List Told) (before : List Command) (lines : List ℕ) (commands : List Command) (i : ℕ) → length commands ≤ i → ignored_behind told before (drop i lines) (drop i commands) ≡ []
none_behind told before lines commands i past = ap (λ (l : List Command). ignored_behind told before (drop i lines) l) (drop_past commands i past) ∙ none_left told before (drop i lines)

-- a line more was told
pub notices_more : (told : List Told) (lines : List ℕ) (commands : List Command) (i line : ℕ) (command : Command) (fate : Option CommandFate) (old new all : List Notice) → i < length commands → length lines ≡ length commands → command ≡ get_or commands i command → line ≡ get_or lines i line → fate ≡ fate_behind told (take i commands) command → new ≡ old ++ ignored_by line fate
    → old ++ ignored_behind told (take i commands) (drop i lines) (drop i commands) ≡ all → new ++ ignored_behind told (take (i + 1) commands) (drop (i + 1) lines) (drop (i + 1) commands) ≡ all
notices_more told lines commands i line command fate old new all within count is at same added so =
    let behind = λ (before : List Command). ignored_behind told before (drop (i + 1) lines) (drop (i + 1) commands) in
    ap (λ (l : List Notice). l ++ behind (take (i + 1) commands)) added
    ∙ append_assoc old (ignored_by line fate) (behind (take (i + 1) commands))
    ∙ ap (λ (f : Option CommandFate). old ++ (ignored_by line f ++ behind (take (i + 1) commands))) same
    ∙ ap (λ (l : List Command). old ++ (ignored_by line (fate_behind told (take i commands) command) ++ behind l)) (sym (next_taken commands i command within is))
    ∙ ap (λ (l : List Notice). old ++ l) (sym (ignored_more told lines commands i line command within count is at))
    ∙ so

-- all were told
pub notices_all : (told : List Told) (lines : List ℕ) (commands : List Command) (i : ℕ) (old all : List Notice) → length commands ≤ i → old ++ ignored_behind told (take i commands) (drop i lines) (drop i commands) ≡ all → old ≡ all
notices_all told lines commands i old all past so =
    sym (append-nil old) ∙ ap (λ (l : List Notice). old ++ l) (sym (none_behind told (take i commands) lines commands i past)) ∙ so

-- the node that tells of a command is one of eight
pub teller_small : (command : Command) (number : ℕ) → NamesNodes command → teller command ≡ Some number → IsSmall number
teller_small (script.Propose node slot value) number names e = subst (λ (n : ℕ). IsSmall n) (some_same _ _ e) names
teller_small (script.Round node slot) number names e = subst (λ (n : ℕ). IsSmall n) (some_same _ _ e) names
teller_small (script.Timer node slot) number names e = subst (λ (n : ℕ). IsSmall n) (some_same _ _ e) names
teller_small (script.Ask from to slot) number names e = subst (λ (n : ℕ). IsSmall n) (some_same _ _ e) names.0
teller_small command number names e = absurd cc
