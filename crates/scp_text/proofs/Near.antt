-- A message is refused at one of its first words.
use Rattle.std.proofs.Common.{◌≡◌, ℕ, zero, suc, ◌+◌, ◌≤◌, Bool, true, false, List, [], ◌∷◌, Option, Some, None, Result, Ok, Err, refl, sym, subst, arith}
use Rattle.std.specs.Prelude.{if◌then◌else◌, slice_get, codes}
use Rattle.std.specs.Option.{unwrap_or}
use Rattle.scp_wire.specs.scp_envelope.specs.declared.statement.Pledges.{Pledges}
use Rattle.scp_wire.specs.declared.message.Message.{Message}
use Rattle.scp_device.specs.declared.bad.BadWord.{BadWord}
use Rattle.scp_device.specs.declared.bad.Expected.{Expected}
use Rattle.scp_text.specs.Pieces.{same}
use Rattle.scp_text.specs.Messages.{◌>>=◌, or_refused, said_by, at, no_word, ended, signature_in, signature_by, signature_at, nominate_in, prepare_in, confirm_in, externalize_in, envelope_in, get_set_in, the_set_in, no_set_in, get_record_in, record_in, records_in, envelope_by, message_by, message_in}

abbrev pub IsSmall : {A : Type 0} → Result A BadWord → Type 0
IsSmall (Ok x) = Unit {0}
IsSmall (Err e) = e.word ≤ 16

bind_small : {A B : Type 0} (r : Result A BadWord) (f : A → Result B BadWord) → IsSmall r → ((x : A) → IsSmall (f x)) → IsSmall (r >>= f)
bind_small (Ok x) f h g = g x
bind_small (Err e) f h g = h

if_small : {A : Type 0} (b : Bool) (x y : Result A BadWord) → IsSmall x → IsSmall y → IsSmall (if b then x else y)
if_small true x y h g = h
if_small false x y h g = g

refused_small : {A : Type 0} (o : Option A) (place : ℕ) (expected : Expected) → place ≤ 16 → IsSmall (or_refused o place expected)
refused_small (Some x) place expected h = tt
refused_small None place expected h = h

at_small : {A : Type 0} (says : List ℕ → Option A) (expected : Expected) (words : List (List ℕ)) (place : ℕ) → place + 1 ≤ 16 → IsSmall (at says expected words place)
unfolding at
at_small says expected words place h = refused_small (said_by says (slice_get words place)) (place + 1) expected h

no_word_small : (o : Option (List ℕ)) (place : ℕ) → place ≤ 16 → IsSmall (no_word o place)
no_word_small None place h = tt
no_word_small (Some w) place h = h

ended_small : (words : List (List ℕ)) (place : ℕ) → place + 1 ≤ 16 → IsSmall (ended words place)
unfolding ended
ended_small words place h = no_word_small (slice_get words place) (place + 1) h

signature_small : (words : List (List ℕ)) (place : ℕ) → place + 2 ≤ 16 → IsSmall (signature_at words place)
unfolding signature_at
signature_small words place h = by (slice_get words place)
  where
    by : (o : Option (List ℕ)) → IsSmall (signature_by o words place)
    by None = tt
    by (Some w) = bind_small _ _ (refused_small (signature_in w) (place + 1) _ (omega (arith, h))) (λ s. bind_small _ _ (ended_small words (place + 1) (omega (arith, h))) (λ d. tt))

nominate_small : (words : List (List ℕ)) → IsSmall (nominate_in words)
unfolding nominate_in
nominate_small words = bind_small _ _ (at_small _ _ words 3 (omega arith)) (λ a. bind_small _ _ (at_small _ _ words 4 (omega arith)) (λ b. bind_small _ _ (at_small _ _ words 5 (omega arith)) (λ c. tt)))

prepare_small : (words : List (List ℕ)) → IsSmall (prepare_in words)
unfolding prepare_in
prepare_small words =
    bind_small _ _ (at_small _ _ words 3 (omega arith)) (λ a. bind_small _ _ (at_small _ _ words 4 (omega arith)) (λ b. bind_small _ _ (at_small _ _ words 5 (omega arith)) (λ c.
    bind_small _ _ (at_small _ _ words 6 (omega arith)) (λ d. bind_small _ _ (at_small _ _ words 7 (omega arith)) (λ e. bind_small _ _ (at_small _ _ words 8 (omega arith)) (λ f. tt))))))

confirm_small : (words : List (List ℕ)) → IsSmall (confirm_in words)
unfolding confirm_in
confirm_small words =
    bind_small _ _ (at_small _ _ words 3 (omega arith)) (λ a. bind_small _ _ (at_small _ _ words 4 (omega arith)) (λ b. bind_small _ _ (at_small _ _ words 5 (omega arith)) (λ c.
    bind_small _ _ (at_small _ _ words 6 (omega arith)) (λ d. bind_small _ _ (at_small _ _ words 7 (omega arith)) (λ e. tt)))))

externalize_small : (words : List (List ℕ)) → IsSmall (externalize_in words)
unfolding externalize_in
externalize_small words = bind_small _ _ (at_small _ _ words 3 (omega arith)) (λ a. bind_small _ _ (at_small _ _ words 4 (omega arith)) (λ b. bind_small _ _ (at_small _ _ words 5 (omega arith)) (λ c. tt)))

envelope_small : (pledges_in : List (List ℕ) → Result Pledges BadWord) (place : ℕ) (words : List (List ℕ)) → IsSmall (pledges_in words) → place + 2 ≤ 16 → IsSmall (envelope_in pledges_in place words)
unfolding envelope_in
envelope_small pledges_in place words h few =
    bind_small _ _ (at_small _ _ words 1 (omega arith)) (λ a. bind_small _ _ (at_small _ _ words 2 (omega arith)) (λ b. bind_small _ _ h (λ c. bind_small _ _ (signature_small words place few) (λ d. tt))))

get_set_small : (words : List (List ℕ)) → IsSmall (get_set_in words)
unfolding get_set_in
get_set_small words = bind_small _ _ (at_small _ _ words 1 (omega arith)) (λ a. bind_small _ _ (ended_small words 2 (omega arith)) (λ b. tt))

the_set_small : (words : List (List ℕ)) → IsSmall (the_set_in words)
unfolding the_set_in
the_set_small words = bind_small _ _ (at_small _ _ words 1 (omega arith)) (λ a. bind_small _ _ (ended_small words 2 (omega arith)) (λ b. tt))

no_set_small : (words : List (List ℕ)) → IsSmall (no_set_in words)
unfolding no_set_in
no_set_small words = bind_small _ _ (at_small _ _ words 1 (omega arith)) (λ a. bind_small _ _ (ended_small words 2 (omega arith)) (λ b. tt))

get_record_small : (words : List (List ℕ)) → IsSmall (get_record_in words)
unfolding get_record_in
get_record_small words = bind_small _ _ (at_small _ _ words 1 (omega arith)) (λ a. bind_small _ _ (ended_small words 2 (omega arith)) (λ b. tt))

record_small : (words : List (List ℕ)) → IsSmall (record_in words)
unfolding record_in
record_small words = bind_small _ _ (at_small _ _ words 1 (omega arith)) (λ a. bind_small _ _ (at_small _ _ words 2 (omega arith)) (λ b. bind_small _ _ (ended_small words 3 (omega arith)) (λ c. tt)))

records_small : (words : List (List ℕ)) → IsSmall (records_in words)
unfolding records_in
records_small words = bind_small _ _ (at_small _ _ words 1 (omega arith)) (λ a. bind_small _ _ (at_small _ _ words 2 (omega arith)) (λ b. bind_small _ _ (ended_small words 3 (omega arith)) (λ c. tt)))

envelope_by_small : (verb : List ℕ) (words : List (List ℕ)) → IsSmall (envelope_by verb words)
envelope_by_small verb words =
    if_small (same verb (codes "nominate")) _ _ (envelope_small nominate_in 6 words (nominate_small words) (omega arith))
    (if_small (same verb (codes "prepare")) _ _ (envelope_small prepare_in 9 words (prepare_small words) (omega arith))
    (if_small (same verb (codes "confirm")) _ _ (envelope_small confirm_in 8 words (confirm_small words) (omega arith))
    (if_small (same verb (codes "externalize")) _ _ (envelope_small externalize_in 6 words (externalize_small words) (omega arith)) (omega arith))))

message_small : (words : List (List ℕ)) → IsSmall (message_in words)
unfolding message_in
message_small words =
    let verb = unwrap_or (slice_get words 0) [] in
    if_small (same verb (codes "record")) _ _ (record_small words)
    (if_small (same verb (codes "records")) _ _ (records_small words)
    (if_small (same verb (codes "getrecord")) _ _ (get_record_small words)
    (if_small (same verb (codes "getset")) _ _ (get_set_small words)
    (if_small (same verb (codes "set")) _ _ (the_set_small words)
    (if_small (same verb (codes "noset")) _ _ (no_set_small words) (envelope_by_small verb words))))))

pub near_refusal : (words : List (List ℕ)) (refusal : BadWord) → message_in words ≡ Err refusal → refusal.word ≤ 16
near_refusal words refusal h = subst IsSmall h (message_small words)
