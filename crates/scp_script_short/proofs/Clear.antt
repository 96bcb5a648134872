-- No line of an expanded script has a line feed.
use Rattle.std.proofs.Common.{◌≡◌, ℕ, zero, suc, ◌/◌, ◌%◌, ◌+◌, Bool, true, false, List, [], ◌∷◌, ◌++◌, map, filter, flat_map, Option, Some, None, Result, Ok, Err, refl, sym, ◌∙◌, ap, subst, arith}
use Rattle.std.specs.Prelude.{◌==◌, not, nat_eq, nat_lt, ◌&&◌, if◌then◌else◌, codes}
use Rattle.std.specs.Fmt.{decimal, digits, digits_onto, digit_glyph}
use Rattle.std.specs.List.{AllByRecursion}
use Rattle.std.proofs.lemmas.Bool.Decides.{nat_tests}
use Rattle.scp_script_text.specs.scp_types.specs.declared.limits.TheConstants.{WINDOW}
use Rattle.scp_script_text.specs.scp_types.specs.declared.names.Slot.{Slot}
use Rattle.scp_script_text.specs.scp_text.specs.Laws.{HasNo}
use Rattle.scp_script_text.specs.scp_text.specs.Messages.{words_of}
use Rattle.scp_script_text.specs.Scripts.{lines_of}
use Rattle.scp_script_text.proofs.Marks.{parts_joined, parts_clear}
use Rattle.scp_script_short.specs.declared.placed.PlacedLine.{PlacedLine}
use Rattle.scp_script_text.specs.scp_device.specs.declared.bad.BadWord.{BadWord}
use Rattle.scp_script_short.specs.declared.shorthand.Shorthand.{Shorthand}
use Rattle.scp_script_short.specs.declared.shorthand.Shorthand.TheVariants.{OpenAll, Rounds, CatchUp}
use Rattle.scp_script_short.specs.Reading.{shorthand_in}
use Rattle.scp_script_short.specs.Lines.{numbers, open_line, opens_of, round_line, round_of_each, ask_line, ask_lines, lines_of as shorthand_lines}
use Rattle.scp_script_short.specs.Scripts.{said_by, said, said_in, nodes_of, expansion, placed_at, placed_from, script_of, LinesStay}
use Rattle.scp_script_short.proofs.Some.{IsSome, some_placed}

abbrev Clear : List (List ℕ) → Type 0
Clear lines = AllByRecursion (HasNo 10) lines

-- ---- numbers

glyph_clear : (d : ℕ) → (digit_glyph false d == 10) ≡ false
glyph_clear d = by (nat_lt d 10)
  where
    by : (b : Bool) → ((if b then 48 + d else 87 + d) == 10) ≡ false
    by true = grind (arith, nat_tests)
    by false = grind (arith, nat_tests)

onto_clear : (k n : ℕ) (acc : List ℕ) → HasNo 10 acc → HasNo 10 (digits_onto k 10 false n acc)
onto_clear zero n acc h = h
onto_clear (suc k) n acc h =
    let next : HasNo 10 (digit_glyph false (n % 10) ∷ acc) = (glyph_clear (n % 10), h) in
    by (n / 10 == 0) next (onto_clear k (n / 10) (digit_glyph false (n % 10) ∷ acc) next)
  where
    by : (b : Bool) → HasNo 10 (digit_glyph false (n % 10) ∷ acc) → HasNo 10 (digits_onto k 10 false (n / 10) (digit_glyph false (n % 10) ∷ acc))
        → HasNo 10 (if b then digit_glyph false (n % 10) ∷ acc else digits_onto k 10 false (n / 10) (digit_glyph false (n % 10) ∷ acc))
    by true next more = next
    by false next more = more

number_clear : (n : ℕ) → HasNo 10 (decimal n)
unfolding digits
number_clear n = onto_clear 64 n [] tt

both_clear : (xs ys : List ℕ) → HasNo 10 xs → HasNo 10 ys → HasNo 10 (xs ++ ys)
both_clear [] ys p q = q
both_clear (x ∷ xs) ys p q = (p.0, both_clear xs ys p.1 q)

-- ---- the lines of a shorthand

-- a text, a number and a space behind it
front_clear : (text : List ℕ) (n : ℕ) → HasNo 10 text → HasNo 10 (text ++ decimal n ++ codes " ")
front_clear text n h = both_clear (text ++ decimal n) (codes " ") (both_clear text (decimal n) h (number_clear n)) (refl, tt)

open_text : HasNo 10 (codes "open ")
open_text = (refl, (refl, (refl, (refl, (refl, tt)))))

round_text : HasNo 10 (codes "round ")
round_text = (refl, (refl, (refl, (refl, (refl, (refl, tt))))))

ask_text : HasNo 10 (codes "ask ")
ask_text = (refl, (refl, (refl, (refl, tt))))

settle_text : HasNo 10 (codes "settle")
settle_text = (refl, (refl, (refl, (refl, (refl, (refl, tt))))))

open_clear : (node peer : ℕ) → HasNo 10 (open_line node peer)
open_clear node peer = both_clear (codes "open " ++ decimal node ++ codes " ") (decimal peer) (front_clear (codes "open ") node open_text) (number_clear peer)

round_clear : (node : ℕ) (slot : Slot) → HasNo 10 (round_line node slot)
round_clear node slot = both_clear (codes "round " ++ decimal node ++ codes " ") (decimal slot.0) (front_clear (codes "round ") node round_text) (number_clear slot.0)

ask_clear : (node peer slot : ℕ) → HasNo 10 (ask_line node peer slot)
ask_clear node peer slot =
    let front = codes "ask " ++ decimal node ++ codes " " in
    both_clear (front ++ decimal peer ++ codes " ") (decimal slot) (front_clear front peer (front_clear (codes "ask ") node ask_text)) (number_clear slot)

all_clear : (xs ys : List (List ℕ)) → Clear xs → Clear ys → Clear (xs ++ ys)
all_clear [] ys p q = q
all_clear (x ∷ xs) ys p q = (p.0, all_clear xs ys p.1 q)

map_clear : (f : ℕ → List ℕ) → ((n : ℕ) → HasNo 10 (f n)) → (ns : List ℕ) → Clear (map f ns)
map_clear f h [] = tt
map_clear f h (n ∷ ns) = (h n, map_clear f h ns)

flat_clear : (f : ℕ → List (List ℕ)) → ((n : ℕ) → Clear (f n)) → (ns : List ℕ) → Clear (flat_map f ns)
flat_clear f h [] = tt
flat_clear f h (n ∷ ns) = all_clear (f n) (flat_map f ns) (h n) (flat_clear f h ns)

asks_clear : (node peer slot : ℕ) → Clear (ask_lines node peer slot)
asks_clear node peer slot = by (nat_lt 1 slot && nat_eq (slot % WINDOW) 1)
  where
    by : (b : Bool) → Clear (if b then codes "settle" ∷ ask_line node peer slot ∷ [] else ask_line node peer slot ∷ [])
    by true = (settle_text, (ask_clear node peer slot, tt))
    by false = (ask_clear node peer slot, tt)

short_clear : (s : Shorthand) → Clear (shorthand_lines s)
short_clear (OpenAll nodes) = flat_clear (opens_of nodes) (λ node. map_clear (open_line node) (open_clear node) (filter (λ peer. not (nat_eq peer node)) (numbers nodes))) (numbers nodes)
short_clear (Rounds nodes slot times) = flat_clear (λ time. round_of_each nodes slot) (λ time. map_clear (λ node. round_line node slot) (λ node. round_clear node slot) (numbers nodes)) (numbers times)
short_clear (CatchUp node peer until) = flat_clear (ask_lines node peer) (asks_clear node peer) (numbers until)

-- ---- the lines of a script

said_clear : (r : Result (Option Shorthand) BadWord) (line : List ℕ) → HasNo 10 line → Clear (expansion (said_by r line))
said_clear (Ok (Some s)) line h = short_clear s
said_clear (Ok None) line h = (h, tt)
said_clear (Err e) line h = (h, tt)

line_clear : (nodes : Option ℕ) (line : List ℕ) → HasNo 10 line → Clear (expansion (said nodes line))
line_clear None line h = (h, tt)
line_clear (Some n) line h = said_clear (shorthand_in n (words_of line)) line h

placed_lines : (place : ℕ) (lines : List (List ℕ)) → map (λ p. p.line) (placed_at place lines) ≡ lines
placed_lines place [] = refl
placed_lines place (l ∷ ls) = ap (λ t. l ∷ t) (placed_lines place ls)

map_both : (xs ys : List PlacedLine) → map (λ p. p.line) (xs ++ ys) ≡ map (λ p. p.line) xs ++ map (λ p. p.line) ys
map_both [] ys = refl
map_both (x ∷ xs) ys = ap (λ t. x.line ∷ t) (map_both xs ys)

from_clear : (nodes : Option ℕ) (place : ℕ) (lines : List (List ℕ)) → Clear lines → Clear (map (λ p. p.line) (placed_from place (map (said nodes) lines)))
from_clear nodes place [] h = tt
from_clear nodes place (l ∷ ls) h =
    let rest = from_clear nodes (suc place) ls h.1 in
    let first = line_clear nodes l h.0 in
    let more = placed_from (suc place) (map (said nodes) ls) in
    let e = map_both (placed_at place (expansion (said nodes l))) more ∙ ap (λ t. t ++ map (λ p. p.line) more) (placed_lines place (expansion (said nodes l))) in
    subst Clear (sym e) (all_clear (expansion (said nodes l)) (map (λ p. p.line) more) first rest)

parted : (lines : List PlacedLine) → IsSome lines → Clear (map (λ p. p.line) lines) → lines_of (script_of lines) ≡ map (λ p. p.line) lines
parted [] s h = absurd s
parted (l ∷ ls) s h = parts_joined l.line (map (λ p. p.line) ls) h

pub lines_stay : LinesStay
lines_stay script = parted (placed_from 1 (said_in script)) (some_placed script) (from_clear (nodes_of (lines_of script)) 1 (lines_of script) (parts_clear 10 script))
