-- The pieces of a picture as text (this project's profile), in HTML (WHATWG) and SVG 2. Coordinates to the right are hundredths of the
-- picture's width, those downwards are in units of the letters' height, `em`.
use Rattle.std.specs.Prelude.{ℕ, List, [], ◌∷◌, ◌++◌, ◌==◌, codes, flat_map, if◌then◌else◌}
use Rattle.std.specs.Fmt.{decimal}

-- ---- text

-- A byte in the text of a page. `&`, `<`, `>` and `"` are written by their names.
abbrev pub escaped_byte : ℕ → List ℕ
escaped_byte byte = if byte == 38 then codes "&amp;" else if byte == 60 then codes "&lt;" else if byte == 62 then codes "&gt;" else if byte == 34 then codes "&quot;" else byte ∷ []

-- A text as it is written in a page.
abbrev pub escaped : List ℕ → List ℕ
escaped text = flat_map escaped_byte text

-- ---- shapes

-- The beginning of an element of this class.
abbrev pub begun_text : List ℕ → List ℕ → List ℕ
begun_text element class = codes "<" ++ element ++ codes " class='" ++ class ++ codes "'"

-- An attribute whose value is a length.
abbrev pub length_text : List ℕ → ℕ → List ℕ
length_text name units = codes " " ++ name ++ codes "='" ++ decimal units ++ codes "em'"

-- An attribute whose value is a place to the right.
abbrev pub place_text : List ℕ → ℕ → List ℕ
place_text name units = codes " " ++ name ++ codes "='" ++ decimal units ++ codes "%'"

-- A line of this class between two points.
abbrev pub line_text : List ℕ → ℕ → ℕ → ℕ → ℕ → List ℕ
line_text class x1 y1 x2 y2 = begun_text (codes "line") class ++ place_text (codes "x1") x1 ++ length_text (codes "y1") y1 ++ place_text (codes "x2") x2 ++ length_text (codes "y2") y2 ++ codes "/>"

-- A line of this class from the top to the bottom.
abbrev pub down_text : List ℕ → ℕ → List ℕ
down_text class x = begun_text (codes "line") class ++ place_text (codes "x1") x ++ place_text (codes "x2") x ++ codes " y2='100%'/>"

-- A line of this class from a point to the right, beyond what is shown.
abbrev pub across_text : List ℕ → ℕ → ℕ → List ℕ
across_text class x y = begun_text (codes "line") class ++ place_text (codes "x1") x ++ length_text (codes "y1") y ++ length_text (codes "y2") y ++ codes " x2='1000%'/>"

-- A bar of this class from a point to the bottom.
abbrev pub bar_text : List ℕ → ℕ → ℕ → List ℕ
bar_text class x y = begun_text (codes "rect") class ++ place_text (codes "x") x ++ length_text (codes "y") y ++ codes " width='.4em' height='100%'/>"

-- A ring of this class around a point.
abbrev pub ring_text : List ℕ → ℕ → ℕ → List ℕ
ring_text class x y = begun_text (codes "circle") class ++ place_text (codes "cx") x ++ length_text (codes "cy") y ++ codes " r='.6em'/>"

-- Letters of this class at a point.
abbrev pub letters_text : List ℕ → ℕ → ℕ → List ℕ → List ℕ
letters_text class x y letters = begun_text (codes "text") class ++ place_text (codes "x") x ++ length_text (codes "y") y ++ codes ">" ++ letters ++ codes "</text>"
