-- The text of a scene: how it is read, and how it is written. Assumes nothing: these are definitions.
use Rattle.std.specs.Prelude.{Option, Some, None, Bool, true, false, cond, ◌&&◌, ℕ, zero, suc, ◌≤◌, eqb, ltb, ℤ, pos, negsuc, length, drop}
use mathlib.Core.List.{List, [], ◌∷◌, ◌++◌, flat_map, Memᴰ}
use Prim.Native.Char.{code}
use Rattle.rules.specs.Lists.{not_empty, any}
use Rattle.rules.specs.Bytes.{bytes, largest64, number_up_to, signed_number, decimal, signed_decimal}
use Rattle.rules.specs.Scene.{Component, Connection, Scene}

-- "Each field has its own line, ended by a line feed."
abbrev pub line_feed : ℕ
line_feed = code "\n"

-- a line with its line feed is left
abbrev pub has_line : List ℕ → Bool
has_line rest = any (eqb line_feed) rest

-- the bytes before the first line feed: a line, where there is one
unfoldable pub line_of : List ℕ → List ℕ
line_of [] = []
line_of (b ∷ bs) =
    let r = line_of bs in
    cond (eqb line_feed b) [] (b ∷ r)

-- the bytes after it
unfoldable pub after_line : List ℕ → List ℕ
after_line [] = []
after_line (b ∷ bs) =
    let r = after_line bs in
    cond (eqb line_feed b) bs r

unfoldable pub starts_with : (name line : List ℕ) → Bool
starts_with [] bs = true
starts_with (n ∷ ns) [] = false
starts_with (n ∷ ns) (b ∷ bs) =
    let r = starts_with ns bs in
    eqb n b && r

-- where reading stands: the number of the next line ("line from 1") and the bytes from there on
pub record Place : Type 0 where
  pub line : ℕ
  pub rest : List ℕ

abbrev pub place : ℕ → List ℕ → Place
place l r = record { line = l; rest = r }

-- what was read and the place after it, or the line that 14 gives: the first that breaks the form, 0 for the text's length
pub data Reading (A : Type 0) : Type 0 where
  broken : (line : ℕ) → Reading A
  read : A → Place → Reading A

-- one thing read after another
module _ {A B : Type 0} where
  unfoldable pub and_then : Reading A → (A → Place → Reading B) → Reading B
  and_then (broken l) next = broken l
  and_then (read x p) next = next x p

module _ {A : Type 0} where
  -- a line whose value is in its form, or not
  abbrev pub field_of : Option A → Place → Reading A
  field_of None p = broken p.line
  field_of (Some x) p = read x (place (suc p.line) (after_line p.rest))

  -- a field: a line with the field's name and its value. "14 gives the first line that breaks the form, a last line without its line feed
  -- included; where lines are missing, the number past the last": where no line feed is left, the line breaks the form or is missing
  unfoldable pub field : List ℕ → (List ℕ → Option A) → Place → Reading A
  field name value p =
      let line = line_of p.rest in
      let found = field_of (value (drop (length name) line)) p in
      cond (has_line p.rest && starts_with name line) found (broken p.line)

  -- so many rows, one after another
  unfoldable pub rows_of : (Place → Reading A) → ℕ → Place → Reading (List A)
  rows_of row zero p = read [] p
  rows_of row (suc n) p = and_then (row p) (λ x q. and_then (rows_of row n q) (λ xs q. read (x ∷ xs) q))

-- "counts 64 bits", and "an id (64 bits)"
abbrev pub number64 : List ℕ → Option ℕ
number64 bs = number_up_to largest64 bs

-- "kind, delay and transfer a byte"
abbrev pub byte : List ℕ → Option ℕ
byte bs = number_up_to 255 bs

-- "locked 0 or 1"
abbrev pub flag : List ℕ → Option ℕ
flag bs = number_up_to 1 bs

-- "delay may be `none`"
abbrev pub is_none : List ℕ → Bool
is_none bs = starts_with (bytes "none") bs && eqb (length bs) 4

-- the delay word 256 stands for it
unfoldable pub delay_word : List ℕ → Option ℕ
delay_word bs = cond (is_none bs) (Some 256) (byte bs)

-- a count, and as many rows
module _ {A : Type 0} where
  unfoldable pub counted : List ℕ → (Place → Reading A) → Place → Reading (List A)
  counted name row p = and_then (field name number64 p) (rows_of row)

-- "for each, `id= kind= delay= locked= x= y= z=`"
unfoldable pub component : Place → Reading Component
component p =
    and_then (field (bytes "id=") number64 p) (λ i p.
    and_then (field (bytes "kind=") byte p) (λ k p.
    and_then (field (bytes "delay=") delay_word p) (λ d p.
    and_then (field (bytes "locked=") flag p) (λ f p.
    and_then (field (bytes "x=") signed_number p) (λ x p.
    and_then (field (bytes "y=") signed_number p) (λ y p.
    and_then (field (bytes "z=") signed_number p) (λ z p.
    read (record { id = i; kind = k; delay = d; locked = f; x = x; y = y; z = z }) p)))))))

-- "for each, `source= sink= transfer=`"
unfoldable pub connection : Place → Reading Connection
connection p =
    and_then (field (bytes "source=") number64 p) (λ a p.
    and_then (field (bytes "sink=") number64 p) (λ b p.
    and_then (field (bytes "transfer=") byte p) (λ t p.
    read (record { source = a; sink = b; transfer = t }) p)))

-- nothing follows the last line
module _ {A : Type 0} where
  abbrev pub ended : A → Place → Reading A
  ended x p = cond (not_empty p.rest) (broken p.line) (read x p)

-- "`components=N`; for each, .."; "`connections=M`; for each, ..", and no more
unfoldable pub scene_at : Place → Reading Scene
scene_at p =
    and_then (counted (bytes "components=") component p) (λ cs p.
    and_then (counted (bytes "connections=") connection p) (λ ns p.
    ended (record { components = cs; connections = ns }) p))

-- 14: "text not in the form below, or over 65,536 bytes"; its place: "line from 1; 0 for length"
abbrev pub max_text : ℕ
max_text = 65536

unfoldable pub read_scene : List ℕ → Reading Scene
read_scene text =
    let scene = scene_at (place 1 text) in
    cond (ltb max_text (length text)) (broken 0) scene

-- Writing: the one text that is read as this scene, where its fields fit their widths and the text its limit

abbrev pub field_line : (name value : List ℕ) → List ℕ
field_line name value = name ++ (value ++ (line_feed ∷ []))

abbrev pub delay_text : ℕ → List ℕ
delay_text d = cond (eqb d 256) (bytes "none") (decimal d)

unfoldable pub component_text : Component → List ℕ
component_text c =
    field_line (bytes "id=") (decimal c.id) ++ (field_line (bytes "kind=") (decimal c.kind) ++ (field_line (bytes "delay=") (delay_text c.delay) ++ (field_line (bytes "locked=") (decimal c.locked)
    ++ (field_line (bytes "x=") (signed_decimal c.x) ++ (field_line (bytes "y=") (signed_decimal c.y) ++ field_line (bytes "z=") (signed_decimal c.z))))))

unfoldable pub connection_text : Connection → List ℕ
connection_text n =
    field_line (bytes "source=") (decimal n.source) ++ (field_line (bytes "sink=") (decimal n.sink) ++ field_line (bytes "transfer=") (decimal n.transfer))

unfoldable pub scene_text : Scene → List ℕ
scene_text s =
    field_line (bytes "components=") (decimal (length s.components)) ++ (flat_map component_text s.components
    ++ (field_line (bytes "connections=") (decimal (length s.connections)) ++ flat_map connection_text s.connections))

-- The scenes that can be read: each field fits its width

abbrev pub Signed32 : ℤ → Type 0
Signed32 (pos n) = n ≤ 2147483647
Signed32 (negsuc n) = suc n ≤ 2147483648

-- the delay word is a byte's number, or 256 for `none`
pub record ComponentWidths (c : Component) : Type 0 where
  pub id_fits : c.id ≤ largest64
  pub kind_fits : c.kind ≤ 255
  pub delay_fits : c.delay ≤ 256
  pub locked_fits : c.locked ≤ 1
  pub x_fits : Signed32 c.x
  pub y_fits : Signed32 c.y
  pub z_fits : Signed32 c.z

pub record ConnectionWidths (n : Connection) : Type 0 where
  pub source_fits : n.source ≤ largest64
  pub sink_fits : n.sink ≤ largest64
  pub transfer_fits : n.transfer ≤ 255

pub record SceneWidths (s : Scene) : Type 0 where
  pub components_fit : (c : Component) → Memᴰ c s.components → ComponentWidths c
  pub connections_fit : (n : Connection) → Memᴰ n s.connections → ConnectionWidths n
