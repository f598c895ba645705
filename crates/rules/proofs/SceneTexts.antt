-- The text of a scene: a scene has one text, which is read as the scene, and no other text is read. Assumes nothing.
use mathlib.Core.Bool.{Bool, true, false, cond}
use mathlib.Core.List.{List, [], ◌∷◌, ◌++◌, flat_map, append_assoc, append-nil, Memᴰ}
use mathlib.Core.Path.{◌≡◌, refl, sym, ap, subst, fun_ext, ◌∙◌}
use Prim.Native.Nat.{ℕ, ◌+◌, ◌*◌, ◌≤◌}
use native.Mathlib.Omega.{arith}
use lib.Dec.{ltb, ltb→lt}
use lib.ListN.{length, length-append}
use Rattle.rules.specs.Lists.{not_empty, any}
use Rattle.rules.specs.Bytes.{bytes, largest64, number_up_to, signed_number, decimal, signed_decimal}
use Rattle.rules.specs.Scene.{Component, Connection, Scene}
use Rattle.rules.specs.Text.{Place, place, Reading, broken, read, and_then, field, delay_word, counted, component, connection, ended, scene_at, max_text, read_scene, field_line, delay_text, component_text, connection_text, scene_text, Signed32, ComponentWidths, ConnectionWidths, SceneWidths}
use Rattle.rules.proofs.Lists.{not_chosen}
use Rattle.rules.proofs.Decimals.{number_read, number-text, signed-read, signed-text, delay-read, delay-text, decimal-has-no-feed, signed-has-no-feed, delay-has-no-feed}
use Rattle.rules.proofs.TextLines.{NoFeed, not-read, Form, as-form, field-form, then-form, last-form, rows-form, rows-length}

-- Fields

number-form : (most : ℕ) (name : List ℕ) → NoFeed name → Form (field name (number_up_to most)) (λ n. field_line name (decimal n)) (λ n. n ≤ most) (λ n. 1)
number-form most = field-form (number_up_to most) decimal (λ n. n ≤ most) (number_read most) (number-text most) decimal-has-no-feed

delay-form : (name : List ℕ) → NoFeed name → Form (field name delay_word) (λ d. field_line name (delay_text d)) (λ d. d ≤ 256) (λ d. 1)
delay-form = field-form delay_word delay_text (λ d. d ≤ 256) delay-read delay-text delay-has-no-feed

signed-form : (name : List ℕ) → NoFeed name → Form (field name signed_number) (λ z. field_line name (signed_decimal z)) Signed32 (λ z. 1)
signed-form = field-form signed_number signed_decimal Signed32 signed-read signed-text signed-has-no-feed

-- Components and connections

-- the largest number of 64 bits
abbrev most64 : ℕ
most64 = largest64

component-form : Form component component_text ComponentWidths (λ c. 7)
unfolding component component_text any
component-form =
    as-form
    (then-form (number-form most64 (bytes "id=") (λ t. t)) (λ c. c.id)
    (λ i. then-form (number-form 255 (bytes "kind=") (λ t. t)) (λ c. c.kind)
    (λ k. then-form (delay-form (bytes "delay=") (λ t. t)) (λ c. c.delay)
    (λ d. then-form (number-form 1 (bytes "locked=") (λ t. t)) (λ c. c.locked)
    (λ f. then-form (signed-form (bytes "x=") (λ t. t)) (λ c. c.x)
    (λ x. then-form (signed-form (bytes "y=") (λ t. t)) (λ c. c.y)
    (λ y. last-form (signed-form (bytes "z=") (λ t. t)) (λ c. c.z) (λ z. record { id = i; kind = k; delay = d; locked = f; x = x; y = y; z = z }) (λ z. refl))
    (λ y c h. sym (ap (λ c. c.y) h.1)))
    (λ x c h. sym (ap (λ c. c.x) h.1.1)))
    (λ f c h. sym (ap (λ c. c.locked) h.1.1.1)))
    (λ d c h. sym (ap (λ c. c.delay) h.1.1.1.1)))
    (λ k c h. sym (ap (λ c. c.kind) h.1.1.1.1.1)))
    (λ i c h. sym (ap (λ c. c.id) h.1.1.1.1.1.1)))
    (λ c h. record { id_fits = h.0; kind_fits = h.1.0; delay_fits = h.1.1.0; locked_fits = h.1.1.1.0; x_fits = h.1.1.1.1.0; y_fits = h.1.1.1.1.1.0; z_fits = h.1.1.1.1.1.1.0 })
    (λ c h. (h.id_fits, (h.kind_fits, (h.delay_fits, (h.locked_fits, (h.x_fits, (h.y_fits, (h.z_fits, refl))))))))
    (λ c. 7)
    (λ c. refl)

connection-form : Form connection connection_text ConnectionWidths (λ n. 3)
unfolding connection connection_text any
connection-form =
    as-form
    (then-form (number-form most64 (bytes "source=") (λ t. t)) (λ n. n.source)
    (λ a. then-form (number-form most64 (bytes "sink=") (λ t. t)) (λ n. n.sink)
    (λ b. last-form (number-form 255 (bytes "transfer=") (λ t. t)) (λ n. n.transfer) (λ t. record { source = a; sink = b; transfer = t }) (λ t. refl))
    (λ b n h. sym (ap (λ n. n.sink) h.1)))
    (λ a n h. sym (ap (λ n. n.source) h.1.1)))
    (λ n h. record { source_fits = h.0; sink_fits = h.1.0; transfer_fits = h.1.1.0 })
    (λ n h. (h.source_fits, (h.sink_fits, (h.transfer_fits, refl))))
    (λ n. 3)
    (λ n. refl)

-- a count and its rows
module _ {A : Type 0} {row : Place → Reading A} {text : A → List ℕ} {Fits : A → Type 0} {lines : ℕ} (form : Form row text Fits (λ x. lines)) (name : List ℕ) (free : NoFeed name) where
  counted-form : Form (counted name row) (λ xs. field_line name (decimal (length xs)) ++ flat_map text xs) (λ xs. (length xs ≤ most64) × ((x : A) → Memᴰ x xs → Fits x)) (λ xs. lines * length xs + 1)
  unfolding counted
  counted-form = as-form (then-form (number-form most64 name free) length (rows-form form) (λ n xs h. h.0)) (λ xs h. (h.0, h.1.1)) (λ xs h. (h.0, (refl, h.1))) (λ xs. lines * length xs + 1) (λ xs. refl)

-- Scenes

components-form : Form (counted (bytes "components=") component) (λ cs. field_line (bytes "components=") (decimal (length cs)) ++ flat_map component_text cs) (λ cs. (length cs ≤ most64) × ((c : Component) → Memᴰ c cs → ComponentWidths c)) (λ cs. 7 * length cs + 1)
unfolding any
components-form = counted-form component-form (bytes "components=") (λ t. t)

connections-form : Form (counted (bytes "connections=") connection) (λ ns. field_line (bytes "connections=") (decimal (length ns)) ++ flat_map connection_text ns) (λ ns. (length ns ≤ most64) × ((n : Connection) → Memᴰ n ns → ConnectionWidths n)) (λ ns. 3 * length ns + 1)
unfolding any
connections-form = counted-form connection-form (bytes "connections=") (λ t. t)

abbrev scene_with : List Component → List Connection → Scene
scene_with cs ns = record { components = cs; connections = ns }

-- a scene, where more may follow it
abbrev scene_first : Place → Reading Scene
scene_first p = and_then (counted (bytes "components=") component p) (λ cs p. and_then (counted (bytes "connections=") connection p) (λ ns p. read (scene_with cs ns) p))

-- the counts fit their width
abbrev CountsFit : Scene → Type 0
CountsFit s = (length s.components ≤ most64) × (length s.connections ≤ most64)

abbrev scene_lines : Scene → ℕ
scene_lines s = (3 * length s.connections + 1) + (7 * length s.components + 1)

scene-form : Form scene_first scene_text (λ s. CountsFit s × SceneWidths s) scene_lines
unfolding scene_text
scene-form =
    subst (λ text. Form scene_first text (λ s. CountsFit s × SceneWidths s) scene_lines)
    (fun_ext (λ s. append_assoc (field_line (bytes "components=") (decimal (length s.components))) (flat_map component_text s.components) (field_line (bytes "connections=") (decimal (length s.connections)) ++ flat_map connection_text s.connections)))
    (as-form
    (then-form components-form (λ s. s.components)
    (λ cs. last-form connections-form (λ s. s.connections) (λ ns. scene_with cs ns) (λ ns. refl))
    (λ cs s h. sym (ap (λ s. s.components) h.1)))
    (λ s h. ((h.0.0, h.1.0.0), record { components_fit = h.0.1; connections_fit = h.1.0.1 }))
    (λ s h. ((h.0.0, h.1.components_fit), ((h.0.1, h.1.connections_fit), refl)))
    scene_lines
    (λ s. refl))

-- and where nothing may
scene-ended : (p : Place) → scene_at p ≡ and_then (scene_first p) ended
unfolding scene_at and_then
scene-ended p = outer (counted (bytes "components=") component p)
  where
    inner : (cs : List Component) (m : Reading (List Connection)) → and_then m (λ ns p. ended (scene_with cs ns) p) ≡ and_then (and_then m (λ ns p. read (scene_with cs ns) p)) ended
    inner cs (broken l) = refl
    inner cs (read ns q) = refl

    outer : (m : Reading (List Component)) → and_then m (λ cs p. and_then (counted (bytes "connections=") connection p) (λ ns p. ended (scene_with cs ns) p))
        ≡ and_then (and_then m (λ cs p. and_then (counted (bytes "connections=") connection p) (λ ns p. read (scene_with cs ns) p))) ended
    outer (broken l) = refl
    outer (read cs q) = inner cs (counted (bytes "connections=") connection q)

-- each row takes at least a byte, so that the counts of a text that is not too long fit
counts-fit : (s : Scene) → length (scene_text s) ≤ max_text → CountsFit s
unfolding scene_text component_text connection_text
counts-fit s h =
    let a : List ℕ = field_line (bytes "components=") (decimal (length s.components)) in
    let b : List ℕ = flat_map component_text s.components in
    let c : List ℕ = field_line (bytes "connections=") (decimal (length s.connections)) in
    let d : List ℕ = flat_map connection_text s.connections in
    let sum = length-append a (b ++ (c ++ d)) in
    let sum₂ = length-append b (c ++ d) in
    let sum₃ = length-append c d in
    let few = rows-length component_text (λ c. omega arith) s.components in
    let few₂ = rows-length connection_text (λ c. omega arith) s.connections in
    (omega arith, omega arith)

-- reading what a canonical writer of scenes writes gives the scene back
pub scene-read-back : (s : Scene) → SceneWidths s → length (scene_text s) ≤ max_text → read_scene (scene_text s) ≡ read s (place (3 + (7 * length s.components + 3 * length s.connections)) [])
unfolding read_scene and_then
scene-read-back s f h =
    let whole : scene_text s ≡ scene_text s ++ [] = sym (append-nil (scene_text s)) in
    let lines : scene_lines s + 1 ≡ 3 + (7 * length s.components + 3 * length s.connections) = omega arith in
    not_chosen (broken 0) (scene_at (place 1 (scene_text s))) (ltb max_text (length (scene_text s))) (λ t. omega (arith, ltb→lt max_text (length (scene_text s)) t))
    ∙ scene-ended (place 1 (scene_text s))
    ∙ ap (λ t. and_then (scene_first (place 1 t)) ended) whole
    ∙ ap (λ m. and_then m ended) (scene-form.reads s 1 [] (counts-fit s h, f))
    ∙ ap (λ k. read s (place k [])) lines

-- and a text that is read is the one text of its scene
pub read-scene-text : (t : List ℕ) (s : Scene) (p : Place) → read_scene t ≡ read s p → (t ≡ scene_text s) × SceneWidths s
unfolding read_scene and_then
read-scene-text t s p r = go (ltb max_text (length t)) r
  where
    at-end : (x : Scene) (q : Place) → scene_first (place 1 t) ≡ read x q → (rest : List ℕ) → q.rest ≡ rest → cond (not_empty rest) (broken q.line) (read x q) ≡ read s p → (t ≡ scene_text s) × SceneWidths s
    at-end x q e (b ∷ bs) n r = absurd (not-read r)
    at-end x q e [] n r =
        let same : x ≡ s = cc r in
        let w = scene-form.was_text (place 1 t) x q e in
        subst (λ x. (t ≡ scene_text x) × SceneWidths x) same (w.0 ∙ ap (λ l. scene_text x ++ l) n ∙ append-nil (scene_text x), w.1.1)

    from : (m : Reading Scene) → scene_first (place 1 t) ≡ m → and_then m ended ≡ read s p → (t ≡ scene_text s) × SceneWidths s
    from (broken l) e r = absurd (not-read r)
    from (read x q) e r = at-end x q e q.rest refl r

    go : (b : Bool) → cond b (broken 0) (scene_at (place 1 t)) ≡ read s p → (t ≡ scene_text s) × SceneWidths s
    go true r = absurd (not-read r)
    go false r = from (scene_first (place 1 t)) refl (sym (scene-ended (place 1 t)) ∙ r)

-- its numbers fit their widths
pub read_fits : (t : List ℕ) (s : Scene) (p : Place) → read_scene t ≡ read s p → SceneWidths s
read_fits t s p r = (read-scene-text t s p r).1
