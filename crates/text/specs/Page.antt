-- What the writing to a page promises. Assumes nothing: these are definitions.
use Rattle.std.specs.Prelude.{List, ◌≡◌, ℕ, ◌+◌, ◌≤◌, length}
use Rattle.rules.specs.Lists.{written_from}
use Rattle.text.specs.declared.page.Page.{Page}

-- there is room for a text behind what stands on a page
pub record Room (text : List ℕ) (p : Page) : Type 0 where
  pub fits : p.end + length text ≤ length p.bytes.now

-- a text was put behind what stood on a page, where it had room: what the page's bytes are then, where the text ends, and that they are the same bytes
pub record Put (text : List ℕ) (old new : Page) : Type 0 where
  pub room : Room text old
  pub content : new.bytes.now ≡ written_from old.end old.bytes.now text
  pub after : new.end ≡ old.end + length text
  pub same : new.bytes.ghost_name ≡ old.bytes.ghost_name
