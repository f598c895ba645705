-- A field read from a line that is found, or not. Assumes nothing.
use Rattle.std.proofs.Common.{◌≡◌, ℕ, ◌+◌, false, List, Option, Some, None, sym, add-one}
use Rattle.rules.specs.Text.{place, Place, broken, read, field}
use Rattle.reader.specs.Lines.{has_name, FoundLine}

module _ {A : Type 0} (name : List ℕ) (value : List ℕ → Option A) (p : Place) where
  pub field_missing : has_name name p.rest ≡ false → broken p.line ≡ field name value p
  unfolding field
  field_missing e = rw e

  module _ {v rest : List ℕ} (f : FoundLine p.rest name v rest) where
    pub field_none : None ≡ value v → broken p.line ≡ field name value p
    unfolding field
    field_none e = rw (f.named, sym f.value_is, sym e)

    pub field_some : {x : A} → Some x ≡ value v → read x (place (p.line + 1) rest) ≡ field name value p
    unfolding field
    field_some e = rw (f.named, sym f.value_is, sym e, f.rest_is, add-one)
