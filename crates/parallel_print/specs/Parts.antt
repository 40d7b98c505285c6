-- A list in parts, and their texts.
use Rattle.std.specs.Prelude.{◌≡◌, ℕ, List, IfOk}
use Rattle.std.specs.List.{flat_map}
use Rattle.parallel_print.specs.declared.parts.Part.{Part}

-- the items of a part
abbrev pub items_of : {T : Type 0} → Part T → List T
items_of part = part.items.now

-- a part has its items, and the text of them, one behind another, or none for want of memory
pub record IsWorded {T : Type 0} (text : T → List ℕ) (before after : Part T) : Type 0 where
  pub items : after.items.now ≡ before.items.now
  pub text_is : IfOk after.text (λ said. said ≡ flat_map text before.items.now)

-- the texts of the items of a part, one behind another
abbrev pub text_in : {T : Type 0} → (T → List ℕ) → Part T → List ℕ
text_in text part = flat_map text (items_of part)

-- the text of a part, where it has one, is that of its items
abbrev pub HasText : {T : Type 0} → (T → List ℕ) → Part T → Type 0
HasText text part = IfOk part.text (λ said. said ≡ text_in text part)
