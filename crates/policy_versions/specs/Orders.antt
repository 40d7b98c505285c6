-- Places in the order of the texts of their contexts.
use Rattle.std.specs.Prelude.{◌≡◌, ℕ, ◌<◌, Bool, List, ◌++◌, length, take, drop, slice_index_or}
use Rattle.std.specs.List.Sorted.{IsPermutation, IsSortedBy}
use Rattle.std.specs.Ordering.{is_lt}
use Rattle.flask_sid.specs.Contexts.{context_text}
use Rattle.policy_model.specs.declared.policy.PolicyParts.{PolicyParts}
use Rattle.policy_versions.specs.Closure.{text_order}
use Rattle.policy_versions.specs.Numbers.{context_at}
use Rattle.policy_versions.specs.declared.user_role.UserRole.{UserRole}
use Rattle.policy_versions.specs.declared.place.Place.{Place}
use Rattle.policy_versions.specs.declared.order.Texted.{Texted}

-- the place at a position of a list
abbrev pub place_at : List Place → ℕ → Place
place_at places at = slice_index_or places at (record { row = 0; kind = 0 })

-- the text of the context of the place at a position
pub record IsTexted (policy : PolicyParts) (users : List UserRole) (places : List Place) (texted : Texted) : Type 0 where
  pub within : texted.at < length places
  pub text_is : texted.text.items ≡ context_text (context_at policy users (place_at places texted.at).row (place_at places texted.at).kind)

-- the text of the first place's context is before that of the second
abbrev pub is_before : PolicyParts → List UserRole → Place → Place → Bool
is_before policy users a b = is_lt (text_order (context_at policy users a.row a.kind) (context_at policy users b.row b.kind))

-- the texts never fall
abbrev pub AreInTextOrder : PolicyParts → List UserRole → List Place → Type 0
AreInTextOrder policy users places = IsSortedBy (is_before policy users) places

-- the first places as they stand, and the others moved into the order of texts
pub record IsOrdered (policy : PolicyParts) (users : List UserRole) (places : List Place) (count : ℕ) (ordered : List Place) : Type 0 where
  pub sorted : List Place
  pub moved : IsPermutation (drop count places) sorted
  pub in_order : AreInTextOrder policy users sorted
  pub all : ordered ≡ take count places ++ sorted
