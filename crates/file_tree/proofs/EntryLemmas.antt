-- What a change of the index of entries leaves at each place.
use Rattle.std.proofs.Common.{◌≡◌, ℕ, cond, Bool, true, false, ◌&&◌, List, Option, None, Some, refl, sym, ap, ◌∙◌, inl, inr}
use Rattle.std.specs.Prelude.{◌==◌}
use Rattle.std.specs.Str.{bytes_eq}
use Rattle.std.specs.Ordering.{nat_cmp, eq_by_cmp, is_eq}
use Rattle.std.specs.Cmp.{nat_cmp_total, unsigned_tied}
use Rattle.std.specs.Cmp.Lexicographic.{nat_list_cmp_total, texts_ties}
use Rattle.std.specs.FinMap as maps
use Rattle.std.specs.FinMap.{nat_cmp-IsAntisymmetric}
use Rattle.std.specs.Map.{lookup, KeepsOthers}
use Rattle.std.proofs.lemmas.Bool.{cases_eq, eq-eqb, ne_eqb}
use Rattle.file_tree.specs.Shelves.{Numbers, Places, map_by, number_on, number_at, changed_at}
use Rattle.file_tree.proofs.RowLemmas.{get-map_by, get-changed}

abbrev pub at_place : ℕ → ℕ → Bool
at_place q k = is_eq (nat_cmp q k)

pub number_at-is : (places : Places) (p : ℕ) (q : List ℕ) → number_at places p q ≡ number_on (maps.get places p) q
unfolding number_at
number_at-is places p q = refl

pub get-places : (rows : List (ℕ × Numbers)) (p : ℕ) → maps.get (map_by {R = nat_cmp} (λ place. place) rows) p ≡ lookup (at_place p) rows
get-places = get-map_by (λ place. place) nat_cmp nat_cmp_total nat_cmp-IsAntisymmetric

pub number-rows : (rows : List (ℕ × Numbers)) (p : ℕ) (q : List ℕ) → number_at (map_by (λ place. place) rows) p q ≡ number_on (lookup (at_place p) rows) q
number-rows rows p q = number_at-is _ p q ∙ ap (λ s. number_on s q) (get-places rows p)

pub number-inserted : (shelf : Numbers) (name : List ℕ) (number : ℕ) (q : List ℕ) → maps.get (maps.insert shelf name number) q ≡ cond (bytes_eq q name) (Some number) (maps.get shelf q)
number-inserted shelf name number q = maps.get-insert nat_list_cmp_total shelf name number q ∙ ap (λ t. cond t (Some number) (maps.get shelf q)) (sym (texts_ties q name))

pub number-removed : (shelf : Numbers) (name : List ℕ) (q : List ℕ) → maps.get (maps.remove shelf name) q ≡ cond (bytes_eq q name) None (maps.get shelf q)
number-removed shelf name q = maps.get-remove nat_list_cmp_total shelf name q ∙ ap (λ t. cond t None (maps.get shelf q)) (sym (texts_ties q name))

-- a shelf put at a place
pub changed : (old new : List (ℕ × Numbers)) (place : ℕ) (shelf : Numbers) (name : List ℕ) (value : Option ℕ) → lookup (at_place place) new ≡ Some shelf
    → KeepsOthers (eq_by_cmp nat_cmp) (at_place place) old new
    → ((q : List ℕ) → maps.get shelf q ≡ cond (bytes_eq q name) value (number_on (lookup (at_place place) old) q))
    → (p : ℕ) (q : List ℕ) → number_at (map_by (λ at. at) new) p q ≡ changed_at (map_by (λ at. at) old) place name value p q
changed old new place shelf name value here keeps holds p q =
    number_at-is _ p q ∙ ap (λ s. number_on s q) (get-changed (λ at. at) nat_cmp nat_cmp_total nat_cmp-IsAntisymmetric old new place (Some shelf) here keeps p ∙ ap (λ t. cond t (Some shelf) (maps.get (map_by {R = nat_cmp} (λ at. at) old) p)) (unsigned_tied p place))
    ∙ elim (cases_eq p place) [
      | inl same ↦ ap (λ t. number_on (cond t (Some shelf) (maps.get (map_by {R = nat_cmp} (λ at. at) old) p)) q) (eq-eqb p place same) ∙ holds q
          ∙ ap (cond (bytes_eq q name) value) (sym (number-rows old place q) ∙ ap (λ at. number_at (map_by (λ at. at) old) at q) (sym same))
          ∙ sym (ap (λ t. cond (t && bytes_eq q name) value (number_at (map_by (λ at. at) old) p q)) (eq-eqb p place same))
      | inr apart ↦ ap (λ t. number_on (cond t (Some shelf) (maps.get (map_by {R = nat_cmp} (λ at. at) old) p)) q) (ne_eqb p place apart) ∙ sym (number_at-is _ p q)
          ∙ sym (ap (λ t. cond (t && bytes_eq q name) value (number_at (map_by (λ at. at) old) p q)) (ne_eqb p place apart))
    ]

-- nothing to take out
pub unchanged : (rows : List (ℕ × Numbers)) (place : ℕ) (name : List ℕ) → lookup (at_place place) rows ≡ None
    → (p : ℕ) (q : List ℕ) → number_at (map_by (λ at. at) rows) p q ≡ changed_at (map_by (λ at. at) rows) place name None p q
unchanged rows place name none p q = elim (cases_eq p place) [
  | inl same ↦ nothing same ∙ both_none (p == place && bytes_eq q name) ∙ sym (ap (cond (p == place && bytes_eq q name) None) (nothing same))
  | inr apart ↦ sym (ap (λ t. cond (t && bytes_eq q name) None (number_at (map_by (λ at. at) rows) p q)) (ne_eqb p place apart))
]
  where
    both_none : (b : Bool) → ◌≡◌ {A = Option ℕ} None (cond b None None)
    both_none true = refl
    both_none false = refl

    nothing : p ≡ place → number_at (map_by (λ at. at) rows) p q ≡ None
    nothing same = number-rows rows p q ∙ ap (λ at. number_on (lookup (at_place at) rows) q) same ∙ ap (λ s. number_on s q) none
