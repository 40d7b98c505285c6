-- For a core that keeps no rights: no slot follows a policy number, so none is stale.
use Rattle.std.specs.Prelude.{◌≡◌, ℕ, List, [], filter, map, Option, Some, None, is_none, T}
use Rattle.std.proofs.Common.{ap, sym, ◌∙◌, subst}
use Rattle.std.specs.Ordering.{nat_cmp}
use Rattle.std.specs.FinMap as maps
use Rattle.access_vectors.specs.Decisions.{Decisions}
use Rattle.access_vectors.specs.Mapped.{mapped, entries_mapped}
use Rattle.access_vectors.specs.declared.class.Class.{Class}
use Rattle.access_vectors.specs.declared.phase.Phase.{Phase}
use Rattle.access_vectors.specs.Stale.{Follows, Pair, AreNamed, is_stale_pair, stale_slots, now_following, all_following}

-- no slot follows a number
abbrev pub no_follows : Follows
no_follows = maps.from_sorted []

no_entries : maps.entries no_follows ≡ []
no_entries = maps.entries-from_sorted nat_cmp [] tt

mapped-none : (f : ℕ → ℕ → ℕ) → mapped f no_follows ≡ no_follows
unfolding mapped
mapped-none f = ap (λ (es : List (ℕ × ℕ)). maps.from_sorted (entries_mapped f es)) no_entries

-- nothing is not something
None≢Some : (number : ℕ) → ◌≡◌ {A = Option ℕ} None (Some number) → ⊥
None≢Some number is = subst T (ap is_none is) tt

-- no slot is stale
pub none_are_stale : (d : Decisions) (class : Class) (phase : Phase) (pair_of : ℕ → Option Pair) → [] ≡ stale_slots d class phase pair_of no_follows
none_are_stale d class phase pair_of =
    sym (ap (λ (es : List (ℕ × ℕ)). filter (λ place. is_stale_pair d class phase (pair_of place) (maps.get no_follows place)) (map (λ e. e.0) es)) no_entries)

-- an update lets no slot follow another number
pub now_following-none : (places : List ℕ) (number : ℕ) → no_follows ≡ now_following places number no_follows
now_following-none places number = sym (mapped-none _)

-- nor does an acknowledgement
pub all_following-none : (number : ℕ) → no_follows ≡ all_following number no_follows
all_following-none number = sym (mapped-none _)

-- every number that is followed may be named
pub none_named : (phase : Phase) → AreNamed phase no_follows
none_named phase place number is =
    absurd (None≢Some number (sym (maps.get-from_sorted nat_cmp [] place tt) ∙ is))
