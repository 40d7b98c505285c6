-- What compiling a policy answers.
use Rattle.std.specs.Prelude.{◌≡◌, ℕ, List, length, Result, Ok, Err, IsTrue}
use Rattle.flask_sid.specs.declared.context.ContextOf.{ContextOf}
use Rattle.access_vectors.specs.Decisions.{Decisions}
use Rattle.policy_model.specs.declared.policy.PolicyParts.{PolicyParts}
use Rattle.policy_versions.specs.declared.catalogue.Catalogue.{Catalogue}
use Rattle.policy_versions.specs.declared.compiling.CompileFault.{CompileFault}
use Rattle.policy_versions.specs.declared.compiling.CompileFault.TheVariants.{TooManyContexts, Neverallow, Memory}
use Rattle.policy_versions.specs.Places.{kind_at}
use Rattle.policy_versions.specs.Judging.{TooMany, Broken, Fits, IsJudged, decisions_of, context_with, is_sid}
use Rattle.policy_versions.specs.Tables.{place_with, decisions_by}
use Rattle.policy_versions.specs.Vectors.{AreVectorsOf}

-- a catalogue's contexts, in the order of their identifiers
abbrev pub sids_of : Catalogue → List (ContextOf (List ℕ))
sids_of catalogue = catalogue.contexts.sids

-- what a catalogue decides
abbrev pub decides_of : Catalogue → Decisions
decides_of catalogue = decisions_by catalogue.versions catalogue.contexts catalogue.vectors catalogue.given

-- the place of the type of an identifier's context
abbrev pub kind_of : Catalogue → ℕ → ℕ
kind_of catalogue sid = (place_with catalogue.contexts sid).kind

-- a catalogue is that of a policy: its contexts are those to which the policy leads, no version breaks a line, it decides what
-- the policy decides by these identifiers, and its rows have the vectors of the policy's types
pub record IsCatalogueOf (policy : PolicyParts) (catalogue : Catalogue) : Type 0 where
  pub judged : IsJudged policy (Fits (sids_of catalogue))
  pub decides : decides_of catalogue ≡ decisions_of policy (sids_of catalogue)
  pub kinds : (sid : ℕ) → IsTrue (is_sid (length (sids_of catalogue)) sid) → kind_at policy (kind_of catalogue sid) ≡ (context_with (sids_of catalogue) sid).kind
  pub vectors : AreVectorsOf policy catalogue.vectors

-- what compiling a policy may answer
abbrev pub IsAnswer : PolicyParts → Result Catalogue CompileFault → Type 0
IsAnswer policy (Ok catalogue) = IsCatalogueOf policy catalogue
IsAnswer policy (Err TooManyContexts) = IsJudged policy TooMany
IsAnswer policy (Err (Neverallow version line s t perm)) = IsJudged policy (Broken (record { version = version; line = line; s = s; t = t; perm = perm }))
IsAnswer policy (Err Memory) = Unit {0}
