-- What a policy keeps: the forms of its names, what is declared before it is used, and the limits.
use Rattle.std.specs.Prelude.{◌≡◌, ℕ, ◌^◌, ◌<◌, ◌≤◌, Bool, true, false, ◌&&◌, not, List, [], ◌∷◌, ◌++◌, length, Option, Some, None}
use Rattle.std.specs.List.{list_all}
use Rattle.flask_sid.specs.Names.{is_name, is_kind_form, is_long}
use Rattle.access_vectors.specs.declared.class.Class.{Class}
use Rattle.access_vectors.specs.Table.{perm_count}
use Rattle.policy_model.specs.declared.policy.WhoOf.{WhoOf}
use Rattle.policy_model.specs.declared.policy.WhoOf.TheVariants.{Named, Any, Itself}
use Rattle.policy_model.specs.declared.policy.ContextLine.{ContextLine}
use Rattle.policy_model.specs.declared.policy.KindLine.{KindLine}
use Rattle.policy_model.specs.declared.policy.AttributeLine.{AttributeLine}
use Rattle.policy_model.specs.declared.policy.Pattern.{Pattern}
use Rattle.policy_model.specs.declared.policy.Verdict.{Verdict}
use Rattle.policy_model.specs.declared.policy.Verdict.TheVariants.{Allow, Withhold, Transition, Member}
use Rattle.policy_model.specs.declared.policy.RuleLine.{RuleLine}
use Rattle.policy_model.specs.declared.policy.Version.{Version}
use Rattle.policy_model.specs.declared.policy.PolicyParts.{PolicyParts}
use Rattle.policy_model.specs.Declarations.{context_limit, kind_limit, attribute_limit, listed_limit, version_limit, rule_limit, is_kind, is_attribute, has_context, is_known_who, listed_count}

-- each member may follow those that stand before it
abbrev pub Grows : {X : Type 0} → (List X → X → Type 0) → List X → List X → Type 0
Grows May seen [] = Unit {0}
Grows May seen (x ∷ xs) = May seen x × Grows May (seen ++ x ∷ []) xs

-- the name of a type or an attribute
unfoldable pub is_kind_name : List ℕ → Bool
is_kind_name name = is_kind_form name && not (is_long name)

-- types are well named, few, and declared once
pub record MayKind (seen : List KindLine) (kind : KindLine) : Type 0 where
  pub named : is_kind_name kind.name ≡ true
  pub few : length seen < kind_limit
  pub new : is_kind seen kind.name ≡ false

-- contexts are well named, of declared types, few, and declared once
pub record MayContext (kinds : List KindLine) (seen : List ContextLine) (line : ContextLine) : Type 0 where
  pub user : is_name line.context.user ≡ true
  pub role : is_name line.context.role ≡ true
  pub kind : is_kind kinds line.context.kind ≡ true
  pub few : length seen < context_limit
  pub new : has_context seen line.context ≡ false

-- attributes are well named, have declared types and at least one, are few, and declared once
pub record MayAttribute (kinds : List KindLine) (seen : List AttributeLine) (line : AttributeLine) : Type 0 where
  pub named : is_kind_name line.name ≡ true
  pub some : 0 < length line.members
  pub members : list_all (is_kind kinds) line.members ≡ true
  pub few : length seen < attribute_limit
  pub new : is_attribute seen line.name ≡ false

-- no attribute has the name of a type
pub record IsApart (kinds : List KindLine) (line : AttributeLine) : Type 0 where
  pub apart : is_kind kinds line.name ≡ false

-- `self` is no source
abbrev pub is_source : WhoOf (List ℕ) → Bool
is_source (Named name) = true
is_source Any = true
is_source Itself = false

-- some permissions of a class, and no others
pub record IsPerms (class : Class) (perms : ℕ) : Type 0 where
  pub some : 0 < perms
  pub within : perms < 2 ^ perm_count class

-- a line on permissions names what is declared
pub record MayPattern (kinds : List KindLine) (attributes : List AttributeLine) (pattern : Pattern) : Type 0 where
  pub source : is_source pattern.source ≡ true
  pub source_known : is_known_who kinds attributes pattern.source ≡ true
  pub target_known : is_known_who kinds attributes pattern.target ≡ true
  pub perms : IsPerms pattern.class pattern.perms

-- a verdict is on permissions of the class, or gives a declared type
abbrev pub MayVerdict : List KindLine → Class → Verdict → Type 0
MayVerdict kinds class (Allow perms) = IsPerms class perms
MayVerdict kinds class (Withhold perms) = IsPerms class perms
MayVerdict kinds class (Transition kind) = is_kind kinds kind ≡ true
MayVerdict kinds class (Member kind) = is_kind kinds kind ≡ true

-- a rule line names what is declared
pub record IsRule (kinds : List KindLine) (attributes : List AttributeLine) (rule : RuleLine) : Type 0 where
  pub source : is_source rule.source ≡ true
  pub source_known : is_known_who kinds attributes rule.source ≡ true
  pub target_known : is_known_who kinds attributes rule.target ≡ true
  pub verdict : MayVerdict kinds rule.class rule.verdict

-- rule lines of a version are few
pub record MayRule (kinds : List KindLine) (attributes : List AttributeLine) (seen : List RuleLine) (rule : RuleLine) : Type 0 where
  pub few : length seen < rule_limit
  pub good : IsRule kinds attributes rule

-- versions are few, and so are the rule lines of each
pub record MayVersion (kinds : List KindLine) (attributes : List AttributeLine) (seen : List Version) (version : Version) : Type 0 where
  pub few : length seen < version_limit
  pub rules : Grows (MayRule kinds attributes) [] version.rules

-- what holds below each line of a policy text
pub record Grown (policy : PolicyParts) : Type 0 where
  pub kinds : Grows MayKind [] policy.kinds
  pub contexts : Grows (MayContext policy.kinds) [] policy.contexts
  pub attributes : Grows (MayAttribute policy.kinds) [] policy.attributes
  pub apart : Grows (λ seen line. IsApart policy.kinds line) [] policy.attributes
  pub nevers : Grows (λ seen pattern. MayPattern policy.kinds policy.attributes pattern) [] policy.nevers
  pub silent : Grows (λ seen pattern. MayPattern policy.kinds policy.attributes pattern) [] policy.silent
  pub loud : Grows (λ seen pattern. MayPattern policy.kinds policy.attributes pattern) [] policy.loud
  pub listed : listed_count policy ≤ listed_limit
  pub versions : Grows (MayVersion policy.kinds policy.attributes) [] policy.versions

-- what a whole policy keeps
pub record IsWholePolicy (policy : PolicyParts) : Type 0 where
  pub grown : Grown policy
  pub context : 0 < length policy.contexts
  pub version : 0 < length policy.versions

-- above `policy 1` there is nothing to keep
abbrev pub GrownAbove : Option PolicyParts → Type 0
GrownAbove None = Unit {0}
GrownAbove (Some policy) = Grown policy
