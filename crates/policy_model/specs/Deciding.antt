-- What a version decides: the last line that matches.
use Rattle.std.specs.Prelude.{ℕ, zero, suc, Bool, true, false, List, [], ◌∷◌, slice_get, Option, Some, None, unwrap_or, if◌then◌else◌, codes}
use Rattle.flask_sid.specs.declared.context.ContextOf.{ContextOf}
use Rattle.access_vectors.specs.declared.class.Class.{Class}
use Rattle.access_vectors.specs.declared.class.Class.TheVariants.{Process}
use Rattle.access_vectors.specs.Vectors.{has, with_index}
use Rattle.policy_model.specs.declared.policy.AttributeLine.{AttributeLine}
use Rattle.policy_model.specs.declared.policy.RuleLine.{RuleLine}
use Rattle.policy_model.specs.declared.policy.Verdict.{Verdict}
use Rattle.policy_model.specs.declared.policy.Verdict.TheVariants.{Allow, Withhold, Transition, Member}
use Rattle.policy_model.specs.declared.policy.PolicyParts.{PolicyParts}
use Rattle.policy_model.specs.declared.policy.Labelling.{Labelling}
use Rattle.policy_model.specs.declared.policy.Labelling.TheVariants as labelling
use Rattle.policy_model.specs.Declarations.{rules_of}
use Rattle.policy_model.specs.Matching.{matches}

-- the first of two answers, and the second where the first says nothing
abbrev pub or_else : {X : Type 0} → Option X → Option X → Option X
or_else (Some answer) other = Some answer
or_else None other = other

-- what the last of the rule lines that says anything says
abbrev pub last_said : {X : Type 0} → (RuleLine → Option X) → List RuleLine → Option X
last_said says [] = None
last_said says (rule ∷ rules) = or_else (last_said says rules) (says rule)

-- what a verdict says of the permission at an index: yes, no, or nothing
unfoldable pub verdict_on : Verdict → ℕ → Option Bool
verdict_on (Allow perms) index = if has perms index then Some true else None
verdict_on (Withhold perms) index = if has perms index then Some false else None
verdict_on (Transition kind) index = None
verdict_on (Member kind) index = None

-- what a rule line says of the permission at an index of the class, for a source of type s and a target of type t
unfoldable pub says_of : List AttributeLine → List ℕ → List ℕ → Class → ℕ → RuleLine → Option Bool
says_of attributes s t class index rule = if matches attributes rule s t class then verdict_on rule.verdict index else None

-- rule lines allow a permission: the last of them that speaks of it says yes
unfoldable pub is_allowed : List AttributeLine → List RuleLine → List ℕ → List ℕ → Class → ℕ → Bool
is_allowed attributes rules s t class index = unwrap_or (last_said (says_of attributes s t class index) rules) false

-- the vector of the indexes below n that pass a test
unfoldable pub vector_where : ℕ → (ℕ → Bool) → ℕ
vector_where zero test = 0
vector_where (suc n) test = if test n then with_index (vector_where n test) n else vector_where n test

-- the vector that rule lines decide: the permissions that they allow
unfoldable pub decided_vector : List AttributeLine → List RuleLine → List ℕ → List ℕ → Class → ℕ
decided_vector attributes rules s t class = vector_where 16 (is_allowed attributes rules s t class)

-- the rule lines of a version, which are numbered from 0
unfoldable pub rules_at : PolicyParts → ℕ → List RuleLine
rules_at policy version = rules_of (slice_get policy.versions version)

-- the vector that a version decides
unfoldable pub vector_of : PolicyParts → ℕ → List ℕ → List ℕ → Class → ℕ
vector_of policy version s t class = decided_vector policy.attributes (rules_at policy version) s t class

-- the type that a verdict gives, as one of this kind
abbrev pub kind_given : Labelling → Verdict → Option (List ℕ)
kind_given labelling.Transition (Transition kind) = Some kind
kind_given labelling.Member (Member kind) = Some kind
kind_given other verdict = None

-- the type that a rule line gives where it matches
unfoldable pub gives_kind : Labelling → List AttributeLine → List ℕ → List ℕ → Class → RuleLine → Option (List ℕ)
gives_kind labelling attributes s t class rule = if matches attributes rule s t class then kind_given labelling rule.verdict else None

-- the type that a version's last matching line of this kind gives
unfoldable pub given_kind : Labelling → PolicyParts → ℕ → List ℕ → List ℕ → Class → Option (List ℕ)
given_kind labelling policy version s t class = last_said (gives_kind labelling policy.attributes s t class) (rules_at policy version)

-- a class whose new objects take after their maker: processes
abbrev pub takes_after_maker : Class → Bool
takes_after_maker Process = true
takes_after_maker class = false

-- the role of what is no process
abbrev pub object_role : List ℕ
object_role = codes "object_r"

-- the label of a new object of a class that s makes at t: the type of the last matching `transition` line, and without
-- one that of s for a process and that of t for all else
unfoldable pub label_of : PolicyParts → ℕ → ContextOf (List ℕ) → ContextOf (List ℕ) → Class → ContextOf (List ℕ)
label_of policy version s t class = record {
  user = s.user;
  role = if takes_after_maker class then s.role else object_role;
  kind = unwrap_or (given_kind labelling.Transition policy version s.kind t.kind class) (if takes_after_maker class then s.kind else t.kind);
}

-- the member of t that s is led to: of the type of the last matching `member` line, and without one t itself
unfoldable pub member_of : PolicyParts → ℕ → ContextOf (List ℕ) → ContextOf (List ℕ) → Class → ContextOf (List ℕ)
member_of policy version s t class = led_to (given_kind labelling.Member policy version s.kind t.kind class)
  where
    led_to : Option (List ℕ) → ContextOf (List ℕ)
    led_to None = t
    led_to (Some kind) = record { user = s.user; role = object_role; kind = kind }
