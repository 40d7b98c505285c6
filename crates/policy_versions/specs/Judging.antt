-- What a policy decides once its contexts have identifiers.
use Rattle.std.specs.Prelude.{◌≡◌, ℕ, ◌-◌, Bool, ◌&&◌, nat_lt, nat_le, List, [], length, slice_index_or, Some, None, unwrap_or, if◌then◌else◌}
use Rattle.flask_sid.specs.declared.context.ContextOf.{ContextOf}
use Rattle.flask_sid.specs.SidTables.{sid_of}
use Rattle.access_vectors.specs.Decisions.{Decisions}
use Rattle.policy_model.specs.declared.policy.PolicyParts.{PolicyParts}
use Rattle.policy_model.specs.Deciding.{vector_of, label_of, member_of}
use Rattle.policy_versions.specs.declared.broken.Break.{Break}
use Rattle.policy_versions.specs.Closure.{HasTooMany, AreContexts}
use Rattle.policy_versions.specs.Nevers.{first_break}

-- the context of an identifier
abbrev pub context_with : List (ContextOf (List ℕ)) → ℕ → ContextOf (List ℕ)
context_with contexts sid = slice_index_or contexts (sid - 1) (record { user = []; role = []; kind = [] })

-- the number is an identifier where so many were given
abbrev pub is_sid : ℕ → ℕ → Bool
is_sid count sid = nat_lt 0 sid && nat_le sid count

-- a version and identifiers that may be asked, where there are so many of them
unfoldable pub is_asked : ℕ → ℕ → ℕ → ℕ → ℕ → Bool
is_asked versions count version s t = nat_lt version versions && (is_sid count s && is_sid count t)

-- the identifier of a context, and 0 where it has none
unfoldable pub sid_among : List (ContextOf (List ℕ)) → ContextOf (List ℕ) → ℕ
sid_among contexts context = unwrap_or (sid_of contexts context) 0

-- what a policy decides by its contexts' identifiers: its vectors, and the identifiers of its labels and members. Where there
-- is no such version or identifier, it is 0
unfoldable pub decisions_of : PolicyParts → List (ContextOf (List ℕ)) → Decisions
decisions_of policy contexts = record {
  versions = length policy.versions;
  known = is_sid (length contexts);
  vector = λ version s t class.
      if is_asked (length policy.versions) (length contexts) version s t
      then vector_of policy version (context_with contexts s).kind (context_with contexts t).kind class
      else 0;
  label = λ version s t class.
      if is_asked (length policy.versions) (length contexts) version s t
      then sid_among contexts (label_of policy version (context_with contexts s) (context_with contexts t) class)
      else 0;
  member = λ version s t class.
      if is_asked (length policy.versions) (length contexts) version s t
      then sid_among contexts (member_of policy version (context_with contexts s) (context_with contexts t) class)
      else 0;
}

-- how a policy is judged: it leads to too many contexts, a version breaks a `neverallow` line, or neither; then these are
-- its contexts
pub data Judged : Type 0 where
  TooMany : Judged
  Broken : Break → Judged
  Fits : List (ContextOf (List ℕ)) → Judged

-- a policy does not lead to too many contexts
abbrev pub HasRoom : PolicyParts → Type 0
HasRoom policy = HasTooMany policy → ⊥

-- a policy is judged so. Too many contexts come before a broken line, and of these the first is named
abbrev pub IsJudged : PolicyParts → Judged → Type 0
IsJudged policy TooMany = HasTooMany policy
IsJudged policy (Broken found) = HasRoom policy × (first_break policy ≡ Some found)
IsJudged policy (Fits contexts) = HasRoom policy × AreContexts policy contexts × (first_break policy ≡ None)
