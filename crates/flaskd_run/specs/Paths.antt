-- What `flow` and `enter` find in a policy, and what they print of it.
use Rattle.std.specs.Prelude.{◌≡◌, ℕ, Bool, true, false, nat_lt, List, ◌++◌, length, Option, Some, None, option_and_then, if◌then◌else◌, codes, decimal}
use Rattle.std.specs.List.{flat_map, position}
use Rattle.std.specs.Str.{bytes_eq}
use Rattle.flask_sid.specs.declared.context.ContextOf.{ContextOf}
use Rattle.policy_model.specs.declared.policy.PolicyParts.{PolicyParts}
use Rattle.policy_versions.specs.Places.{kind_at}
use Rattle.flow_query.specs.Hops.{is_node}
use Rattle.flow_query.specs.Paths.{Graph, graph_of, IsAnswer, HasNoPath}
use Rattle.flow_query.specs.declared.hop.Hop.{Hop}
use Rattle.flow_query.specs.declared.route.Kind.{Kind}
use Rattle.command_line.specs.declared.command.PathAsked.{PathAsked}
use Rattle.flaskd_run.specs.Texts.{perm_text}
use Rattle.flaskd_run.specs.declared.paths.PathAnswer.{PathAnswer}
use Rattle.flaskd_run.specs.declared.paths.PathAnswer.TheVariants as answer

-- the node of that name: the place of the type that is declared under it, where some context has the type
unfoldable pub node_named : PolicyParts → List (ContextOf (List ℕ)) → List ℕ → Option ℕ
node_named policy contexts name =
    option_and_then (λ place. if is_node policy contexts place then Some place else None) (position (λ kind. bytes_eq kind.name name) policy.kinds)

-- what is found between two nodes: the answer, or that no path leads from the one to the other
abbrev pub IsFoundBetween : Graph → ℕ → ℕ → PathAnswer → Type 0
IsFoundBetween g from to answer.NoPath = HasNoPath g from to
IsFoundBetween g from to (answer.Found path) = IsAnswer g from to path
IsFoundBetween g from to other = ⊥

-- what is found from a node, where the other end is this node, if it is one
abbrev pub IsFoundTo : Graph → ℕ → List ℕ → Option ℕ → PathAnswer → Type 0
IsFoundTo g from name None found = found ≡ answer.NoType name
IsFoundTo g from name (Some to) found = IsFoundBetween g from to found

-- what is found, where the ends are these nodes, if they are: the beginning is looked at before the end
abbrev pub IsFoundFrom : Graph → PathAsked → Option ℕ → Option ℕ → PathAnswer → Type 0
IsFoundFrom g asked None to found = found ≡ answer.NoType asked.from
IsFoundFrom g asked (Some from) to found = IsFoundTo g from asked.to to found

-- what is found in a graph, where the policy has the version or not: that is looked at first
abbrev pub IsFoundIn : Bool → Graph → PathAsked → Option ℕ → Option ℕ → PathAnswer → Type 0
IsFoundIn false g asked from to found = found ≡ answer.NoVersion
IsFoundIn true g asked from to found = IsFoundFrom g asked from to found

-- what is found in a policy that has these contexts
abbrev pub IsFound : PolicyParts → List (ContextOf (List ℕ)) → Kind → PathAsked → PathAnswer → Type 0
IsFound policy contexts kind asked found =
    IsFoundIn (nat_lt asked.version (length policy.versions)) (graph_of (record { policy = policy; contexts = contexts; version = asked.version; kind = kind }))
    asked (node_named policy contexts asked.from) (node_named policy contexts asked.to) found

-- a hop: its two types, then source type, target type, class and permission of its question
abbrev pub hop_text : PolicyParts → Hop → List ℕ
hop_text policy hop =
    kind_at policy hop.from ++ codes " " ++ kind_at policy hop.to ++ codes " " ++ kind_at policy hop.s ++ codes " " ++ kind_at policy hop.t
    ++ codes " " ++ perm_text hop.perm ++ codes "\n"

-- a path: of how many hops, and each in a line of its own
abbrev pub path_text : PolicyParts → List Hop → List ℕ
path_text policy path = (codes "path " ++ decimal (length path) ++ codes "\n") ++ flat_map (hop_text policy) path

-- what is printed of what was found
abbrev pub found_text : PolicyParts → PathAnswer → List ℕ
found_text policy answer.NoVersion = codes "noversion\n"
found_text policy (answer.NoType name) = codes "notype " ++ name ++ codes "\n"
found_text policy answer.NoPath = codes "none\n"
found_text policy (answer.Found path) = path_text policy path

-- what `flow` and `enter` print of a policy that has these contexts: nothing else is found there
pub record IsPathText (policy : PolicyParts) (contexts : List (ContextOf (List ℕ))) (kind : Kind) (asked : PathAsked) (text : List ℕ) : Type 0 where
  pub found : PathAnswer
  pub is_found : IsFound policy contexts kind asked found
  pub only : (other : PathAnswer) → IsFound policy contexts kind asked other → other ≡ found
  pub text_is : text ≡ found_text policy found
