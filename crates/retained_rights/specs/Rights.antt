-- Rights that are held in slots, and which of them a pending change leaves stale.
use Rattle.std.specs.Prelude.{◌≡◌, ℕ, ◌-◌, Bool, false, not, ◌==◌, List, [], Option, Some, None, option_map, IsTrue, refl, if◌then◌else◌}
use Rattle.std.specs.List.{list_any}
use Rattle.std.specs.Ordering.{nat_cmp}
use Rattle.std.specs.FinMap as maps
use Rattle.std.specs.FinMap.{FinMap}
use Rattle.std.specs.Coded.{Coded, code_by, coded×, coded_list, coded_ℕ}
use Rattle.access_vectors.specs.Decisions.{Decisions}
use Rattle.access_vectors.specs.Mapped.{mapped}
use Rattle.access_vectors.specs.Phases.{version_at, AreVersions}
use Rattle.access_vectors.specs.Stale.{Follows, Pair, stale_slots}
use Rattle.access_vectors.specs.contracts.class.Class as class_type
use Rattle.access_vectors.specs.contracts.phase.Phase as phase_type
use Rattle.access_vectors.specs.declared.class.Class.{Class}
use Rattle.access_vectors.specs.declared.phase.Phase.{Phase}
use Rattle.access_vectors.specs.declared.phase.Phase.TheVariants.{Settled, Pending}
use Rattle.retained_rights.specs.contracts.rule.Rule as rule_type
use Rattle.retained_rights.specs.contracts.grant.Grant as grant_type
use Rattle.retained_rights.specs.declared.rule.Rule.{Rule}
use Rattle.retained_rights.specs.declared.grant.Grant.{Grant}
use Rattle.retained_rights.specs.declared.grant.Usable.{Usable}
use Rattle.retained_rights.specs.declared.grant.AddFault.{AddFault}
use Rattle.retained_rights.specs.declared.grant.AddFault.TheVariants as faults
use Rattle.retained_rights.specs.Rules.{ruled}

-- what contracts see of grants: the rule and the class, where the policy change stands, the grants by the places of their
-- slots, and the places of the stale ones, least first. A grant's number is the policy number under which its bits were
-- got last.
pub record Rights : Type 0 where
  pub rule : Rule
  pub class : Class
  pub phase : Phase
  pub held : FinMap nat_cmp Grant
  pub stale : List ℕ

-- how contracts tell rights apart
abbrev pub rights_code : Coded Rights
rights_code =
    code_by (Rule × (Class × (Phase × (FinMap nat_cmp Grant × List ℕ))))
    (coded× rule_type.the_row.coded (coded× class_type.the_row.coded (coded× phase_type.the_row.coded (coded× (maps.code coded_ℕ grant_type.the_row.coded) (coded_list coded_ℕ)))))
    (λ v. (v.rule, (v.class, (v.phase, (v.held, v.stale)))))
    (λ p. record { rule = p.0; class = p.1.0; phase = p.1.1.0; held = p.1.1.1.0; stale = p.1.1.1.1 }) (λ _. refl)

-- the policy number that bits follow which were got under a number: where a change is settled all bits follow it; while
-- one is pending, bits that were not got under its number follow the number before it
abbrev pub followed : Phase → ℕ → ℕ
followed (Settled settled version) number = settled
followed (Pending pending old new) number = if number == pending then pending else pending - 1

-- the policy number that each used slot follows
abbrev pub follows_of : Rights → Follows
follows_of rights = mapped (λ place grant. followed rights.phase grant.number) rights.held

-- the pair that a slot holds, if it is used
abbrev pub pair_in : FinMap nat_cmp Grant → ℕ → Option Pair
pair_in held place = option_map (λ grant. record { source = grant.s; target = grant.t }) (maps.get held place)

-- the bits of a mode on a pair, under a version
abbrev pub bits_under : Decisions → Rule → Class → ℕ → ℕ → ℕ → ℕ → ℕ
bits_under d rule class version s t mode = ruled rule mode (d.vector version s t class)

-- a grant is right under a decider: its pair is the decider's, and its bits are the rule's of its mode under the vector of
-- the policy number that they follow
pub record IsRight (d : Decisions) (rule : Rule) (class : Class) (phase : Phase) (grant : Grant) : Type 0 where
  pub source : IsTrue (d.known grant.s)
  pub target : IsTrue (d.known grant.t)
  pub bits : grant.bits ≡ bits_under d rule class (version_at phase grant.number) grant.s grant.t grant.mode

-- the promise between grants and a decider: each grant is right, the stale slots are those of the definition, and the
-- versions of the phase are the decider's
pub record IsFit (d : Decisions) (rights : Rights) : Type 0 where
  pub right : (place : ℕ) (grant : Grant) → maps.get rights.held place ≡ Some grant → IsRight d rights.rule rights.class rights.phase grant
  pub stale : rights.stale ≡ stale_slots d rights.class rights.phase (pair_in rights.held) (follows_of rights)
  pub versions : AreVersions d.versions rights.phase

-- the promise between grants and a decider, as a word that callers pass on unread
unfoldable pub Fit : Decisions → Rights → Type 0
Fit d rights = IsFit d rights

-- no grant
abbrev pub no_rights : Rule → Class → Rights
no_rights rule class = record { rule = rule; class = class; phase = Settled 0 0; held = maps.empty; stale = [] }

-- what a used slot lets its holder do, and the policy number that this follows
abbrev pub usable_of : Phase → Grant → Usable
usable_of phase grant =
    record {
      object = grant.object;
      s = grant.s;
      t = grant.t;
      mode = grant.mode;
      bits = grant.bits;
      number = followed phase grant.number;
    }

-- why a grant is not added, if the slot's use is a reason
abbrev pub add_fault : Option Grant → Option AddFault
add_fault None = None
add_fault (Some grant) = Some faults.SlotUsed

-- a refusal is that fault, and where there is none it is want of memory
abbrev pub IsRefusal : Option AddFault → AddFault → Type 0
IsRefusal None fault = fault ≡ faults.Memory
IsRefusal (Some cause) fault = fault ≡ cause

-- the slot holds the object
abbrev pub is_on : ℕ → Option Grant → Bool
is_on object None = false
is_on object (Some grant) = grant.object == object

-- no slot holds the object any more
abbrev pub without_object : ℕ → FinMap nat_cmp Grant → FinMap nat_cmp Grant
without_object object held = maps.retain_keys held (λ place. not (is_on object (maps.get held place)))

-- the grant moved to the pair with t, with its bits got anew under a number and its version
abbrev pub moved : Decisions → Rule → Class → ℕ → ℕ → ℕ → Grant → Grant
moved d rule class version t number grant =
    record {
      object = grant.object;
      s = grant.s;
      t = t;
      mode = grant.mode;
      bits = bits_under d rule class version grant.s t grant.mode;
      number = number;
    }

-- the grants, those on the object moved to the pair with t
abbrev pub all_moved : Decisions → Rule → Class → ℕ → ℕ → ℕ → ℕ → FinMap nat_cmp Grant → FinMap nat_cmp Grant
all_moved d rule class version object t number held =
    mapped (λ place grant. if grant.object == object then moved d rule class version t number grant else grant) held

-- the grant with its bits got anew under the newest policy number
abbrev pub revised : Decisions → Rule → Class → ℕ → ℕ → Grant → Grant
revised d rule class version number grant = moved d rule class version grant.t number grant

-- the grants, those at these places revised
abbrev pub all_revised : Decisions → Rule → Class → ℕ → ℕ → List ℕ → FinMap nat_cmp Grant → FinMap nat_cmp Grant
all_revised d rule class version number places held =
    mapped (λ place grant. if list_any (λ one. one == place) places then revised d rule class version number grant else grant) held
