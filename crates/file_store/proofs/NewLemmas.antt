-- Files as they are opened.
use Rattle.std.proofs.Common.{◌≡◌, ◌<◌, sym, ap, subst, ◌∙◌}
use Rattle.std.specs.FinMap as maps
use Rattle.access_vectors.specs.Decisions.{Decisions}
use Rattle.access_vectors.specs.declared.class.Class.TheVariants.{File}
use Rattle.retained_rights.specs.Rights.{Rights, no_rights}
use Rattle.retained_rights.specs.Claims.{claims_of}
use Rattle.retained_rights.specs.declared.rule.Rule.TheVariants.{Each}
use Rattle.retained_rights.proofs.MapLemmas.{mapped-empty}
use Rattle.retained_rights.proofs.Opening.{fit_none}
use Rattle.retained_rights.proofs.StepLemmas.{step_new}
use Rattle.file_tree.specs.Nodes.{Nodes}
use Rattle.file_tree.specs.PlainTree.{plain, IsWellMade}
use Rattle.file_calls.specs.Openings.{IsOpening}
use Rattle.file_calls.specs.States.{laid, root_tree, opened_with}
use Rattle.file_calls.specs.declared.opening.FileOpening.{FileOpening}
use Rattle.file_store.specs.Stores.{StoreView, IsLinked, IsInStep, Safe, state_of, slots_of, follows}
use Rattle.file_store.proofs.LayLemmas.{AreLabels, known_nodes, labels_laid, labels_root}

abbrev pub opened : FileOpening → Nodes → Rights → StoreView
opened opening nodes rights = record { opening = opening; nodes = nodes; rights = rights }

module _ (opening : FileOpening) (nodes : Nodes) (rights : Rights) (none : rights ≡ no_rights Each File) (made : IsWellMade nodes) where
  step_none : IsInStep (opened opening nodes (no_rights Each File))
  step_none = record { tree = made; slots = step_new Each File (IsLinked opening.clients nodes) }

  pub step_opened : IsInStep (opened opening nodes rights)
  step_opened = subst (λ now. IsInStep (opened opening nodes now)) (sym none) step_none

  module _ (stands : plain nodes ≡ laid (root_tree opening.root) opening.nodes) where
    none_shown : slots_of nodes (claims_of (no_rights Each File)) ≡ maps.empty
    none_shown = ap (slots_of nodes) (mapped-empty _) ∙ mapped-empty _

    pub state_opened : state_of (opened opening nodes rights) ≡ opened_with opening
    state_opened = ap (λ now. state_of (opened opening nodes now)) none ∙ (λ i. record { opening = opening; tree = stands i; slots = none_shown i })

    safe_none : (d : Decisions) → 0 < d.versions → IsOpening d opening → Safe d (opened opening nodes (no_rights Each File))
    unfolding Safe
    safe_none d some is = record {
      step = step_none;
      clients = is.0;
      labels = known_nodes d nodes made.mirrored
          (subst (AreLabels d) (sym stands) (labels_laid d (root_tree opening.root) opening.nodes (labels_root d opening.root is.1) is.2));
      rights = fit_none d Each File some;
    }

    pub safe_opened : (d : Decisions) → 0 < d.versions → IsOpening d opening → Safe d (opened opening nodes rights)
    safe_opened d some is = subst (λ now. Safe d (opened opening nodes now)) (sym none) (safe_none d some is)

pub follows_opened : (opening : FileOpening) (nodes : Nodes) (rights : Rights) → rights ≡ no_rights Each File → follows (opened opening nodes rights) ≡ maps.empty
follows_opened opening nodes rights none = ap (λ now. follows (opened opening nodes now)) none ∙ mapped-empty _
