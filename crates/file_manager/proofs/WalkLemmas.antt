-- Walks along several names, name by name.
use Rattle.std.proofs.Common.{◌≡◌, ℕ, Bool, true, false, List, [], ◌∷◌, ◌++◌, length, Option, None, Some, is_some, Result, Ok, Err, refl, sym, ap, subst, ◌∙◌}
use Rattle.std.proofs.lemmas.List.{append-nil}
use Rattle.std.specs.Prelude.{if◌then◌else◌}
use Rattle.std.specs.FinMap as maps
use Rattle.access_vectors.specs.Perms.{dir_search}
use Rattle.access_vectors.specs.declared.asked.Asked.{Asked}
use Rattle.access_vectors.specs.declared.asker.Asker.{Ghosts}
use Rattle.flask_sid.specs.declared.memory.Memory.{Memory}
use Rattle.mode_questions.specs.Requests.{Request, question_of}
use Rattle.mode_questions.specs.Operations.{request_by, request, IsSameOperation, HasAsked}
use Rattle.mode_questions.specs.declared.operation.Caller.{Caller}
use Rattle.mode_questions.specs.declared.operation.Operation.{Operation}
use Rattle.mode_questions.proofs.Asks.{same_more, asked_more}
use Rattle.file_tree.specs.Nodes.{Nodes, step_from, path_in}
use Rattle.file_tree.specs.PlainTree.{PlainTree, Item, plain}
use Rattle.file_tree.specs.declared.step.Step.{Step}
use Rattle.file_calls.specs.Walks.{Walk, entry_key, then_walking, looked_into, walked_from}
use Rattle.file_calls.specs.declared.call.FileReply.{FileReply}
use Rattle.file_calls.specs.declared.call.FileReply.TheVariants as reply
use Rattle.file_manager.specs.declared.walks.Spot.{Spot}
use Rattle.file_manager.specs.declared.walks.Below.{Below}
use Rattle.file_manager.specs.declared.walks.Below.TheVariants as below
use Rattle.file_manager.specs.declared.walks.Stop.{Stop}
use Rattle.file_manager.specs.declared.walks.Stop.TheVariants as stop
use Rattle.file_store.specs.Stores.{StoreView}
use Rattle.file_manager.specs.Serving.{MayServe}
use Rattle.file_manager.specs.Walking.{IsBelow, ComesBelow, said_of, last_name, name_of, walk_on}

-- a walk, and the rest where nothing stopped it
abbrev gone_on : Walk → Walk → Option FileReply → Walk
gone_on one rest (Some said) = record { stop = Some said; at = one.at; above = one.above; asked = one.asked }
gone_on one rest None = record { stop = rest.stop; at = rest.at; above = rest.above; asked = one.asked ++ rest.asked }

looked_more : (r : Request) (above : ℕ) (here : List Step) (item : Option Item) (entry : ℕ → List Step) (next : ℕ → List Step → Walk)
    → let one = looked_into r above here item (λ label. record { stop = None; at = entry label; above = label; asked = [] }) in
    looked_into r above here item (λ label. next label (entry label)) ≡ gone_on one (next one.above one.at) one.stop
looked_more r above here None entry next = refl
looked_more r above here (Some item) entry next =
    elim item.bytes as (λ (bytes : Option (List ℕ)).
    let here_is : Item = record { label = item.label; bytes = bytes } in
    let one = looked_into r above here (Some here_is) (λ label. record { stop = None; at = entry label; above = label; asked = [] }) in
    looked_into r above here (Some here_is) (λ label. next label (entry label)) ≡ gone_on one (next one.above one.at) one.stop) [
      | Some bytes ↦ refl
      | None ↦ searched item.label
    ]
  where
    searched : (label : ℕ)
        → let one = then_walking r here above label (record { stop = None; at = entry label; above = label; asked = [] }) in
        then_walking r here above label (next label (entry label)) ≡ gone_on one (next one.above one.at) one.stop
    searched label =
        let q = question_of r label dir_search in
        let rest = next label (entry label) in
        elim q.yes as (λ (b : Bool).
        let one : Walk = if b then record { stop = None; at = entry label; above = label; asked = q ∷ [] }
        else record { stop = Some (reply.Denied dir_search r.number); at = here; above = above; asked = q ∷ [] } in
        ◌≡◌ {A = Walk} (if b then record { stop = rest.stop; at = rest.at; above = rest.above; asked = q ∷ rest.asked }
        else record { stop = Some (reply.Denied dir_search r.number); at = here; above = above; asked = q ∷ [] })
        (gone_on one (next one.above one.at) one.stop)) [ true ↦ refl | false ↦ refl ]

-- a walk along a name and others is one along the name, and one along the others from where it came
walked_more : (r : Request) (tree : PlainTree) (above : ℕ) (here : List Step) (name : List ℕ) (names : List (List ℕ))
    → let one = walked_from r tree above here (name ∷ []) in
    walked_from r tree above here (name ∷ names) ≡ gone_on one (walked_from r tree one.above one.at names) one.stop
walked_more r tree above here name names =
    looked_more r above here (maps.get tree here) (λ label. step_from here (entry_key r label) name)
    (λ label at. walked_from r tree label at names)

-- where a name stopped the walk
more_stopped : (r : Request) (tree : PlainTree) (above : ℕ) (here : List Step) (name : List ℕ) (names : List (List ℕ)) (said : FileReply)
    → let one = walked_from r tree above here (name ∷ []) in
    one.stop ≡ Some said → walked_from r tree above here (name ∷ names) ≡ record { stop = Some said; at = one.at; above = one.above; asked = one.asked }
more_stopped r tree above here name names said stopped =
    let one = walked_from r tree above here (name ∷ []) in
    walked_more r tree above here name names
    ∙ ap (gone_on one (walked_from r tree one.above one.at names)) stopped

-- where nothing did
more_through : (r : Request) (tree : PlainTree) (above : ℕ) (here : List Step) (name : List ℕ) (names : List (List ℕ))
    → let one = walked_from r tree above here (name ∷ []) in
    let rest = walked_from r tree one.above one.at names in
    one.stop ≡ None → walked_from r tree above here (name ∷ names)
    ≡ record { stop = rest.stop; at = rest.at; above = rest.above; asked = one.asked ++ rest.asked }
more_through r tree above here name names through =
    let one = walked_from r tree above here (name ∷ []) in
    walked_more r tree above here name names
    ∙ ap (gone_on one (walked_from r tree one.above one.at names)) through

-- where nothing did, and nothing stands where it came
more_missing : (r : Request) (tree : PlainTree) (above : ℕ) (here : List Step) (name next : List ℕ) (names : List (List ℕ))
    → let one = walked_from r tree above here (name ∷ []) in
    one.stop ≡ None → maps.get tree one.at ≡ None → walked_from r tree above here (name ∷ next ∷ names)
    ≡ record { stop = Some reply.NotFound; at = one.at; above = one.above; asked = one.asked }
more_missing r tree above here name next names through missing =
    let one = walked_from r tree above here (name ∷ []) in
    let going = λ (label : ℕ). walked_from r tree label (step_from one.at (entry_key r label) next) names in
    more_through r tree above here name (next ∷ names) through
    ∙ ap (λ (item : Option Item). gone_on one (looked_into r one.above one.at item going) None) missing
    ∙ ap (λ (asked : List Asked). record { stop = Some reply.NotFound; at = one.at; above = one.above; asked = asked }) (append-nil one.asked)

-- what is told of a walk is told of one that ends there, with other questions
ends_alike : (nodes : Nodes) (rest : Walk) (asked : List Asked) (name : List ℕ) (told : Below)
    → IsBelow nodes rest name told → IsBelow nodes (record { stop = rest.stop; at = rest.at; above = rest.above; asked = asked }) name told
ends_alike nodes rest asked name (below.Stopped said) is = is
ends_alike nodes rest asked name (below.Missing spot) is =
    record { through = is.through; item = is.item; above = is.above; at = is.at; free = is.free }
ends_alike nodes rest asked name (below.Found directory object) is =
    record {
      found = record { through = is.found.through; there = is.found.there; at = is.found.at; item = is.found.item };
      above = is.above;
      entry = is.entry;
    }

told_more : (nodes : Nodes) (walk rest : Walk) (asked : List Asked) (name : List ℕ) (told : Below)
    → walk ≡ record { stop = rest.stop; at = rest.at; above = rest.above; asked = asked }
    → IsBelow nodes rest name told → IsBelow nodes walk name told
told_more nodes walk rest asked name told same is =
    subst (λ (w : Walk). IsBelow nodes w name told) (sym same) (ends_alike nodes rest asked name told is)

-- files may serve an operation further
pub may_still : {A : Type 0} {g : Ghosts A} (before after : Operation A g) (shown : StoreView) → IsSameOperation before after → MayServe shown (request before) → MayServe shown (request after)
may_still {A = A} {g = g} before after shown same may = subst (λ (caller : Caller A). MayServe shown (request_by g caller)) (sym same.caller) may

-- for the operations of one asker, whose relation of sameness is transitive
module _ {A : Type 0} {g : Ghosts A} (transitive : (a b c : A) → g.same a b → g.same b c → g.same a c) where
  -- an operation that has walked along some names from a numbered node, a first one and those behind it
  abbrev Comes : Result Below Memory → Nodes → Operation A g → Operation A g → ℕ → ℕ → List ℕ → List (List ℕ) → Type 0
  Comes result nodes before after above from name names =
      ComesBelow result nodes before after (walk_on (request before) nodes above from name names) (last_name name names)

  -- no names are left
  pub none_left : (nodes : Nodes) (before after : Operation A g) (above from : ℕ) (name : List ℕ) (names : List (List ℕ)) (told : Below)
      → length names ≡ 0 → Comes (Ok told) nodes before after above from name [] → Comes (Ok told) nodes before after above from name names
  none_left nodes before after above from name [] told none is = is
  none_left nodes before after above from name (other ∷ names) told none is = cc

  -- a name stopped the walk
  pub stopped_on : (nodes : Nodes) (before after : Operation A g) (above from : ℕ) (name : List ℕ) (names : List (List ℕ)) (told : Below) (stop : Stop)
      → told ≡ below.Stopped stop → Comes (Ok told) nodes before after above from name []
      → Comes (Ok (below.Stopped stop)) nodes before after above from name names
  unfolding walk_on
  stopped_on nodes before after above from name names told stop told_is is =
      let r = request before in
      let one = walk_on r nodes above from name [] in
      let stopped = subst (IsBelow nodes one name) told_is is.0 in
      let same = more_stopped r (plain nodes) above (path_in nodes from) name names (said_of stop) stopped in
      (ap (λ (w : Walk). w.stop) same, subst (HasAsked before after) (sym (ap (λ (w : Walk). w.asked) same)) is.1)

  -- the walk came to nothing before its last name
  pub missing_on : (nodes : Nodes) (before after : Operation A g) (above from : ℕ) (name next : List ℕ) (names behind : List (List ℕ)) (told : Below) (spot : Spot)
      → names ≡ next ∷ behind → told ≡ below.Missing spot → Comes (Ok told) nodes before after above from name []
      → Comes (Ok (below.Stopped stop.NotFound)) nodes before after above from name names
  unfolding walk_on
  missing_on nodes before after above from name next names behind told spot names_are told_is is =
      let r = request before in
      let one = walk_on r nodes above from name [] in
      let missing = subst (IsBelow nodes one name) told_is is.0 in
      let same = ap (λ (ns : List (List ℕ)). walk_on r nodes above from name ns) names_are
      ∙ more_missing r (plain nodes) above (path_in nodes from) name next behind missing.through missing.item in
      (ap (λ (w : Walk). w.stop) same, subst (HasAsked before after) (sym (ap (λ (w : Walk). w.asked) same)) is.1)

  -- the node that was found is there
  pub found_there : (nodes : Nodes) (before after : Operation A g) (above from directory object : ℕ) (name : List ℕ) (told : Below)
      → told ≡ below.Found directory object → Comes (Ok told) nodes before after above from name [] → is_some (maps.get nodes object) ≡ true
  found_there nodes before after above from directory object name told told_is is =
      (subst (IsBelow nodes (walk_on (request before) nodes above from name []) name) told_is is.0).found.there

  -- the walk goes on from a node
  pub found_on : (nodes : Nodes) (before middle after : Operation A g) (above from directory object : ℕ) (name next : List ℕ) (names behind : List (List ℕ)) (told : Below)
      (result : Result Below Memory)
      → names ≡ next ∷ behind → told ≡ below.Found directory object → Comes (Ok told) nodes before middle above from name []
      → Comes result nodes middle after (walk_on (request before) nodes above from name []).above object next behind
      → Comes result nodes before after above from name names
  unfolding walk_on
  found_on nodes before middle after above from directory object name next names behind told (Err memory) names_are told_is first rest =
      same_more transitive before middle after first.1.same rest
  found_on nodes before middle after above from directory object name next names behind told (Ok at) names_are told_is first rest =
      let r = request before in
      let one = walk_on r nodes above from name [] in
      let found = (subst (IsBelow nodes one name) told_is first.0).found in
      let further = walk_on (request middle) nodes one.above object next behind in
      let ended = λ (rest : Walk). let walk : Walk = record { stop = rest.stop; at = rest.at; above = rest.above; asked = one.asked ++ rest.asked } in walk in
      let same : walk_on r nodes above from name names ≡ ended further =
      ap (λ (ns : List (List ℕ)). walk_on r nodes above from name ns) names_are
      ∙ more_through r (plain nodes) above (path_in nodes from) name (next ∷ behind) found.through
      ∙ ap (λ (at : List Step). ended (walked_from r (plain nodes) one.above at (next ∷ behind))) (sym found.at)
      ∙ ap (λ (caller : Caller A). ended (walk_on (request_by g caller) nodes one.above object next behind)) (sym first.1.same.caller) in (
        subst (λ (ns : List (List ℕ)). IsBelow nodes (walk_on r nodes above from name names) (last_name name ns) at) (sym names_are)
            (told_more nodes (walk_on r nodes above from name names) further (one.asked ++ further.asked) (last_name next behind) at same rest.0),
        subst (HasAsked before after) (sym (ap (λ (w : Walk). w.asked) same)) (asked_more transitive before middle after one.asked further.asked first.1 rest.1),
      )

  -- a walk along a path is one along its names from the root
  pub on_path : (nodes : Nodes) (before after : Operation A g) (root : ℕ) (name : List ℕ) (names path : List (List ℕ)) (result : Result Below Memory)
      → path ≡ name ∷ names → root ≡ 0 → path_in nodes 0 ≡ [] → Comes result nodes before after 0 root name names
      → ComesBelow result nodes before after (walked_from (request before) (plain nodes) 0 [] path) (name_of path)
  unfolding walk_on
  on_path nodes before after root name names path (Err memory) path_is root_is top is = is
  on_path nodes before after root name names path (Ok told) path_is root_is top is =
      let r = request before in
      let same : walk_on r nodes 0 root name names ≡ walked_from r (plain nodes) 0 [] path =
      ap (λ (at : List Step). walked_from r (plain nodes) 0 at (name ∷ names)) (ap (path_in nodes) root_is ∙ top)
      ∙ ap (walked_from r (plain nodes) 0 []) (sym path_is) in (
        subst (λ (ns : List (List ℕ)). IsBelow nodes (walked_from r (plain nodes) 0 [] path) (name_of ns) told) (sym path_is)
            (subst (λ (w : Walk). IsBelow nodes w (last_name name names) told) same is.0),
        subst (HasAsked before after) (ap (λ (w : Walk). w.asked) same) is.1,
      )
