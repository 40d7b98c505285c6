-- What a session declares, by its indexes.
use Rattle.std.proofs.Common.{◌<◌, ◌≤◌, ltb, length, get_or, ◌≡◌, ◌∙◌, ◌⊎◌, inl, inr, arith, ℕ, zero, suc, Bool, true, false, List, [], ◌∷◌, ◌++◌, None, Some, Option, refl, sym, ap}
use Rattle.std.specs.Prelude.{◌&&◌, ◌||◌, ◌==◌, not, is_some, map, slice_get, option_and_then}
use Rattle.std.specs.List.{list_any, position, position_or_len}
use Rattle.std.proofs.lemmas.Bool.{lt-ltb, ne_eqb}
use Rattle.std.proofs.lemmas.List.{length-map}
use Rattle.std.proofs.lemmas.List.Quantifiers.{position-Some}
use Rattle.std.specs.Str.{bytes_eq}
use Rattle.std.proofs.lemmas.Cmp.{nat_list_eq_equiv}
use Rattle.std.proofs.lemmas.Bool.Decides.{nat_tests}
use Rattle.std.proofs.lemmas.Slice.Eq.{bytes_eq-Decides, slice_eq-Decides}
use Rattle.std.proofs.lemmas.List.Folds.{list_any-append}
use Rattle.flask_sid.specs.declared.context.ContextOf.{ContextOf}
use Rattle.policy_model.specs.declared.policy.ContextLine.{ContextLine}
use Rattle.policy_model.specs.Declarations.{same_context}
use Rattle.policy_model.specs.Kept.{Grows}
use Rattle.policy_text.specs.Above.{contexts_in}
use Rattle.file_tree.specs.Nodes.{is_directory_node}
use Rattle.file_calls.specs.Paths.{same_path}
use Rattle.file_calls.specs.Openings.{has_node, has_directory, parent_of, is_parent_there}
use Rattle.file_calls.specs.declared.opening.Node.{Node}
use Rattle.session_text.specs.declared.session.ClientLine.{ClientLine}
use Rattle.session_text.specs.Above.{sid_at, context_sid, client_number, has_client}
use Rattle.session_text.specs.Indexed.{names_of, paths_of}
use Rattle.session_forms.specs.Arguments.{is_root}
use Rattle.session_text.specs.Grammar.{is_taken}
use Rattle.session_text.specs.Sessions.{MayNode}
use Rattle.session_forms.proofs.PathLemmas.{place_of}
use Rattle.session_text.proofs.LimitLemmas.{neither}

-- a test of what each member has
any_of : {X Y : Type 0} (of : X → Y) (test : Y → Bool) (xs : List X) → list_any test (map of xs) ≡ list_any (λ x. test (of x)) xs
any_of of test [] = refl
any_of of test (x ∷ xs) = ap (λ b. test (of x) || b) (any_of of test xs)

-- a declared context by the index of contexts
pub context_placed : (lines : List ContextLine) (index : List (ContextOf (List ℕ))) (context : ContextOf (List ℕ)) → index ≡ contexts_in lines → option_and_then sid_at (position (λ kept. same_context kept context) index) ≡ context_sid lines context
unfolding context_sid
context_placed lines index context is =
    rw (is, ← place_of (λ (line : ContextLine). line.context) (λ line. same_context line.context context) (λ kept. same_context kept context) (λ line. refl) lines) refl

-- a client by the index of clients
pub client_placed : (clients : List ClientLine) (index : List (List ℕ)) (name : List ℕ) → index ≡ names_of clients → position (bytes_eq name) index ≡ client_number clients name
unfolding client_number
client_placed clients index name is =
    rw is (sym (place_of (λ (client : ClientLine). client.name) (λ client. bytes_eq client.name name) (bytes_eq name) (λ client. nat_list_eq_equiv.symm client.name name) clients))

client_any : (clients : List ClientLine) (name : List ℕ) → list_any (bytes_eq name) (names_of clients) ≡ list_any (λ client. bytes_eq client.name name) clients
client_any [] name = refl
client_any (client ∷ clients) name = rw (nat_list_eq_equiv.symm name client.name, client_any clients name) refl

pub client_there : (clients : List ClientLine) (index : List (List ℕ)) (name : List ℕ) → index ≡ names_of clients → list_any (bytes_eq name) index ≡ has_client clients name
unfolding has_client
client_there clients index name is = rw is (client_any clients name)

-- a node by the index of nodes
pub node_there : (nodes : List Node) (index : List (List (List ℕ))) (path : List (List ℕ)) → index ≡ paths_of nodes → list_any (λ kept. same_path kept path) index ≡ has_node nodes path
unfolding has_node
node_there nodes index path is = rw is (any_of (λ (node : Node). node.path) (λ kept. same_path kept path) nodes)

-- two paths that are the same are one
one_path : (a b : List (List ℕ)) → same_path a b ≡ true → a ≡ b
one_path a b same = (slice_eq-Decides bytes_eq-Decides a b (same_path a b) refl).0 same

-- one member more, among those that pass
pub any_more : {X : Type 0} (p : X → Bool) (xs : List X) (x : X) → (list_any p xs ≡ true) ⊎ (p x ≡ true) → list_any p (xs ++ x ∷ []) ≡ true
any_more p xs x some = list_any-append p xs (x ∷ []) ∙ of_some some
  where
    of_some : (list_any p xs ≡ true) ⊎ (p x ≡ true) → (list_any p xs || (p x || false)) ≡ true
    of_some (inl h) = rw h refl
    of_some (inr h) = grind (arith, nat_tests, h)

-- below a node of that path there is no other
no_other : (contexts : List ContextLine) (seen nodes : List Node) (path : List (List ℕ)) → Grows (MayNode contexts) seen nodes → has_node seen path ≡ true → has_node nodes path ≡ false
unfolding has_node
no_other contexts seen [] path grown there = refl
no_other contexts seen (node ∷ nodes) path grown there = by_path (same_path node.path path) refl (no_other contexts (seen ++ node ∷ []) nodes path grown.1 (any_more (λ one. same_path one.path path) seen node (inl there)))
  where
    by_path : (b : Bool) → same_path node.path path ≡ b → list_any (λ one. same_path one.path path) nodes ≡ false → list_any (λ one. same_path one.path path) (node ∷ nodes) ≡ false
    by_path true same below =
        let free : list_any (λ one. same_path one.path node.path) seen ≡ false = grown.0.place.2 in
        let taken : list_any (λ one. same_path one.path path) seen ≡ false = rw (one_path node.path path same) at free in
        let never : true ≡ false = sym there ∙ taken in
        cc
    by_path false same below = rw (same, below) refl

-- where no node has a path, no directory has it
pub no_directory : (nodes : List Node) (path : List (List ℕ)) → has_node nodes path ≡ false → has_directory nodes path ≡ false
unfolding has_directory has_node
no_directory [] path none = refl
no_directory (node ∷ nodes) path none =
    let apart = neither (same_path node.path path) (list_any (λ one. same_path one.path path) nodes) none in
    rw (apart.0, no_directory nodes path apart.1) (grind (arith, nat_tests))

-- a node of that path is there
node_at : (nodes : List Node) (at : ℕ) (node : Node) (path : List (List ℕ)) → slice_get nodes at ≡ Some node → same_path node.path path ≡ true → has_node nodes path ≡ true
unfolding has_node
node_at [] at node path got same = cc
node_at (one ∷ nodes) zero node path got same = let is : one ≡ node = cc in rw (is, same) refl
node_at (one ∷ nodes) (suc at) node path got same = grind (arith, nat_tests, node_at nodes at node path got same)

-- the node of a path tells whether a directory has it
pub directory_told : (contexts : List ContextLine) (seen nodes : List Node) (path : List (List ℕ)) (at : ℕ) (node : Node) → Grows (MayNode contexts) seen nodes → slice_get nodes at ≡ Some node → same_path node.path path ≡ true → has_directory nodes path ≡ is_directory_node node.bytes
unfolding has_directory has_node
directory_told contexts seen [] path at node grown got same = cc
directory_told contexts seen (one ∷ nodes) path zero node grown got same =
    let is : one ≡ node = cc in
    let first : same_path one.path path ≡ true = rw is same in
    let others = no_directory nodes path (no_other contexts (seen ++ one ∷ []) nodes path grown.1 (any_more (λ other. same_path other.path path) seen one (inr first))) in
    rw (others, first, is) (grind (arith, nat_tests))
directory_told contexts seen (one ∷ nodes) path (suc at) node grown got same = by_path (same_path one.path path) refl (directory_told contexts (seen ++ one ∷ []) nodes path at node grown.1 got same)
  where
    by_path : (b : Bool) → same_path one.path path ≡ b → has_directory nodes path ≡ is_directory_node node.bytes → (is_directory_node one.bytes && same_path one.path path || has_directory nodes path) ≡ is_directory_node node.bytes
    by_path true first below =
        let none = no_other contexts (seen ++ one ∷ []) nodes path grown.1 (any_more (λ other. same_path other.path path) seen one (inr first)) in
        let never : true ≡ false = sym (node_at nodes at node path got same) ∙ none in
        cc
    by_path false first below = rw (first, below) (grind (arith, nat_tests))

-- how many stand before the first that passes, where one does
any_before : {X : Type 0} (p : X → Bool) (xs : List X) → list_any p xs ≡ true → position_or_len p xs < length xs
any_before p [] some = cc
any_before p (x ∷ xs) some = grind (arith, nat_tests, any_before p xs)

-- where there is no place, no member passes
none_there : {X : Type 0} (p : X → Bool) (xs : List X) → position p xs ≡ None → list_any p xs ≡ false
none_there p xs none = by_any (list_any p xs) refl
  where
    by_any : (b : Bool) → list_any p xs ≡ b → list_any p xs ≡ false
    by_any true is =
        let within : ltb (position_or_len p xs) (length xs) ≡ true = lt-ltb _ _ (any_before p xs is) in
        let placed : position p xs ≡ Some (position_or_len p xs) = rw within refl in
        cc
    by_any false is = is

-- a path without a place is no directory's
pub directory_nowhere : (nodes : List Node) (index : List (List (List ℕ))) (path : List (List ℕ)) → index ≡ paths_of nodes → position (λ kept. same_path kept path) index ≡ None → has_directory nodes path ≡ false
directory_nowhere nodes index path is none =
    no_directory nodes path (sym (node_there nodes index path is) ∙ none_there (λ kept. same_path kept path) index none)

-- a place below the length has a member
got_some : (nodes : List Node) (at : ℕ) → at < length nodes → slice_get nodes at ≡ None → ⊥
got_some [] at within none = omega (arith, within)
got_some (node ∷ nodes) zero within none = cc
got_some (node ∷ nodes) (suc at) within none = got_some nodes at (omega (arith, within)) none

-- the path at a place is that of the node at that place
got_path : (nodes : List Node) (at : ℕ) (node : Node) (d : List (List ℕ)) → slice_get nodes at ≡ Some node → get_or (paths_of nodes) at d ≡ node.path
got_path [] at node d got = cc
got_path (one ∷ nodes) zero node d got = let is : one ≡ node = cc in ap (λ (n : Node). n.path) is
got_path (one ∷ nodes) (suc at) node d got = got_path nodes at node d got

-- a path's place is below the number of nodes
placed_within : (nodes : List Node) (index : List (List (List ℕ))) (path : List (List ℕ)) (at : ℕ) → index ≡ paths_of nodes → position (λ kept. same_path kept path) index ≡ Some at → at < length nodes
placed_within nodes index path at is placed =
    let within = (position-Some (λ kept. same_path kept path) index at [] placed).0 in
    let size : length index ≡ length nodes = ap length is ∙ length-map nodes (λ (node : Node). node.path) in
    omega (arith, within, size)

-- a path's place always has a node
pub directory_lost : (nodes : List Node) (index : List (List (List ℕ))) (path : List (List ℕ)) (at : ℕ) → index ≡ paths_of nodes → position (λ kept. same_path kept path) index ≡ Some at → slice_get nodes at ≡ None → has_directory nodes path ≡ false
directory_lost nodes index path at is placed none = absurd (got_some nodes at (placed_within nodes index path at is placed) none)

-- the node at a path's place tells whether a directory has it
pub directory_found : (contexts : List ContextLine) (nodes : List Node) (index : List (List (List ℕ))) (path : List (List ℕ)) (at : ℕ) (node : Node) → Grows (MayNode contexts) [] nodes → index ≡ paths_of nodes → position (λ kept. same_path kept path) index ≡ Some at → slice_get nodes at ≡ Some node → has_directory nodes path ≡ is_directory_node node.bytes
directory_found contexts nodes index path at node grown is placed got =
    let passes : same_path (get_or index at []) path ≡ true = (position-Some (λ kept. same_path kept path) index at [] placed).1 in
    let path_is : get_or index at [] ≡ node.path = ap (λ paths. get_or paths at []) is ∙ got_path nodes at node [] got in
    directory_told contexts [] nodes path at node grown got (rw path_is at passes)

-- the root is the path of no part
pub root_length : (path : List (List ℕ)) → is_root path ≡ (length path == 0)
root_length [] = refl
root_length (part ∷ path) = sym (ne_eqb (length (part ∷ path)) 0 (λ none. absurd (omega (arith, none))))

-- a free path is that of neither the root nor a node
pub taken_told : (nodes : List Node) (index : List (List (List ℕ))) (path : List (List ℕ)) → index ≡ paths_of nodes → (is_root path || list_any (λ kept. same_path kept path) index) ≡ is_taken nodes path
unfolding is_taken
taken_told nodes index path is = rw (root_length path, node_there nodes index path is) refl

-- the directory above a path is the root or one of the nodes
pub parent_told : (nodes : List Node) (path : List (List ℕ)) → (is_root (parent_of path) || has_directory nodes (parent_of path)) ≡ is_parent_there nodes path
unfolding is_parent_there
parent_told nodes path = rw (root_length (parent_of path)) refl

-- without bytes a node is a directory
pub none_told : (none : Bool) (bytes : Option (List ℕ)) → is_some bytes ≡ not none → none ≡ is_directory_node bytes
none_told true None is = refl
none_told false None is = cc
none_told true (Some bytes) is = cc
none_told false (Some bytes) is = refl

-- an index of few clients is short
pub names_few : (clients : List ClientLine) (index : List (List ℕ)) → index ≡ names_of clients → length clients ≤ 62 → length index ≤ 62
names_few clients index is few =
    let size : length index ≡ length clients = ap length is ∙ length-map clients (λ (client : ClientLine). client.name) in
    omega (arith, size)
