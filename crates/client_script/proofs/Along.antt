-- A script goes on by what a line does at a manager.
use Rattle.std.proofs.Common.{◌≡◌, ℕ, ◌≤◌, ◌<◌, ◌∙◌, ◌⊎◌, inl, inr, List, [], ◌∷◌, ◌++◌, length, Option, Some, None, unwrap_or, refl, sym, ap, subst, arith, append_assoc}
use Rattle.std.proofs.lemmas.List.{append-nil}
use Rattle.manager_history.specs.declared.entry.Entry.{Entry}
use Rattle.session_text.specs.declared.session.Run.{Run}
use Rattle.session_text.specs.declared.session.RunLine.{RunLine}
use Rattle.client_acts.specs.Acts.{Act, Take, Give, Do, Leads, MayHave, IsEntryOf}
use Rattle.client_script.specs.Scripts.{acts_by, IsWhole, IsFrontOf}
use Rattle.client_acts.specs.Standings.{Standing}
use Rattle.client_acts.specs.Moves.{HasCalled, HasCalledNone, HasTaken, HasGiven, HasMoved}
use Rattle.client_script.specs.Underway.{IsAlong}

-- the number under which a client goes on is no older than its last entry
not_older : (held : Option ℕ) (last newest number : ℕ) → last ≤ newest → ((number : ℕ) → held ≡ Some number → last ≤ number) → MayHave held newest number → last ≤ number
not_older None last newest number below above may = omega (arith, below, may)
not_older (Some held) last newest number below above may =
    let least = above held refl in
    omega (arith, least, may)

-- a call may have the number of the pass that is held, and else one that is no older than the last entry
may_have : (held : Option ℕ) (last newest number : ℕ) → last ≤ newest → MayHave held newest number → MayHave held last number
may_have None last newest number below may = omega (arith, below, may)
may_have (Some held) last newest number below may = may

-- a number under which a client goes on is that of the pass that it holds
held_is : (held : Option ℕ) (newest number other : ℕ) → MayHave held newest number → held ≡ Some other → number ≤ other
held_is None newest number other may is = absurd cc
held_is (Some held) newest number other may is = omega (arith, may, ap (λ (o : Option ℕ). unwrap_or o 0) is)

none_held : (held : Option ℕ) (number last : ℕ) → held ≡ None → held ≡ Some number → last ≤ number
none_held held number last none is = absurd cc

module _ {Call : Type 0} (act : ℕ → Run → List (Act Call)) (all : List RunLine) where
  -- one act more is done
  done_more : (done : List (Act Call)) (one : Act Call) (left : List (Act Call)) → acts_by act all ≡ done ++ (one ∷ left) → acts_by act all ≡ (done ++ one ∷ []) ++ left
  done_more done one left split = split ∙ sym (append_assoc done (one ∷ []) left)

  -- the acts of a line stand before those of the lines that are left
  of_line : (done acts : List (Act Call)) (line : RunLine) (left : List RunLine) → acts_by act all ≡ done ++ acts_by act (line ∷ left) → act line.line line.run ≡ acts
      → acts_by act all ≡ done ++ (acts ++ acts_by act left)
  of_line done acts line left split is = subst (λ (own : List (Act Call)). acts_by act all ≡ done ++ (own ++ acts_by act left)) is split

module _ {Call Reply : Type 0} (act : ℕ → Run → List (Act Call)) (client : ℕ) (all : List RunLine) where
  module _ (line : RunLine) (left : List RunLine) (s t : Standing Call Reply) (along : IsAlong act client all (line ∷ left) s) where
    -- nothing to do
    along_none : act line.line line.run ≡ [] → t ≡ s → IsAlong act client all left t
    along_none none same =
        subst (IsAlong act client all left) (sym same) (record {
          client_is = along.client_is;
          room = omega (arith, along.room);
          last = along.last;
          below = along.below;
          above = along.above;
          done = along.done;
          split = of_line act all along.done [] line left along.split none;
          leads = along.leads;
        })

    -- a pass is held
    along_taken : act line.line line.run ≡ Take ∷ [] → HasTaken s t → IsAlong act client all left t
    along_taken is taken =
        let least : along.last ≤ taken.number = not_older s.held along.last s.newest taken.number along.below along.above taken.may in
        record {
          client_is = taken.on.client ∙ along.client_is;
          room = omega (arith, along.room, taken.on.room);
          last = along.last;
          below = omega (arith, along.below, taken.on.newest);
          above = λ number has. omega (arith, least, ap (λ (o : Option ℕ). unwrap_or o 0) (sym taken.held ∙ has));
          done = along.done ++ Take ∷ [];
          split = done_more act all along.done Take (acts_by act left) (of_line act all along.done (Take ∷ []) line left along.split is);
          leads = λ acts entries leads.
              subst (λ (mine : List (Entry Call Reply)). Leads client None 0 ((along.done ++ Take ∷ []) ++ acts) (mine ++ entries)) (sym taken.none)
              (subst (λ (acts : List (Act Call)). Leads client None 0 acts (s.mine ++ entries)) (sym (append_assoc along.done (Take ∷ []) acts))
              (along.leads (Take ∷ acts) entries
              (taken.number, least, subst (λ (held : Option ℕ). Leads client held along.last acts entries) taken.held leads)));
        }

    -- no pass is held
    along_given : act line.line line.run ≡ Give ∷ [] → HasGiven s t → IsAlong act client all left t
    along_given is given =
        record {
          client_is = given.client ∙ along.client_is;
          room = omega (arith, along.room, given.room);
          last = along.last;
          below = omega (arith, along.below, given.newest);
          above = λ number has. none_held t.held number along.last given.held has;
          done = along.done ++ Give ∷ [];
          split = done_more act all along.done Give (acts_by act left) (of_line act all along.done (Give ∷ []) line left along.split is);
          leads = λ acts entries leads.
              subst (λ (mine : List (Entry Call Reply)). Leads client None 0 ((along.done ++ Give ∷ []) ++ acts) (mine ++ entries)) (sym given.none)
              (subst (λ (acts : List (Act Call)). Leads client None 0 acts (s.mine ++ entries)) (sym (append_assoc along.done (Give ∷ []) acts))
              (along.leads (Give ∷ acts) entries (subst (λ (held : Option ℕ). Leads client held along.last acts entries) given.held leads)));
        }

    -- a call was done or aborted
    along_called : (mark : ℕ) (call : Call) → act line.line line.run ≡ Do mark call ∷ [] → HasCalled mark call s t → IsAlong act client all left t
    along_called mark call is called =
        record {
          client_is = called.on.client ∙ along.client_is;
          room = omega (arith, along.room, called.on.room);
          last = called.number;
          below = called.noticed;
          above = λ number has. held_is s.held s.newest called.number number called.may (sym called.held ∙ has);
          done = along.done ++ Do mark call ∷ [];
          split = done_more act all along.done (Do mark call) (acts_by act left) (of_line act all along.done (Do mark call ∷ []) line left along.split is);
          leads = λ acts entries leads.
              subst (λ (mine : List (Entry Call Reply)). Leads client None 0 ((along.done ++ Do mark call ∷ []) ++ acts) (mine ++ entries)) (sym called.added)
              (subst (λ (own : List (Entry Call Reply)). Leads client None 0 ((along.done ++ Do mark call ∷ []) ++ acts) own) (sym (append_assoc s.mine (called.entry ∷ []) entries))
              (subst (λ (acts : List (Act Call)). Leads client None 0 acts (s.mine ++ called.entry ∷ entries)) (sym (append_assoc along.done (Do mark call ∷ []) acts))
              (along.leads (Do mark call ∷ acts) (called.entry ∷ entries) (
                called.number,
                may_have s.held along.last s.newest called.number along.below called.may,
                subst (λ (n : ℕ). IsEntryOf n mark call called.number called.entry) along.client_is called.is,
                subst (λ (held : Option ℕ). Leads client held called.number acts entries) called.held leads,
              ))));
        }

    -- what the line does there was done
    pub along_line : (acts : List (Act Call)) → act line.line line.run ≡ acts → HasMoved acts s t → IsAlong act client all left t
    along_line [] is moved = along_none is moved
    along_line (Take ∷ []) is moved = along_taken is moved
    along_line (Give ∷ []) is moved = along_given is moved
    along_line (Do mark call ∷ []) is moved = along_called mark call is moved
    along_line (one ∷ next ∷ acts) is moved = absurd moved

  -- before the first line
  pub along_first : (s : Standing Call Reply) → s.client ≡ client → s.held ≡ None → s.mine ≡ [] → length all < s.room → IsAlong act client all all s
  along_first s is held none room =
      record {
        client_is = is;
        room = room;
        last = 0;
        below = omega arith;
        above = λ number has. omega arith;
        done = [];
        split = refl;
        leads = λ acts entries leads.
            subst (λ (mine : List (Entry Call Reply)). Leads client None 0 acts (mine ++ entries)) (sym none)
            (subst (λ (held : Option ℕ). Leads client held 0 acts entries) held leads);
      }

  -- the entries so far are those of what was done
  front_of : (left : List RunLine) (s : Standing Call Reply) (along : IsAlong act client all left s) → Leads client None 0 along.done s.mine
  front_of left s along =
      subst (λ (acts : List (Act Call)). Leads client None 0 acts s.mine) (append-nil along.done)
      (subst (λ (mine : List (Entry Call Reply)). Leads client None 0 (along.done ++ []) mine) (append-nil s.mine) (along.leads [] [] refl))

  -- behind the last line the whole script is done
  pub along_last : (s : Standing Call Reply) → IsAlong act client all [] s → IsWhole act client all s.mine
  along_last s along =
      subst (λ (acts : List (Act Call)). Leads client None 0 acts s.mine) (sym (along.split ∙ append-nil along.done)) (front_of [] s along)

  -- after a line that was given up the entries are those of a front
  pub along_front : (left : List RunLine) (s t : Standing Call Reply) → IsAlong act client all left s → HasCalledNone s t → IsFrontOf act client all t.mine
  along_front left s t along none =
      record {
        front = along.done;
        rest = acts_by act left;
        split = along.split;
        leads = subst (λ (mine : List (Entry Call Reply)). Leads client None 0 along.done mine) (sym none.none) (front_of left s along);
      }

  -- what was done so far is a front
  pub along_so_far : (left : List RunLine) (s : Standing Call Reply) → IsAlong act client all left s → IsFrontOf act client all s.mine
  along_so_far left s along = along_front left s s along (record { client = refl; held = refl; none = refl })

  -- and so it is after a line that wanted memory
  pub along_stopped : (line : RunLine) (left : List RunLine) (s t : Standing Call Reply) → IsAlong act client all (line ∷ left) s → HasCalledNone s t ⊎ HasMoved (act line.line line.run) s t
      → (t.client ≡ client) × IsFrontOf act client all t.mine
  along_stopped line left s t along (inl none) = (none.client ∙ along.client_is, along_front (line ∷ left) s t along none)
  along_stopped line left s t along (inr moved) =
      let behind = along_line line left s t along (act line.line line.run) refl moved in (behind.client_is, along_so_far left t behind)
