-- What the acts of a client change of where it stands at a manager.
use Rattle.std.specs.Prelude.{◌≡◌, ℕ, ◌≤◌, ◌+◌, List, [], ◌∷◌, ◌++◌, Some, None}
use Rattle.manager_history.specs.declared.entry.Entry.{Entry}
use Rattle.client_acts.specs.Acts.{Act, Take, Give, Do, IsEntryOf, MayHave}
use Rattle.client_acts.specs.Standings.{Standing}

module _ {Call Reply : Type 0} where
  -- the client is the same, it has seen no less, and it entered once at most
  pub record GoesOn (s t : Standing Call Reply) : Type 0 where
    pub client : t.client ≡ s.client
    pub newest : s.newest ≤ t.newest
    pub room : s.room ≤ t.room + 1

  -- a call was done or aborted, under the pass that is held or else one that is not below the last notice seen before; its number is
  -- not above the last notice seen then; and its entry is the only new one
  pub record HasCalled (mark : ℕ) (call : Call) (s t : Standing Call Reply) : Type 0 where
    pub on : GoesOn s t
    pub held : t.held ≡ s.held
    pub number : ℕ
    pub may : MayHave s.held s.newest number
    pub noticed : number ≤ t.newest
    pub entry : Entry Call Reply
    pub is : IsEntryOf s.client mark call number entry
    pub added : t.mine ≡ s.mine ++ entry ∷ []

  -- a call was given up for want of memory: there is no new entry
  pub record HasCalledNone (s t : Standing Call Reply) : Type 0 where
    pub client : t.client ≡ s.client
    pub held : t.held ≡ s.held
    pub none : t.mine ≡ s.mine

  -- the client holds a pass: the one that it held, or one that is not below the last notice seen before
  pub record HasTaken (s t : Standing Call Reply) : Type 0 where
    pub on : GoesOn s t
    pub number : ℕ
    pub held : t.held ≡ Some number
    pub may : MayHave s.held s.newest number
    pub none : t.mine ≡ s.mine

  -- the client holds no pass
  pub record HasGiven (s t : Standing Call Reply) : Type 0 where
    pub client : t.client ≡ s.client
    pub newest : s.newest ≤ t.newest
    pub room : s.room ≤ t.room
    pub held : t.held ≡ None
    pub none : t.mine ≡ s.mine

  -- an act was done
  abbrev pub HasActed : Act Call → Standing Call Reply → Standing Call Reply → Type 0
  HasActed Take s t = HasTaken s t
  HasActed Give s t = HasGiven s t
  HasActed (Do mark call) s t = HasCalled mark call s t

  -- at most one act was done
  abbrev pub HasMoved : List (Act Call) → Standing Call Reply → Standing Call Reply → Type 0
  HasMoved [] s t = t ≡ s
  HasMoved (act ∷ []) s t = HasActed act s t
  HasMoved (act ∷ next ∷ acts) s t = ⊥
