-- What a seat knows after each kind of step, as a function of what it knew and of the word that the step found.
use Rattle.std.specs.Prelude.{ℕ, ◌+◌, ◌-◌, ◌%◌, ◌==◌, nat_le, cond, List, [], ◌∷◌, ◌++◌, length, Option, Some, None}
use Rattle.std.specs.FinMap as maps
use Rattle.row_words.specs.Words.{split_gate}
use Rattle.gate_rule.specs.declared.view.Role.{Role}
use Rattle.gate_rule.specs.declared.view.Role.TheVariants.{Spent, Caller, Admin}
use Rattle.gate_rule.specs.declared.view.Ticket.TheVariants.{Without, Drawn, Served}
use Rattle.gate_rule.specs.declared.view.Pass.{Pass}
use Rattle.gate_rule.specs.declared.view.Pass.TheVariants.{Out, Inside}
use Rattle.gate_rule.specs.declared.view.StepDone.{StepDone}
use Rattle.gate_rule.specs.declared.view.Trace.{Trace}
use Rattle.gate_rule.specs.declared.view.Item.{Item}
use Rattle.gate_rule.specs.declared.view.AdminView.{AdminView}
use Rattle.gate_rule.specs.declared.view.Fixed.{Fixed}
use Rattle.gate_rule.specs.declared.view.Key.{Key}
use Rattle.gate_rule.specs.declared.view.View.{View}
use Rattle.gate_rule.specs.History.{of_caller}
use Rattle.gate_rule.specs.Meaning.{Means}
use Rattle.gate_rule.specs.Rows.{shows}

-- the policy number in a gate word
abbrev pub number_in : ℕ → ℕ
number_in w = (split_gate w).0

-- the version in a gate word
abbrev pub version_in : ℕ → ℕ
version_in w = (split_gate w).1

-- the passes entered in a gate word
abbrev pub passes_in : ℕ → ℕ
passes_in w = (split_gate w).2

-- a word after 1 was added to it
abbrev pub one_more : ℕ → ℕ
one_more n = (n + 1) % 18446744073709551616

-- the word that counts the passes left of a number's parity
abbrev pub leave_word : ℕ → ℕ
leave_word number = 1 + number % 2

-- a step on a word, with what it found and what it left
abbrev pub done : ℕ → ℕ → ℕ → StepDone
done word found left = record { word = word; found = found; left = left }

-- a trace with one step more
abbrev pub traced : Trace → StepDone → Trace
traced t d = record { steps = t.steps + 1; last = d; earlier = t.last }

-- the trace of no step
abbrev pub untraced : Trace
untraced = record { steps = 0; last = done 0 0 0; earlier = done 0 0 0 }

-- the number of a pass, or 0
abbrev pub number_of : Pass → ℕ
number_of Out = 0
number_of (Inside number version) = number

-- the version of a pass, or 0
abbrev pub pass_version : Pass → ℕ
pass_version Out = 0
pass_version (Inside number version) = version

-- a caller's number
abbrev pub caller_of : Role → ℕ
caller_of Spent = 0
caller_of (Caller n) = n
caller_of Admin = 0

-- 1 for a caller
abbrev pub is_caller : Role → ℕ
is_caller Spent = 0
is_caller (Caller n) = 1
is_caller Admin = 0

-- a role that was not given up: a caller's or the administrator's
abbrev pub IsLive : Role → Type 0
IsLive Spent = ⊥
IsLive (Caller n) = Unit {0}
IsLive Admin = Unit {0}

-- the longer of two lists, the second where they are of one length
abbrev pub longer : {E : Type 0} → List E → List E → List E
longer a b = cond (nat_le (length a) (length b)) b a

-- the first entry of a history beyond what was seen
abbrev pub entry_added : {E : Type 0} → List E → List E → Option E
entry_added [] [] = None
entry_added [] (e ∷ es) = Some e
entry_added (x ∷ xs) [] = None
entry_added (x ∷ xs) (e ∷ es) = entry_added xs es

-- a list with one entry before it, where there is one
abbrev pub with_entry : {E : Type 0} → Option E → List E → List E
with_entry None es = es
with_entry (Some e) es = e ∷ es

-- the entries of the administrator's turns
abbrev pub entries_of : {E : Type 0} → List (Item E) → List E
entries_of [] = []
entries_of (i ∷ is) = with_entry i.entry (entries_of is)

module _ {E : Type 0} where
  -- what an administrator knows before anything was done
  abbrev pub blank_desk : AdminView E
  blank_desk = record { made = 0; ended = []; newest = 0; version = 0; counted = 0; clear = 0; looked = None; found = 0; left = 0; given = []; turns = [] }

-- the quota of a seat of the gate
abbrev pub quota_in : {D O : Type 0} → Option (Fixed D O) → ℕ
quota_in None = 0
quota_in (Some f) = f.quota

module _ {E D O : Type 0} where
  -- a pass of the number and version found, and one less to enter
  abbrev pub entered : View E D O → ℕ → View E D O
  entered v n = record v { rights = record { pass = Inside (number_in n) (version_in n); quota = v.rights.quota - 1 }; trace = traced v.trace (done 0 n (one_more n)) }

  -- after its pass was given back
  abbrev pub left : View E D O → ℕ → View E D O
  left v n = record v { rights = record v.rights { pass = Out }; trace = traced v.trace (done (leave_word (number_of v.rights.pass)) n (one_more n)) }

  -- after it drew a ticket
  abbrev pub drawn : View E D O → ℕ → View E D O
  drawn v n = record v { ticket = Drawn n; trace = traced v.trace (done 3 n (one_more n)) }

  -- after a look at the ticket served, which is not the seat's
  abbrev pub missed : View E D O → ℕ → View E D O
  missed v n = record v { trace = traced v.trace (done 4 n n) }

  -- the number is one more, with the version that the word left shows; the passes of the new other parity are those entered that were not of the old one
  abbrev pub raised : View E D O → ℕ → ℕ → View E D O
  raised v n l = record v { trace = traced v.trace (done 0 n l); admin_view = record v.admin_view { newest = v.admin_view.newest + 1; version = version_in l; counted = passes_in n - v.admin_view.counted } }

  -- the older passes that are out, and the number below which none is left where there is no older one
  abbrev pub counted : View E D O → ℕ → View E D O
  counted v n = record v {
    trace = traced v.trace (done (leave_word (v.admin_view.newest + 1)) n n);
    admin_view = record v.admin_view { looked = Some (v.admin_view.counted - n); clear = cond (v.admin_view.counted - n == 0) v.admin_view.newest v.admin_view.clear };
  }

  -- a look at a row: where it shows the key under the pass's number, the key was served
  abbrev pub saw_row : Key → View E D O → ℕ → ℕ → View E D O
  saw_row key v w n = record v {
    trace = traced v.trace (done w n n);
    served = cond (shows (number_of v.rights.pass) key n) (v.served ++ key ∷ []) v.served;
  }

  -- a row that was filled
  abbrev pub filled : Key → View E D O → ℕ → ℕ → ℕ → View E D O
  filled key v w n l = record v { trace = traced v.trace (done w n l); served = v.served ++ key ∷ [] }

  -- a load of the gate word that tells nothing but its value
  abbrev pub glanced : View E D O → ℕ → View E D O
  glanced v n = record v { trace = traced v.trace (done 0 n n) }

  -- the administrator with one more seat made
  abbrev pub with_seat : View E D O → View E D O
  with_seat v = record v { admin_view = record v.admin_view { made = v.admin_view.made + 1 } }

  -- the seat that it made
  abbrev pub new_seat : View E D O → View E D O
  new_seat v = record {
    role = Caller v.admin_view.made;
    ticket = Without;
    trace = untraced;
    rights = record { pass = Out; quota = quota_in v.fixed };
    seen = [];
    mine = [];
    served = [];
    follows = [];
    admin_view = blank_desk;
    fixed = v.fixed;
  }

  -- the administrator with a retired seat's entries, and the longer history of the two
  abbrev pub with_ended : View E D O → View E D O → View E D O
  with_ended v w = record v {
    seen = longer v.seen w.seen;
    admin_view = record v.admin_view { ended = v.admin_view.ended ++ (record { number = caller_of w.role; entries = w.mine }) ∷ [] };
  }

  -- a seat that was given up
  abbrev pub spent_seat : View E D O
  spent_seat = record {
    role = Spent;
    ticket = Without;
    trace = untraced;
    rights = record { pass = Out; quota = 0 };
    seen = [];
    mine = [];
    served = [];
    follows = [];
    admin_view = blank_desk;
    fixed = None;
  }

  -- the first seat, the administrator's
  abbrev pub first_seat : Fixed D O → View E D O
  first_seat f = record {
    role = Admin;
    ticket = Without;
    trace = untraced;
    rights = record { pass = Out; quota = 0 };
    seen = [];
    mine = [];
    served = [];
    follows = [];
    admin_view = blank_desk;
    fixed = Some f;
  }

module _ {V E D O : Type 0} (M : Means V E D O) where
  -- a caller's own entries in a history
  abbrev pub mine_in : Role → List E → List E → List E
  mine_in Spent mine log = mine
  mine_in (Caller n) mine log = of_caller M.kind n log
  mine_in Admin mine log = mine

  -- the turn, with this value
  abbrev pub took : V → View E D O → ℕ → View E D O
  took x v n = record v {
    ticket = Served n;
    trace = traced v.trace (done 4 n n);
    seen = M.history x;
    follows = maps.entries (M.follows x);
    admin_view = record v.admin_view { looked = None; found = length (M.stale x) };
  }

  -- the item of a turn that ends with this value
  abbrev pub item_of : View E D O → V → Item E
  item_of v y = record { entry = entry_added v.seen (M.history y); looked = v.admin_view.looked; found = v.admin_view.found; left = length (M.stale y) }

  -- the turn passed on, with this value
  abbrev pub gave : V → View E D O → ℕ → View E D O
  gave y v n = record v {
    ticket = Without;
    trace = traced v.trace (done 4 n (one_more n));
    seen = M.history y;
    mine = mine_in v.role v.mine (M.history y);
    admin_view = record v.admin_view { left = length (M.stale y); given = maps.entries (M.follows y); turns = v.admin_view.turns ++ item_of v y ∷ [] };
  }
