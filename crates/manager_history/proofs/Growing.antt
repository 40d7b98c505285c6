-- A history that grows by one entry.
use Rattle.std.proofs.Common.{◌≡◌, ℕ, ◌+◌, ◌<◌, Bool, true, false, List, [], ◌∷◌, ◌++◌, length, refl, sym, ap, subst, ◌∙◌, arith}
use Rattle.access_vectors.specs.Decisions.{Decisions}
use Rattle.access_vectors.specs.Phases.{version_at, MayName, AreVersions}
use Rattle.access_vectors.specs.Forced.{MayAbort}
use Rattle.access_vectors.proofs.ForcedLemmas.{forced_push}
use Rattle.access_vectors.specs.declared.phase.Phase.{Phase}
use Rattle.access_vectors.specs.declared.phase.Phase.TheVariants.{Settled, Pending}
use Rattle.access_vectors.specs.declared.asked.Asked.{Asked}
use Rattle.manager_history.specs.declared.entry.Entry.{Entry}
use Rattle.manager_history.specs.declared.entry.Entry.TheVariants.{Op, Aborted, Notice}
use Rattle.manager_history.specs.Answers.{Manager}
use Rattle.manager_history.specs.Histories.{Moment, moment, start_of, after, phase_after, state_after, replay, acknowledgement, greatest_forced, forced_of, MayCome, IsLawful}
use Rattle.manager_history.specs.Kept.{HasPlace, IsKept}

-- the moment after one more entry
replay-push : {Call Reply State : Type 0} (plain : Manager Call Reply State) (d : Decisions) (at : Moment State)
    (entries : List (Entry Call Reply)) (entry : Entry Call Reply) → replay plain d at (entries ++ entry ∷ []) ≡ after plain d (replay plain d at entries) entry
replay-push plain d at [] entry = refl
replay-push plain d at (first ∷ entries) entry = replay-push plain d (after plain d at first) entries entry

-- a lawful history stays so under an entry that may come
IsLawful-push : {Call Reply State : Type 0} (plain : Manager Call Reply State) (formed : Decisions → State → ℕ → Call → Type 0) (d : Decisions)
    (at : Moment State) (entries : List (Entry Call Reply)) (entry : Entry Call Reply)
    → IsLawful plain formed d at entries → MayCome plain formed d (replay plain d at entries) entry → IsLawful plain formed d at (entries ++ entry ∷ [])
IsLawful-push plain formed d at [] entry lawful may = (may, tt)
IsLawful-push plain formed d at (first ∷ entries) entry lawful may =
    (lawful.0, IsLawful-push plain formed d (after plain d at first) entries entry lawful.1 may)

-- where there is room at all, there is room for an acknowledgement
has_place : (phase : Phase) (count room : ℕ) → count < room → HasPlace phase count room
has_place (Settled settled version) count room spare = tt
has_place (Pending pending old new) count room spare = spare

-- what is kept is kept over an entry that may come
kept_with : {Call Reply State : Type 0} {plain : Manager Call Reply State} {formed : Decisions → State → ℕ → Call → Type 0} {d : Decisions}
    {opening state : State} {phase : Phase} {history : List (Entry Call Reply)} {room : ℕ}
    (entry : Entry Call Reply) (state' : State) (phase' : Phase) (room' : ℕ)
    → IsKept d plain formed opening state phase history room
    → MayCome plain formed d (moment state phase (greatest_forced history)) entry
    → state_after plain d state phase entry ≡ state'
    → phase_after phase entry ≡ phase'
    → AreVersions d.versions phase'
    → HasPlace phase' (length (history ++ entry ∷ [])) room'
    → IsKept d plain formed opening state' phase' (history ++ entry ∷ []) room'
kept_with {plain = plain} {formed = formed} {d = d} {opening = opening} {history = history} entry state' phase' room' kept may state_is phase_is versions place =
    record {
      replayed = replay-push plain d (start_of opening) history entry ∙ ap (λ at. after plain d at entry) kept.replayed
          ∙ (λ i. moment (state_is i) (phase_is i) (sym (forced_push forced_of history entry) i));
      lawful = IsLawful-push plain formed d (start_of opening) history entry kept.lawful
          (subst (λ (at : Moment _). MayCome plain formed d at entry) (sym kept.replayed) may);
      versions = versions;
      spare = place;
    }

-- what is kept is kept over an operation that the plain manager answered so
pub kept_op : {Call Reply State : Type 0} {plain : Manager Call Reply State} {formed : Decisions → State → ℕ → Call → Type 0} {d : Decisions}
    {opening state : State} {phase : Phase} {history : List (Entry Call Reply)} {room : ℕ}
    (asker : Decisions) (version caller mark : ℕ) (call : Call) (number : ℕ) (asked : List Asked) (reply : Reply) (opening' state' : State)
    (history' : List (Entry Call Reply)) (room' : ℕ)
    → IsKept d plain formed opening state phase history room
    → asker ≡ d → version ≡ version_at phase number
    → formed d state caller call → MayName phase number
    → reply ≡ (plain asker state caller call number version).reply
    → asked ≡ (plain asker state caller call number version).asked
    → state' ≡ (plain asker state caller call number version).state
    → opening' ≡ opening
    → history' ≡ history ++ Op caller mark call number asked reply ∷ []
    → length history' < room'
    → IsKept d plain formed opening' state' phase history' room'
kept_op {Call = Call} {Reply = Reply} {State = State} {plain = plain} {formed = formed} {d = d} {opening = opening} {state = state} {phase = phase} {history = history}
    asker version caller mark call number asked reply opening' state' history' room' kept same at well named reply_is asked_is state_is opening_is history_is spare =
    let answered : plain asker state caller call number version ≡ plain d state caller call number (version_at phase number)
    = λ i. plain (same i) state caller call number (at i) in
    let entry : Entry Call Reply = Op caller mark call number asked reply in
    let may : MayCome plain formed d (moment state phase (greatest_forced history)) entry
    = record { named = named; well_formed = well; asked_is = asked_is ∙ ap (λ a. a.asked) answered; reply_is = reply_is ∙ ap (λ a. a.reply) answered } in
    let leads : state_after plain d state phase entry ≡ state' = sym (state_is ∙ ap (λ a. a.state) answered) in
    let place : HasPlace phase (length (history ++ entry ∷ [])) room'
    = has_place phase _ room' (subst (λ (h : List (Entry Call Reply)). length h < room') history_is spare) in
    let grown : IsKept d plain formed opening state' phase (history ++ entry ∷ []) room'
    = kept_with entry state' phase room' kept may leads refl kept.versions place in
    subst (λ (o : State). IsKept d plain formed o state' phase history' room') (sym opening_is)
    (subst (λ (h : List (Entry Call Reply)). IsKept d plain formed opening state' phase h room') (sym history_is) grown)

-- what is kept is kept over a call that is aborted
pub kept_aborted : {Call Reply State : Type 0} {plain : Manager Call Reply State} {formed : Decisions → State → ℕ → Call → Type 0} {d : Decisions}
    {opening state : State} {phase : Phase} {history : List (Entry Call Reply)} {room : ℕ}
    (caller mark : ℕ) (call : Call) (number : ℕ) (history' : List (Entry Call Reply)) (room' : ℕ)
    → IsKept d plain formed opening state phase history room
    → formed d state caller call → MayAbort phase (greatest_forced history) number
    → history' ≡ history ++ Aborted caller mark call number ∷ []
    → length history' < room'
    → IsKept d plain formed opening state phase history' room'
kept_aborted {Call = Call} {Reply = Reply} {plain = plain} {formed = formed} {d = d} {opening = opening} {state = state} {phase = phase} {history = history}
    caller mark call number history' room' kept well below history_is spare =
    let entry : Entry Call Reply = Aborted caller mark call number in
    let may : MayCome plain formed d (moment state phase (greatest_forced history)) entry = record { below = below; well_formed = well } in
    let place : HasPlace phase (length (history ++ entry ∷ [])) room'
    = has_place phase _ room' (subst (λ (h : List (Entry Call Reply)). length h < room') history_is spare) in
    subst (λ (h : List (Entry Call Reply)). IsKept d plain formed opening state phase h room') (sym history_is)
    (kept_with entry state phase room' kept may refl refl kept.versions place)

-- what is kept is kept over the notice of the next number
pub kept_notice : {Call Reply State : Type 0} {plain : Manager Call Reply State} {formed : Decisions → State → ℕ → Call → Type 0} {d : Decisions}
    {opening state : State} {phase : Phase} {history : List (Entry Call Reply)} {room : ℕ}
    (settled old version : ℕ) (opening' state' : State) (history' : List (Entry Call Reply)) (room' : ℕ)
    → IsKept d plain formed opening state phase history room
    → phase ≡ Settled settled old → version < d.versions
    → state' ≡ state → opening' ≡ opening
    → history' ≡ history ++ Notice (settled + 1) version ∷ []
    → length history' < room'
    → IsKept d plain formed opening' state' (Pending (settled + 1) old version) history' room'
kept_notice {Call = Call} {Reply = Reply} {State = State} {plain = plain} {formed = formed} {d = d} {opening = opening} {state = state} {phase = phase} {history = history} {room = room}
    settled old version opening' state' history' room' kept_before phase_is below state_is opening_is history_is spare =
    let kept : IsKept d plain formed opening state (Settled settled old) history room
    = subst (λ (p : Phase). IsKept d plain formed opening state p history room) phase_is kept_before in
    let entry : Entry Call Reply = Notice (settled + 1) version in
    let may : MayCome plain formed d (moment state (Settled settled old) (greatest_forced history)) entry = (refl, below) in
    let place : length (history ++ entry ∷ []) < room' = subst (λ (h : List (Entry Call Reply)). length h < room') history_is spare in
    let versions : AreVersions d.versions (Pending (settled + 1) old version) = (omega arith, kept.versions, below) in
    let grown : IsKept d plain formed opening state' (Pending (settled + 1) old version) (history ++ entry ∷ []) room'
    = kept_with entry state' (Pending (settled + 1) old version) room' kept may (sym state_is) refl versions place in
    subst (λ (o : State). IsKept d plain formed o state' (Pending (settled + 1) old version) history' room') (sym opening_is)
    (subst (λ (h : List (Entry Call Reply)). IsKept d plain formed opening state' (Pending (settled + 1) old version) h room') (sym history_is) grown)

-- what is kept is kept over the acknowledgement of the pending number, forced or not
pub kept_ack : {Call Reply State : Type 0} {plain : Manager Call Reply State} {formed : Decisions → State → ℕ → Call → Type 0} {d : Decisions}
    {opening state : State} {phase : Phase} {history : List (Entry Call Reply)} {room : ℕ}
    (forced : Bool) (number old new : ℕ) (opening' state' : State) (history' : List (Entry Call Reply)) (room' : ℕ)
    → IsKept d plain formed opening state phase history room
    → phase ≡ Pending number old new
    → state' ≡ state → opening' ≡ opening
    → history' ≡ history ++ acknowledgement forced number ∷ []
    → IsKept d plain formed opening' state' (Settled number new) history' room'
kept_ack {Call = Call} {Reply = Reply} {State = State} {plain = plain} {formed = formed} {d = d} {opening = opening} {state = state} {phase = phase} {history = history} {room = room}
    forced number old new opening' state' history' room' kept_before phase_is state_is opening_is history_is =
    let kept : IsKept d plain formed opening state (Pending number old new) history room
    = subst (λ (p : Phase). IsKept d plain formed opening state p history room) phase_is kept_before in
    let entry : Entry Call Reply = acknowledgement forced number in
    let at : Moment State = moment state (Pending number old new) (greatest_forced history) in
    let may : MayCome plain formed d at entry
    = elim forced as (λ (f : Bool). MayCome plain formed d at (acknowledgement f number)) [ true ↦ refl | false ↦ refl ] in
    let stays : state_after plain d state (Pending number old new) entry ≡ state'
    = elim forced as (λ (f : Bool). state_after plain d state (Pending number old new) (acknowledgement f number) ≡ state') [ true ↦ sym state_is | false ↦ sym state_is ] in
    let settles : phase_after (Pending number old new) entry ≡ Settled number new
    = elim forced as (λ (f : Bool). phase_after (Pending number old new) (acknowledgement {Call = Call} {Reply = Reply} f number) ≡ Settled number new) [ true ↦ refl | false ↦ refl ] in
    let grown : IsKept d plain formed opening state' (Settled number new) (history ++ entry ∷ []) room'
    = kept_with entry state' (Settled number new) room' kept may stays settles kept.versions.2 tt in
    subst (λ (o : State). IsKept d plain formed o state' (Settled number new) history' room') (sym opening_is)
    (subst (λ (h : List (Entry Call Reply)). IsKept d plain formed opening state' (Settled number new) h room') (sym history_is) grown)
